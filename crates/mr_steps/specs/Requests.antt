-- The requests that the words of the command line make.
use Rattle.std.specs.List.{list_any}
use Rattle.std.specs.Prelude.{Bool, Err, List, None, Ok, Option, Result, Some, [], bytes_eq, codes, drop, if◌then◌else◌, option_map, true, ℕ, ⊤, ◌==◌, ◌∷◌, ◌≡◌}
use Rattle.mr_words.specs.Check.{check_of}
use Rattle.mr_words.specs.Drill.{drill_of}
use Rattle.mr_words.specs.Encode.{encode_of}
use Rattle.mr_words.specs.ImageWords.{image_words_of}
use Rattle.mr_words.specs.Make.{make_of}
use Rattle.mr_words.specs.Plan.{plan_of}
use Rattle.mr_words.specs.Rebuild.{rebuild_of}
use Rattle.mr_words.specs.Sectors.{sectors_words_of}
use Rattle.mr_words.specs.Texts.{IsWorkers, primes_of}
use Rattle.mr_words.specs.declared.check_words.CheckWords.{CheckWords}
use Rattle.mr_words.specs.declared.code.Code.{Code}
use Rattle.mr_words.specs.declared.drill_words.DrillWords.{DrillWords}
use Rattle.mr_words.specs.declared.encode_words.EncodeWords.{EncodeWords}
use Rattle.mr_words.specs.declared.image_words.ImageWords.{ImageWords}
use Rattle.mr_words.specs.declared.make_words.MakeWords.{MakeWords}
use Rattle.mr_words.specs.declared.plan_words.PlanWords.{PlanWords}
use Rattle.mr_words.specs.declared.rebuild_words.RebuildWords.{RebuildWords}
use Rattle.mr_words.specs.declared.sectors_words.SectorsWords.{SectorsWords}
use Rattle.mr_steps.specs.declared.fault.Fault.{Fault}
use Rattle.mr_steps.specs.declared.fault.Fault.TheVariants.{Usage}
use Rattle.mr_steps.specs.declared.request.Request.{Request}
use Rattle.mr_steps.specs.declared.request.Request.TheVariants.{Check, Convert, Drill, Encode, Make, Plan, Rebuild, Scrub, Sectors}

-- the request that the words of each command make
abbrev pub plan_request : PlanWords → Request
plan_request words = Plan words.matrix words.lost words.workers words.budget

abbrev pub make_request : MakeWords → Request
make_request words = Make words.code words.prime

abbrev pub check_request : CheckWords → Request
check_request words = Check words.matrix words.lost words.plan

abbrev pub encode_request : EncodeWords → Request
encode_request words = Encode words.matrix words.payload words.stripes words.bytes

abbrev pub rebuild_request : RebuildWords → Request
rebuild_request words =
    Rebuild words.matrix words.image words.lost words.workers words.budget words.plan words.live

abbrev pub convert_request : ImageWords → Request
convert_request words = Convert words.matrix words.image

abbrev pub scrub_request : ImageWords → Request
scrub_request words = Scrub words.matrix words.image

abbrev pub sectors_request : SectorsWords → Request
sectors_request words =
    Sectors words.matrix words.image words.lost words.bad words.budget

abbrev pub drill_request : DrillWords → Request
drill_request words = Drill words.number

-- the request of words, of which the first is the command and is not looked at
abbrev pub plan_request_of : List (List ℕ) → Option Request
plan_request_of words = option_map plan_request (plan_of (drop 1 words))

abbrev pub make_request_of : List (List ℕ) → Option Request
make_request_of words = option_map make_request (make_of (drop 1 words))

abbrev pub check_request_of : List (List ℕ) → Option Request
check_request_of words = option_map check_request (check_of (drop 1 words))

abbrev pub encode_request_of : List (List ℕ) → Option Request
encode_request_of words = option_map encode_request (encode_of (drop 1 words))

abbrev pub rebuild_request_of : List (List ℕ) → Option Request
rebuild_request_of words = option_map rebuild_request (rebuild_of (drop 1 words))

abbrev pub convert_request_of : List (List ℕ) → Option Request
convert_request_of words = option_map convert_request (image_words_of (drop 1 words))

abbrev pub scrub_request_of : List (List ℕ) → Option Request
scrub_request_of words = option_map scrub_request (image_words_of (drop 1 words))

abbrev pub sectors_request_of : List (List ℕ) → Option Request
sectors_request_of words = option_map sectors_request (sectors_words_of (drop 1 words))

abbrev pub drill_request_of : List (List ℕ) → Option Request
drill_request_of words = option_map drill_request (drill_of (drop 1 words))

abbrev pub command_request : List ℕ → List (List ℕ) → Option Request
command_request command words =
    if bytes_eq command (codes "plan") then plan_request_of words
    else if bytes_eq command (codes "check") then check_request_of words
    else if bytes_eq command (codes "make") then make_request_of words
    else if bytes_eq command (codes "encode") then encode_request_of words
    else if bytes_eq command (codes "rebuild") then rebuild_request_of words
    else if bytes_eq command (codes "convert") then convert_request_of words
    else if bytes_eq command (codes "scrub") then scrub_request_of words
    else if bytes_eq command (codes "sectors") then sectors_request_of words
    else if bytes_eq command (codes "drill") then drill_request_of words
    else None

-- the request of the words after the program's name, if they are in the grammar
unfoldable pub request_of : List (List ℕ) → Option Request
request_of [] = None
request_of (command ∷ rest) = command_request command (command ∷ rest)

-- the code is made for the prime
abbrev pub IsMade : Code → ℕ → Type 0
IsMade code p = list_any (λ prime. prime == p) (primes_of code) ≡ true

-- a request that can be answered: there are workers, and a matrix to be made is one that its code
-- is made for
abbrev pub IsRequest : Request → Type 0
IsRequest (Plan matrix lost workers budget) = IsWorkers workers
IsRequest (Check matrix lost plan) = ⊤
IsRequest (Make code p) = IsMade code p
IsRequest (Encode matrix payload stripes bytes) = ⊤
IsRequest (Rebuild matrix image lost workers budget plan live) = IsWorkers workers
IsRequest (Convert matrix image) = ⊤
IsRequest (Scrub matrix image) = ⊤
IsRequest (Sectors matrix image lost bad budget) = ⊤
IsRequest (Drill number) = ⊤

-- the words of a rebuild
abbrev pub rebuild_words : List ℕ → List ℕ → List ℕ → ℕ → ℕ → Option (List ℕ) → Bool
    → RebuildWords
rebuild_words matrix image lost workers budget plan live = record {
  matrix = matrix;
  image = image;
  lost = lost;
  workers = workers;
  budget = budget;
  plan = plan;
  live = live;
}

-- what the words ask, or the refusal of the words
abbrev pub or_usage : {X : Type 0} → Option X → Result X Fault
or_usage (Some asked) = Ok asked
or_usage None = Err Usage
