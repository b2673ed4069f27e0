-- The answer of a request, as a relation between what it accepts and what is written.
use Rattle.std.specs.Prelude.{Bool, List, None, Ok, Option, Some, false, is_ok, true, ℕ, ◌≡◌}
use Rattle.mr_ready.specs.Writing.{IsOutput}
use Rattle.mr_steps.specs.Refusals.{Gave, refusal_of}
use Rattle.mr_steps.specs.Requests.{rebuild_words, request_of}
use Rattle.mr_steps.specs.Sinks.{Output}
use Rattle.mr_steps.specs.declared.fault.Fault.{Fault}
use Rattle.mr_steps.specs.declared.fault.Fault.TheVariants.{Usage}
use Rattle.mr_steps.specs.declared.request.Request.{Request}
use Rattle.mr_steps.specs.declared.request.Request.TheVariants.{Check, Convert, Drill, Encode, Make, Plan, Rebuild, Scrub, Sectors}
use Rattle.mr_top.specs.Check.{check_accepted, check_written}
use Rattle.mr_top.specs.Convert.{convert_accepted}
use Rattle.mr_top.specs.Drill.{drill_given}
use Rattle.mr_top.specs.Encode.{encode_accepted, image_written}
use Rattle.mr_top.specs.Make.{make_given}
use Rattle.mr_top.specs.Plan.{plan_accepted, plan_written}
use Rattle.mr_top.specs.Rebuild.{image_accepted, rebuild_accepted}
use Rattle.mr_top.specs.Scrub.{scrub_accepted}
use Rattle.mr_top.specs.Sectors.{repair_accepted, repair_written, sectors_words}

-- The request is accepted over files with these contents and a script with these bytes left, and
-- this is its answer.
abbrev pub IsAnswered : Request → (List ℕ → List ℕ) → List ℕ → Output → Type 0
IsAnswered (Plan matrix lost workers budget) contents left output =
    Gave (plan_accepted contents matrix lost budget) (λ p. output ≡ plan_written p)
IsAnswered (Check matrix lost plan) contents left output =
    Gave (check_accepted contents matrix lost plan) (λ cost. output ≡ check_written cost)
IsAnswered (Make code p) contents left output = make_given code p ≡ Ok output
IsAnswered (Encode matrix payload stripes bytes) contents left output =
    Gave (encode_accepted contents matrix payload stripes bytes)
    (λ image. output ≡ image_written image)
IsAnswered (Rebuild matrix image lost workers budget plan live) contents left output =
    Gave (rebuild_accepted contents left (rebuild_words matrix image lost workers budget plan live))
    (λ r. IsOutput r.order r.bytes output)
IsAnswered (Convert matrix image) contents left output =
    Gave (convert_accepted contents matrix image) (λ file. output ≡ image_written file)
IsAnswered (Scrub matrix image) contents left output =
    scrub_accepted contents matrix image ≡ Ok output
IsAnswered (Sectors matrix image lost bad budget) contents left output =
    Gave (repair_accepted contents (sectors_words matrix image lost bad budget))
    (λ d. output ≡ repair_written contents (sectors_words matrix image lost bad budget) d)
IsAnswered (Drill number) contents left output = drill_given number ≡ Ok output

-- the first refusal of a request
abbrev pub refusal : (List ℕ → List ℕ) → List ℕ → Request → Option Fault
refusal contents left (Plan matrix lost workers budget) =
    refusal_of (plan_accepted contents matrix lost budget)
refusal contents left (Check matrix lost plan) =
    refusal_of (check_accepted contents matrix lost plan)
refusal contents left (Make code p) = refusal_of (make_given code p)
refusal contents left (Encode matrix payload stripes bytes) =
    refusal_of (encode_accepted contents matrix payload stripes bytes)
refusal contents left (Rebuild matrix image lost workers budget plan live) =
    refusal_of (rebuild_accepted contents left
    (rebuild_words matrix image lost workers budget plan live))
refusal contents left (Convert matrix image) = refusal_of (convert_accepted contents matrix image)
refusal contents left (Scrub matrix image) = refusal_of (scrub_accepted contents matrix image)
refusal contents left (Sectors matrix image lost bad budget) =
    refusal_of (repair_accepted contents (sectors_words matrix image lost bad budget))
refusal contents left (Drill number) = refusal_of (drill_given number)

-- the first refusal of the words' request; words that are none are refused as such
abbrev pub words_refusal : (List ℕ → List ℕ) → List ℕ → Option Request → Option Fault
words_refusal contents left None = Some Usage
words_refusal contents left (Some request) = refusal contents left request

-- the request comes to the step that reads the script: a rebuild that nothing refuses before it
abbrev pub reaches_script : (List ℕ → List ℕ) → Request → Bool
reaches_script contents (Plan matrix lost workers budget) = false
reaches_script contents (Check matrix lost plan) = false
reaches_script contents (Make code p) = false
reaches_script contents (Encode matrix payload stripes bytes) = false
reaches_script contents (Rebuild matrix image lost workers budget plan live) =
    is_ok (image_accepted contents (rebuild_words matrix image lost workers budget plan live))
reaches_script contents (Convert matrix image) = false
reaches_script contents (Scrub matrix image) = false
reaches_script contents (Sectors matrix image lost bad budget) = false
reaches_script contents (Drill number) = false

-- the same for the words' request
abbrev pub words_reach_script : (List ℕ → List ℕ) → Option Request → Bool
words_reach_script contents None = false
words_reach_script contents (Some request) = reaches_script contents request

-- the words ask for a script: those of a rebuild alone
abbrev pub asks_script : Option Request → Bool
asks_script None = false
asks_script (Some (Plan matrix lost workers budget)) = false
asks_script (Some (Check matrix lost plan)) = false
asks_script (Some (Make code p)) = false
asks_script (Some (Encode matrix payload stripes bytes)) = false
asks_script (Some (Rebuild matrix image lost workers budget plan live)) = true
asks_script (Some (Convert matrix image)) = false
asks_script (Some (Scrub matrix image)) = false
asks_script (Some (Sectors matrix image lost bad budget)) = false
asks_script (Some (Drill number)) = false

-- This is the answer to the words.
pub record IsAnswer (words : List (List ℕ)) (contents : List ℕ → List ℕ) (left : List ℕ)
    (output : Output) : Type 0 where
  pub request : Request
  pub is : request_of words ≡ Some request
  pub answered : IsAnswered request contents left output
