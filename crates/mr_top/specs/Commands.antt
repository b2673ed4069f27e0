-- The steps of each request and of words: the eyes that they ask for, the bytes that they take, and
-- the result.
use Rattle.std.specs.Prelude.{List, ℕ}
use Rattle.mr_steps.specs.Readings.{Reading, given, ◌>>=◌}
use Rattle.mr_steps.specs.Requests.{or_usage, rebuild_words, request_of}
use Rattle.mr_steps.specs.declared.request.Request.{Request}
use Rattle.mr_steps.specs.declared.request.Request.TheVariants.{Check, Convert, Drill, Encode, Make, Plan, Rebuild, Scrub, Sectors}
use Rattle.mr_top.specs.CheckSteps.{check_answer}
use Rattle.mr_top.specs.Convert.{convert_answer}
use Rattle.mr_top.specs.Drill.{drill_given}
use Rattle.mr_top.specs.EncodeSteps.{encode_answer}
use Rattle.mr_top.specs.Findings.{Finding, to_write}
use Rattle.mr_top.specs.Make.{make_given}
use Rattle.mr_top.specs.PlanSteps.{plan_answer}
use Rattle.mr_top.specs.RebuildSteps.{rebuild_answer}
use Rattle.mr_top.specs.Scrub.{scrub_answer}
use Rattle.mr_top.specs.Sectors.{sectors_words}
use Rattle.mr_top.specs.SectorsSteps.{sectors_answer}

abbrev pub command_answer : (List ℕ → List ℕ) → List ℕ → Request → Reading Finding
command_answer contents left (Plan matrix lost workers budget) =
    to_write (plan_answer contents matrix lost budget)
command_answer contents left (Check matrix lost plan) =
    to_write (check_answer contents matrix lost plan)
command_answer contents left (Make code p) = to_write (given (make_given code p))
command_answer contents left (Encode matrix payload stripes bytes) =
    to_write (encode_answer contents matrix payload stripes bytes)
command_answer contents left (Rebuild matrix image lost workers budget plan live) =
    rebuild_answer contents left (rebuild_words matrix image lost workers budget plan live)
command_answer contents left (Convert matrix image) =
    to_write (convert_answer contents matrix image)
command_answer contents left (Scrub matrix image) = to_write (scrub_answer contents matrix image)
command_answer contents left (Sectors matrix image lost bad budget) =
    to_write (sectors_answer contents (sectors_words matrix image lost bad budget))
command_answer contents left (Drill number) = to_write (given (drill_given number))

-- the answer to the words, over files with these contents and a script with these bytes left
unfoldable pub answer : List (List ℕ) → (List ℕ → List ℕ) → List ℕ → Reading Finding
answer words contents left = do
  request ← given (or_usage (request_of words))
  command_answer contents left request
