-- The command `table`: what it reads, and what it writes.
use Rattle.std.specs.Prelude.{Err, List, None, Option, Some, All, Result, Ok, [], ◌∷◌, ◌++◌, ◌≡◌, ◌<◌, ⊤, codes, decimal, flat_map, slice_index, ℕ}
use Rattle.mr_model.specs.Code.{Code, cost}
use Rattle.mr_model.specs.Members.{members}
use Rattle.mr_eq.specs.declared.found.Found.{Found}
use Rattle.mr_eq.specs.declared.found.Found.TheVariants.{Least as FoundLeast, Spent as FoundSpent}
use Rattle.mr_front.specs.Searches.{set_of}
use Rattle.mr_table.specs.Losses.{losses}
use Rattle.mr_table.specs.Rows.{IsRow, devices_of, table_of}
use Rattle.mr_table.specs.declared.row.Row.{Row}
use Rattle.mr_table.specs.declared.row.JobAnswer.{JobAnswer}
use Rattle.mr_table.specs.declared.row.JobAnswer.TheVariants.{Plan as PlanAnswer, Undetermined as UndeterminedAnswer}
use Rattle.mr_steps.specs.Faults.{joined}
use Rattle.mr_steps.specs.Lines.{line_text}
use Rattle.mr_steps.specs.Readings.{Reading, given, ◌>>=◌}
use Rattle.mr_steps.specs.Sinks.{Output}
use Rattle.mr_steps.specs.TextFiles.{matrix_file}
use Rattle.mr_steps.specs.declared.choice_line.ChoiceLine.{ChoiceLine}
use Rattle.mr_steps.specs.declared.choice_line.ChoiceLine.TheVariants.{Least as LeastLine, Spent as SpentLine}
use Rattle.mr_steps.specs.declared.fault.Fault.TheVariants.{Usage}
use Rattle.mr_late.specs.declared.words.TableWords.{TableWords}
use Rattle.mr_late.specs.declared.tabled.Tabled.{Tabled}

-- ---- the lines

-- each number behind a byte: the first behind this one, and each other behind a comma
abbrev pub listed : ℕ → List ℕ → List ℕ
listed before [] = []
listed before (n ∷ ns) = (before ∷ decimal n) ++ listed 44 ns

-- `loss`, the devices of the set, and a space
abbrev pub loss_text : ℕ → List ℕ
loss_text devices = (codes "loss" ++ listed 32 (members devices)) ++ codes " "

-- the line of what was found within the budget
abbrev pub line_of : Code → ℕ → Found → ChoiceLine
line_of m budget (FoundLeast set work) = LeastLine (cost m set) work
line_of m budget (FoundSpent set) = SpentLine (cost m set) budget

abbrev pub answer_text : Code → ℕ → JobAnswer → List ℕ
answer_text m budget (PlanAnswer found) = line_text (line_of m budget found)
answer_text m budget (UndeterminedAnswer symbol) =
    joined (codes "undetermined symbol " ∷ decimal symbol ∷ codes "\n" ∷ [])

abbrev pub row_text : Code → ℕ → Row → List ℕ
row_text m budget row = loss_text (devices_of m row) ++ answer_text m budget row.answer

-- the text of a table: the line of each loss of one device or two, in their order
abbrev pub table_text : Code → ℕ → List ℕ
table_text m budget = flat_map (row_text m budget) (table_of m budget)

-- ---- the command

-- what `table` writes of a matrix within a budget: its table, and no report
abbrev pub table_output : ℕ → Code → Output
table_output budget m = record { out = table_text m budget; report = [] }

-- table MATRIX, within the budget
unfoldable pub table_answer : TableWords → (List ℕ → List ℕ) → Reading Output
table_answer words contents = do
  m ← matrix_file contents words.matrix
  given (Ok (table_output words.budget m))

-- the answer to what the words ask; words that are none are refused
abbrev pub answer_to : Option TableWords → (List ℕ → List ℕ) → Reading Output
answer_to None contents = given (Err Usage)
answer_to (Some words) contents = table_answer words contents

-- what a table that was made writes
abbrev pub output_of : Tabled → Output
output_of t = record { out = flat_map (row_text t.matrix t.budget) t.rows.items; report = [] }

-- its losses are those of the matrix, and each row is of one of them
pub record CanPrint (t : Tabled) : Type 0 where
  pub losses_are : t.losses.items ≡ losses t.matrix.devices
  pub rows : All (IsRow t.matrix t.budget) t.rows.items

-- the set of an answer is of symbols
abbrev pub IsWithin : ℕ → JobAnswer → Type 0
IsWithin bound (PlanAnswer found) = set_of found < bound
IsWithin bound (UndeterminedAnswer symbol) = ⊤
