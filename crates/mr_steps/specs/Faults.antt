-- The status and the line of each fault.
use Rattle.std.specs.Prelude.{List, [], codes, decimal, flat_map, ℕ, ◌∷◌, ◌≡◌}
use Rattle.mr_bits.specs.declared.errors.What.{What}
use Rattle.mr_bits.specs.declared.errors.What.TheVariants.{Columns, ImageBytes, MatrixBytes, PlanBytes, ReplyBytes, ScriptBytes, SectorBytes, Stripes, SymbolBytes, Symbols}
use Rattle.mr_form.specs.declared.faults.LineKind.{LineKind}
use Rattle.mr_form.specs.declared.faults.LineKind.TheVariants.{Extra, Head, Missing, NoEnd, Row, Price}
use Rattle.mr_form.specs.declared.faults.MatrixFault.{MatrixFault}
use Rattle.mr_form.specs.declared.faults.MatrixFault.TheVariants.{Bad, Large as IsLarge}
use Rattle.mr_image.specs.declared.faults.HeadFault.{HeadFault}
use Rattle.mr_image.specs.declared.faults.HeadFault.TheVariants.{Bad as IsBadHead, Large as IsLargeImage}
use Rattle.mr_image.specs.declared.faults.ImageKind.{ImageKind}
use Rattle.mr_image.specs.declared.faults.ImageKind.TheVariants.{Bytes as OfBytes, Head as OfHead, Length as OfLength, Planned as OfPlanned, Shape as OfShape, Version as OfVersion}
use Rattle.mr_io.specs.declared.errors.FilesError.{FilesError}
use Rattle.mr_io.specs.declared.errors.FilesError.TheVariants.{Failed as IsFailed, Memory as IsMemory}
use Rattle.mr_plan.specs.declared.errors.Why.{Why}
use Rattle.mr_plan.specs.declared.errors.Why.TheVariants.{Missing as IsMissing, NotSurvivor, Outside, Spare, Stray, Sum}
use Rattle.mr_words.specs.declared.errors.WordsError.{WordsError}
use Rattle.mr_words.specs.declared.errors.WordsError.TheVariants.{Memory as WantsMemory, Usage as IsUsage}
use Rattle.mr_steps.specs.declared.fault.Fault.{Fault}
use Rattle.mr_steps.specs.declared.fault.Fault.TheVariants.{BadImage, BadMatrix, BadPlan, BadPlanLine, BadScript, BadSectors, Memory, NoDevice, ReadFault, TooLarge, Undetermined, UndeterminedAt, UndeterminedIn, Usage, WriteFault}

abbrev pub fault_status : Fault → ℕ
fault_status Usage = 1
fault_status (BadMatrix line kind) = 2
fault_status (TooLarge what number) = 3
fault_status (NoDevice device) = 4
fault_status (BadImage kind) = 5
fault_status (BadScript line) = 6
fault_status (Undetermined symbol) = 7
fault_status (UndeterminedAt rotation symbol) = 7
fault_status (UndeterminedIn stripe symbol) = 7
fault_status (BadPlanLine line) = 8
fault_status (BadPlan symbol why) = 8
fault_status ReadFault = 9
fault_status WriteFault = 10
fault_status Memory = 11
fault_status (BadSectors line) = 12

abbrev pub kind_name : LineKind → List ℕ
kind_name Missing = codes "missing"
kind_name NoEnd = codes "noend"
kind_name Head = codes "head"
kind_name Price = codes "price"
kind_name Row = codes "row"
kind_name Extra = codes "extra"

abbrev pub image_name : ImageKind → List ℕ
image_name OfHead = codes "head"
image_name OfShape = codes "shape"
image_name OfBytes = codes "bytes"
image_name OfLength = codes "length"
image_name OfPlanned = codes "planned"
image_name OfVersion = codes "version"

abbrev pub why_name : Why → List ℕ
why_name NotSurvivor = codes "notsurvivor"
why_name IsMissing = codes "missing"
why_name Stray = codes "stray"
why_name Outside = codes "outside"
why_name Sum = codes "sum"
why_name Spare = codes "spare"

abbrev pub what_name : What → List ℕ
what_name MatrixBytes = codes "matrixbytes"
what_name Symbols = codes "symbols"
what_name Columns = codes "columns"
what_name PlanBytes = codes "planbytes"
what_name SymbolBytes = codes "symbolbytes"
what_name ImageBytes = codes "imagebytes"
what_name ScriptBytes = codes "scriptbytes"
what_name ReplyBytes = codes "replybytes"
what_name SectorBytes = codes "sectorbytes"
what_name Stripes = codes "stripes"

-- pieces of a text, one after another
abbrev pub joined : List (List ℕ) → List ℕ
joined pieces = flat_map (λ piece. piece) pieces

-- the line that the report has in place of the answer
abbrev pub fault_line : Fault → List ℕ
fault_line Usage = codes "status 1 usage\n"
fault_line (BadMatrix line kind) =
    joined (codes "status 2 matrix line " ∷ decimal line ∷ codes " " ∷ kind_name kind ∷ codes "\n"
    ∷ [])
fault_line (TooLarge what number) =
    joined (codes "status 3 large " ∷ what_name what ∷ codes " " ∷ decimal number ∷ codes "\n" ∷ [])
fault_line (NoDevice device) = joined (codes "status 4 device " ∷ decimal device ∷ codes "\n" ∷ [])
fault_line (BadImage kind) = joined (codes "status 5 image " ∷ image_name kind ∷ codes "\n" ∷ [])
fault_line (BadScript line) =
    joined (codes "status 6 script line " ∷ decimal line ∷ codes "\n" ∷ [])
fault_line (Undetermined symbol) =
    joined (codes "status 7 undetermined symbol " ∷ decimal symbol ∷ codes "\n" ∷ [])
fault_line (UndeterminedAt rotation symbol) =
    joined (codes "status 7 undetermined rotation " ∷ decimal rotation ∷ codes " symbol "
    ∷ decimal symbol ∷ codes "\n" ∷ [])
fault_line (UndeterminedIn stripe symbol) =
    joined (codes "status 7 undetermined stripe " ∷ decimal stripe ∷ codes " symbol "
    ∷ decimal symbol ∷ codes "\n" ∷ [])
fault_line (BadPlanLine line) =
    joined (codes "status 8 plan line " ∷ decimal line ∷ codes "\n" ∷ [])
fault_line (BadPlan symbol why) =
    joined (codes "status 8 plan symbol " ∷ decimal symbol ∷ codes " " ∷ why_name why ∷ codes "\n"
    ∷ [])
fault_line ReadFault = codes "status 9 read\n"
fault_line WriteFault = codes "status 10 write\n"
fault_line Memory = codes "status 11 memory\n"
fault_line (BadSectors line) =
    joined (codes "status 12 sectors line " ∷ decimal line ∷ codes "\n" ∷ [])

-- the fault of a text that is no matrix
abbrev pub matrix_fault : MatrixFault → Fault
matrix_fault (Bad line kind) = BadMatrix line kind
matrix_fault (IsLarge large) = TooLarge large.what large.number

-- the fault of an image
abbrev pub head_fault : HeadFault → Fault
head_fault (IsBadHead kind) = BadImage kind
head_fault (IsLargeImage large) = TooLarge large.what large.number

-- the fault of an eye that was not lent
abbrev pub IsFilesFault : FilesError → Fault → Type 0
IsFilesFault IsFailed fault = fault ≡ ReadFault
IsFilesFault IsMemory fault = fault ≡ Memory

-- the fault of words that are not read
abbrev pub IsWordsFault : WordsError → Fault → Type 0
IsWordsFault IsUsage fault = fault ≡ Usage
IsWordsFault WantsMemory fault = fault ≡ Memory
