-- Which files are open after a run, and the numbers of the LOST word.
use Rattle.std.proofs.Common.{◌≡◌, ◌∙◌, ℕ, List, [], ◌++◌, length, map, codes, Option, Some, None, refl, ap, sym}
use lib.Utf8.{encode}
use Rattle.std.specs.Str.{chars}
use Rattle.std.proofs.lemmas.List.{length-map}
use Rattle.mr_text.specs.Numbers.{is_number, number_of}
use Rattle.mr_words.specs.Lost.{lost_numbers}
use Rattle.mr_array_words.specs.Scatter.{ScatterAsked}
use Rattle.mr_devices.specs.MemStates.{MemState, shelf_of}
use Rattle.mr_devices.specs.Writing.{Shelf}
use Rattle.mr_scatter_run.specs.Answers.{Answers, Ran}
use Rattle.mr_scatter_run.specs.Tasks.{numbers_in, opening_all}

-- the word lists two devices
pub two-listed : length (numbers_in (chars (codes "1,3"))) ≡ 2
unfolding chars lost_numbers number_of is_number encode
two-listed = refl

abbrev files_of : List (List ℕ) → Option Shelf → List (List ℕ)
files_of other (Some shelf) = shelf.opened
files_of other None = other

-- a file is open for each name
pub all-opened : (old new : MemState) (contents : List ℕ → List ℕ) (left : List ℕ) (asked : ScatterAsked) (report_failed failed : Type 0) (ran : Ran) (count : ℕ)
    → Answers contents left asked (shelf_of old) report_failed failed ran → ran.devices_new ≡ Some (shelf_of new) → ran.status ≡ 0 → old.opened ≡ [] → length asked.devices ≡ count → length new.opened ≡ count
all-opened old new contents left asked report_failed failed ran count answers told zero none many =
    let gave = answers.answered zero in
    let stored = gave.holds.1 (opening_all asked.devices (shelf_of old)) refl in
    ap (λ o. length (files_of [] o)) (sym told ∙ stored.tells) ∙ stored.same
    ∙ ap (λ xs. length (xs ++ map (shelf_of old).contents asked.devices)) none ∙ length-map asked.devices (shelf_of old).contents ∙ many
