-- What the readers of these words answer.
use Rattle.std.specs.Prelude.{Option, Result}
use Rattle.std.specs.Result.{result_map_both}
use Rattle.mr_words.specs.Reads.{Reads}
use Rattle.mr_words.specs.declared.errors.WordsError.{WordsError}

-- the answer says what is asked, and Usage comes exactly where nothing is; want of memory may come at any time
abbrev pub ReadsAs : {W X : Type 0} → (W → X) → Option X → Result W WordsError → Type 0
ReadsAs asked value result = Reads value (result_map_both asked (λ error. error) result)
