-- What holds between any two steps of the words of a board and of what its passes know.
--
-- Word 0 is the number of draws. Then comes one word for each stripe, its state: 1 where it is done,
-- and 0 before. Then come the words of the lost symbols, stripe by stripe.
use Rattle.std.specs.Prelude.{◌≡◌, ℕ, ◌+◌, ◌*◌, ◌^◌, ◌<◌, ◌≤◌, ◌==◌, List, [], sum_by, length, slice_index, Option, Some, None, if◌then◌else◌}
use mathlib.Core.Option.{some}
use lib.ListN.{get_elem?}
use Rattle.atomic_table.specs.Table.{State}
use Rattle.mr_counts.specs.Numbers.{times, beyond, WeighAsBelow}
use Rattle.mr_counts.specs.Shares.{whole_share}
use Rattle.mr_board.specs.Terms.{BoardTerms, stripes_of, words_of}
use Rattle.mr_board.specs.Rights.{IsRight}
use Rattle.mr_board.specs.declared.view.PassView.{PassView}

-- ---- where the words stand

-- the state of stripe t
abbrev pub state_place : ℕ → ℕ
state_place t = 1 + t

-- word i of stripe t
abbrev pub word_place : BoardTerms → ℕ → ℕ → ℕ
word_place terms t i = 1 + stripes_of terms + (t * words_of terms + i)

-- how many words there are
abbrev pub all_words : BoardTerms → ℕ
all_words terms = 1 + stripes_of terms + stripes_of terms * words_of terms

-- how many numbers were drawn
abbrev pub drawn : List ℕ → ℕ
drawn words = slice_index words 0

abbrev pub state : List ℕ → ℕ → ℕ
state words t = slice_index words (state_place t)

abbrev pub word_at : BoardTerms → List ℕ → ℕ → ℕ → ℕ
word_at terms words t i = slice_index words (word_place terms t i)

-- ---- the rule

-- 1 where t is the open stripe
abbrev pub opens : ℕ → Option ℕ → ℕ
opens t None = 0
opens t (Some x) = if x == t then 1 else 0

-- The pass works on stripe t: it drew it and did not give it up. The stripe is not done, and of its
-- words those that the pass stored are right.
pub record IsOpen (terms : BoardTerms) (words : List ℕ) (v : PassView) (t : ℕ) : Type 0 where
  pub stripe : t < stripes_of terms
  pub drew : 0 < times t v.draws
  pub kept : times t v.gave ≡ 0
  pub undone : state words t ≡ 0
  pub few_filled : v.filled ≤ words_of terms
  pub right : (i : ℕ) → i < v.filled → IsRight terms t i (word_at terms words t i)

-- a stripe that is done
pub record IsDone (terms : BoardTerms) (words : List ℕ) (t : ℕ) : Type 0 where
  pub stripe : t < stripes_of terms
  pub is_done : state words t ≡ 1

-- a stripe that the pass drew and gave up is not done
pub record IsGivenUp (terms : BoardTerms) (words : List ℕ) (v : PassView) (t : ℕ) : Type 0 where
  pub stripe : t < stripes_of terms
  pub drew : 0 < times t v.draws
  pub undone : state words t ≡ 0

-- What a pass knows is so. A pass without a part is spent and has no draws; any other names what the
-- board is made for. It drew at most one number of no stripe for each of its parts. Its open stripe,
-- those that it saw done and those that it gave up are so, and each stripe that it drew is one of these.
pub record Fits (terms : BoardTerms) (words : List ℕ) (v : PassView) : Type 0 where
  pub names_terms : 0 < v.parts → v.terms ≡ terms
  pub spent : v.parts ≡ 0 → v.draws ≡ []
  pub few_beyond : beyond (stripes_of terms) v.draws ≤ v.parts
  pub works : (t : ℕ) → v.claimed ≡ Some t → IsOpen terms words v t
  pub saw : (t : ℕ) → 0 < times t v.seen → IsDone terms words t
  pub gave : (t : ℕ) → 0 < times t v.gave → IsGivenUp terms words v t
  pub settled : (t : ℕ) → t < stripes_of terms → 0 < times t v.draws
      → 0 < times t v.seen + times t v.gave + opens t v.claimed

-- These words and views fit each other: the views share the numbers below the number of draws, and
-- have all parts together; each state is 0 or 1, and 0 at a stripe that was not drawn; the words of a
-- stripe that is done are right; and each view fits.
pub record IsKept (terms : BoardTerms) (words : List ℕ) (views : List PassView) : Type 0 where
  pub few_stripes : stripes_of terms < 2 ^ 32
  pub size : length words ≡ all_words terms
  pub all_draws : WeighAsBelow (λ v. v.draws) views (drawn words)
  pub all_parts : sum_by (λ v. v.parts + v.left) views ≡ whole_share
  pub states : (t : ℕ) → t < stripes_of terms → state words t < 2
  pub fresh : (t : ℕ) → t < stripes_of terms → drawn words ≤ t → state words t ≡ 0
  pub done : (t i : ℕ) → t < stripes_of terms → state words t ≡ 1 → i < words_of terms
      → IsRight terms t i (word_at terms words t i)
  pub each_fits : (id : ℕ) (v : PassView) → get_elem? views id ≡ some v → Fits terms words v

-- the rule of the table
abbrev pub Kept : {S : Type 0} → BoardTerms → State S PassView → Type 0
Kept terms s = IsKept terms s.words s.views
