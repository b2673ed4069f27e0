-- The report of the plans, one rotation after another.
use Rattle.std.proofs.Common.{arith, ◌≡◌, ◌+◌, ◌<◌, ◌≤◌, ℕ, List, take, length, get_or, flat_map, Option, sym, ◌∙◌, ap, subst}
use Rattle.std.specs.List.{range_with_len}
use Rattle.std.proofs.Math.Seq.{take-length}
use Rattle.std.proofs.lemmas.List.FromFn.{get_or-range_with_len, length-range_with_len}
use Rattle.std.proofs.lemmas.List.{get_or_default}
use Rattle.mr_steps.specs.declared.choice_line.ChoiceLine.{ChoiceLine}
use Rattle.mr_steps.specs.declared.choice_line.ChoiceLine.TheVariants.{Given as GivenLine}
use Rattle.mr_ready.specs.Reports.{line_at}
use Rattle.mr_io.specs.Taking.{Held, Takes, TakesPart}
use Rattle.mr_io.proofs.Taking.{part_piece, takes_piece}

module _ (f : ℕ → List ℕ) (n r : ℕ) (low : r < n) (a b c : Option Held) (first : Takes a b (flat_map f (take r (range_with_len 0 n)))) where
  inside : r < length (range_with_len 0 n)
  inside = omega (arith, low, length-range_with_len 0 n)

  own : f r ≡ f (get_or (range_with_len 0 n) r 0)
  own =
      let same : get_or (range_with_len 0 n) r 0 ≡ r = omega (arith, get_or-range_with_len 0 n r 0 low) in
      ap f (sym same)

  -- the texts up to this one are taken
  pub takes-next : Takes b c (f r) → Takes a c (flat_map f (take (r + 1) (range_with_len 0 n)))
  takes-next then = takes_piece f a b c (range_with_len 0 n) r 0 inside first (subst (λ bytes. Takes b c bytes) own then)

  -- a part of them all
  pub part-next : TakesPart b c (f r) → TakesPart a c (flat_map f (range_with_len 0 n))
  part-next then = part_piece f a b c (range_with_len 0 n) r 0 inside first (subst (λ bytes. TakesPart b c bytes) own then)

-- all texts are taken
pub takes-all : (f : ℕ → List ℕ) (n r : ℕ) (a b : Option Held) → n ≤ r → r ≤ n → Takes a b (flat_map f (take r (range_with_len 0 n))) → Takes a b (flat_map f (range_with_len 0 n))
takes-all f n r a b high low first =
    let same : r ≡ length (range_with_len 0 n) = omega (arith, high, low, length-range_with_len 0 n) in
    subst (λ xs. Takes a b (flat_map f xs)) (ap (λ k. take k (range_with_len 0 n)) same ∙ take-length (range_with_len 0 n)) first

-- the line of a rotation, as the code takes it
pub line-is : (lines : List ChoiceLine) (r : ℕ) (line : ChoiceLine) → r < length lines → line ≡ get_or lines r line → line ≡ line_at lines r
line-is lines r line low is = is ∙ get_or_default lines r line (GivenLine 0) low
