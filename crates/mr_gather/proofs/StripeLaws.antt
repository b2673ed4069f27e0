-- A stripe that is gathered symbol after symbol.
use Rattle.std.proofs.Common.{◌≡◌, ℕ, ◌+◌, ◌*◌, ◌<◌, ◌≤◌, List, length, cond, get_or, sym, ap, subst, ◌∙◌, refl, arith, zero-add, zero-mul}
use Rattle.std.specs.Prelude.{Bool, Option, None}
use borrow.Rule.Slice.PartMut.{put_mid}
use Rattle.mr_model.specs.Sets.{count_below}
use Rattle.mr_io.specs.Sights.{Sight}
use Rattle.mr_image.specs.Images.{Layout}
use Rattle.mr_encode.proofs.FrontLaws.{HasFront, front-none, front-write}
use Rattle.mr_gather.specs.Arrays.{gathered, is_read_of}
use Rattle.mr_gather.specs.Slots.{Took, Tells}
use Rattle.mr_gather.proofs.SlotLaws.{took-none, took-more, took-same, tells-kept, count-more}

count-none : (n size : ℕ) (p : ℕ → Bool) → n ≡ 0 → 0 ≡ count_below n p * size
unfolding count_below
count-none n size p e = sym (ap (λ k. count_below k p * size) e ∙ zero-mul size)

module _ {E : Type 0} (sight : E → Sight) (faults : E → ℕ) (l : Layout) (set first number size : ℕ) where
  -- the first n symbols are made, and their bytes and no others were read
  pub record IsStripe (n : ℕ) (old now : List (Option E)) (stripe : List ℕ) : Type 0 where
    pub took : Took sight faults (λ d. count_below n (is_read_of l set d) * l.symbol_bytes) old now
    pub made : (devices : ℕ → List ℕ) → Tells sight devices old → HasFront (gathered l devices set first number) size 0 n stripe

  pub stripe-start : (n : ℕ) (slots : List (Option E)) (stripe : List ℕ) → n ≡ 0 → IsStripe n slots slots stripe
  stripe-start n slots stripe e = record {
    took = took-same sight faults (λ d. 0) (λ d. count_below n (is_read_of l set d) * l.symbol_bytes) slots slots (λ d. count-none n l.symbol_bytes (is_read_of l set d) e) (took-none sight faults slots);
    made = λ devices told. front-none _ _ _ _ _ e;
  }

  pub stripe-turn : (n at k : ℕ) (old now next : List (Option E)) (stripe piece : List ℕ) → IsStripe n old now stripe
      → Took sight faults (λ d. cond (is_read_of l set d n) l.symbol_bytes 0) now next
      → ((devices : ℕ → List ℕ) → Tells sight devices now → piece ≡ gathered l devices set first number n)
      → at ≡ n → n * size ≤ length stripe → length piece ≡ size
      → IsStripe (n + 1) old next (put_mid (at * size) k stripe piece)
  stripe-turn n at k old now next stripe piece h took made e room long = record {
    took = took-same sight faults (λ d. count_below n (is_read_of l set d) * l.symbol_bytes + cond (is_read_of l set d n) l.symbol_bytes 0)
        (λ d. count_below (n + 1) (is_read_of l set d) * l.symbol_bytes) old next (λ d. count-more n l.symbol_bytes (is_read_of l set d))
        (took-more sight faults (λ d. count_below n (is_read_of l set d) * l.symbol_bytes) (λ d. cond (is_read_of l set d n) l.symbol_bytes 0) old now next h.took took);
    made = λ devices told. front-write (gathered l devices set first number) size 0 n at k stripe piece (h.made devices told) e room long
        (made devices (tells-kept sight faults devices (λ d. count_below n (is_read_of l set d) * l.symbol_bytes) old now h.took told) ∙ ap (gathered l devices set first number) (sym (zero-add n)));
  }
