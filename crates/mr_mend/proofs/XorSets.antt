-- The XOR of the symbols of a set in a stripe, one symbol after the other.
use Rattle.std.proofs.Common.{refl, ◌≡◌, ℕ, ◌+◌, ◌*◌, ◌^◌, ◌<◌, true, List, [], take, drop, length, get_or, replicate, Option, Some, None, sym, ap, ap₂, subst, ◌∙◌, arith, zero-add, zero-mul}
use Rattle.std.specs.Prelude.{IfSome}
use Rattle.std.proofs.Math.Nat.{add-mul}
use Rattle.std.proofs.lemmas.Option.{IfSome_then}
use Rattle.std.proofs.lemmas.List.FromFn.{get_or-map-range_with_len}
use Rattle.mr_model.specs.Sets.{within, below}
use Rattle.mr_model.specs.Members.{members, TakesLeast}
use Rattle.mr_model.specs.Code.{Code, survivors}
use Rattle.mr_model.proofs.SetLaws.{member-below, below-zero}
use Rattle.mr_model.proofs.Loops.{IsRest, IsTurn, IsRest-all, IsRest-none, IsRest-turn, members-none, members-length-turn}
use Rattle.mr_io.specs.Sights.{Sight, sight_with}
use Rattle.mr_kern.specs.Xor.{xor_bytes}
use Rattle.mr_image.specs.Images.{Layout, image_of, stripe_of, stripe_symbols, xor_symbols, place}
use Rattle.mr_image.proofs.XorLaws.{xor_symbols-none, xor_symbols-turn}
use Rattle.mr_eq.proofs.SingleLaws.{survivors-below}
use Rattle.mr_model.specs.Choice.{single}
use Rattle.mr_io.proofs.Seeing.{sight_with-none, sight_with-more}
use Rattle.mr_mend.proofs.Subsets.{within-low}

-- the members of the set below n are added
pub record SumBelow (l : Layout) (set s n rest : ℕ) (old now : Sight) (before after : ℕ) (buf : List ℕ) : Type 0 where
  pub to_come : IsRest set n rest
  pub sum : IfSome old.bytes (λ told. buf ≡ xor_symbols l.symbol_bytes (stripe_of l (image_of l told) s) (below n set))
  pub taken : now ≡ sight_with old (length (members (below n set)) * l.symbol_bytes)
  pub quiet : after ≡ before

module _ (l : Layout) (set s : ℕ) (few : set < 2 ^ stripe_symbols l) (old : Sight) (before : ℕ) where
  pub sum-start : (rest size : ℕ) (buf : List ℕ) → rest ≡ set → size ≡ l.symbol_bytes → buf ≡ replicate size 0 → SumBelow l set s 0 rest old old before before buf
  sum-start rest size buf all long zeros =
      let none : length (members (below 0 set)) * l.symbol_bytes ≡ 0 =
      ap (λ x. length (members x) * l.symbol_bytes) (below-zero set) ∙ ap (λ xs. length xs * l.symbol_bytes) members-none ∙ zero-mul l.symbol_bytes in
      record {
        to_come = subst (λ x. IsRest set 0 x) (sym all) (IsRest-all set);
        sum = go old.bytes;
        taken = sight_with-none old ∙ ap (sight_with old) (sym none);
        quiet = refl;
      }
    where
      go : (o : Option (List ℕ)) → IfSome o (λ told. buf ≡ xor_symbols l.symbol_bytes (stripe_of l (image_of l told) s) (below 0 set))
      go None = tt
      go (Some told) =
          zeros ∙ ap (λ n. replicate n 0) long ∙ sym (xor_symbols-none l.symbol_bytes (stripe_of l (image_of l told) s))
          ∙ ap (xor_symbols l.symbol_bytes (stripe_of l (image_of l told) s)) (sym (below-zero set))

  pub sum-turn : (n rest t next at size after after_next : ℕ) (now now_next : Sight) (symbol buf buf_next : List ℕ)
      → SumBelow l set s n rest old now before after buf → TakesLeast rest t next → at ≡ place l s t → size ≡ l.symbol_bytes → length symbol ≡ l.symbol_bytes
      → IfSome now.bytes (λ told. symbol ≡ take size (drop at told)) → now_next ≡ sight_with now size → after_next ≡ after → buf_next ≡ xor_bytes buf symbol
      → SumBelow l set s (t + 1) next old now_next before after_next buf_next
  sum-turn n rest t next at size after after_next now now_next symbol buf buf_next h takes at_is size_is long read took quiet added =
      let turn : IsTurn set n t next = IsRest-turn set n rest t next h.to_come takes in
      let low : t < stripe_symbols l = member-below (stripe_symbols l) set t few turn.member in
      let count : ℕ = length (members (below n set)) in
      let more : length (members (below (t + 1) set)) * l.symbol_bytes ≡ count * l.symbol_bytes + size =
      ap (λ k. k * l.symbol_bytes) (members-length-turn set n t next turn) ∙ omega (arith, add-mul count 1 l.symbol_bytes, size_is) in
      record {
        to_come = turn.rest;
        sum = go old.bytes h.sum (subst (λ o. IfSome o (λ told. symbol ≡ take size (drop at told))) (ap (λ (x : Sight). x.bytes) h.taken) read) turn low;
        taken = took ∙ ap (λ x. sight_with x size) h.taken ∙ sight_with-more old (count * l.symbol_bytes) size ∙ ap (sight_with old) (sym more);
        quiet = quiet ∙ h.quiet;
      }
    where
      go : (o : Option (List ℕ)) → IfSome o (λ told. buf ≡ xor_symbols l.symbol_bytes (stripe_of l (image_of l told) s) (below n set))
          → IfSome o (λ told. symbol ≡ take size (drop at told)) → IsTurn set n t next → t < stripe_symbols l
          → IfSome o (λ told. buf_next ≡ xor_symbols l.symbol_bytes (stripe_of l (image_of l told) s) (below (t + 1) set))
      go None sum is turn low = tt
      go (Some told) sum is turn low =
          let symbols : List (List ℕ) = stripe_of l (image_of l told) s in
          let read_is : symbol ≡ image_of l told s t = is ∙ ap₂ (λ a b. take a (drop b told)) size_is at_is in
          let here : get_or symbols t [] ≡ symbol = get_or-map-range_with_len (image_of l told s) 0 (stripe_symbols l) t t [] low (zero-add t) ∙ sym read_is in
          added ∙ ap₂ xor_bytes sum (sym here)
          ∙ sym (xor_symbols-turn l.symbol_bytes symbols set n t next turn (ap length here ∙ long))

  pub sum-all : (n rest after : ℕ) (now : Sight) (buf : List ℕ) → SumBelow l set s n rest old now before after buf → rest ≡ 0
      → IfSome old.bytes (λ told. buf ≡ xor_symbols l.symbol_bytes (stripe_of l (image_of l told) s) set)
  sum-all n rest after now buf h none = IfSome_then old.bytes h.sum (λ told sum.
      sum ∙ ap (xor_symbols l.symbol_bytes (stripe_of l (image_of l told) s)) (IsRest-none set n rest h.to_come none))

  pub sum-taken : (n rest after : ℕ) (now : Sight) (buf : List ℕ) → SumBelow l set s n rest old now before after buf → rest ≡ 0
      → now ≡ sight_with old (length (members set) * l.symbol_bytes)
  sum-taken n rest after now buf h none = h.taken ∙ ap (λ x. sight_with old (length (members x) * l.symbol_bytes)) (IsRest-none set n rest h.to_come none)

-- the single equation of a lost symbol, as a set
abbrev pub single_set : (m : Code) (lost budget t : ℕ) → ℕ
single_set m lost budget t = single m (survivors m lost) t budget

-- it has symbols of the stripe alone
pub single-low : (m : Code) (lost budget t set count : ℕ) → length m.rows ≡ count → within set (survivors m lost) ≡ true → set ≡ single_set m lost budget t
    → single_set m lost budget t < 2 ^ count
single-low m lost budget t set count rows inside is = subst (λ x. x < 2 ^ count) is
    (subst (λ n. set < 2 ^ n) rows (within-low set (survivors m lost) (length m.rows) inside (survivors-below m lost)))
