use Rattle.std.proofs.Common.{◌≡◌, ◌++◌, ◌∷◌, [], ℕ, List, Bool, false, zero, suc, take, set, get_or, sym, ap, refl, ◌∙◌, arith, add-one, get_or-set_other}
use mathlib.Core.Logic.{dite}
use mathlib.Core.Option.{some, some-injective, some-ne-none}
use native.Mathlib.Decide.{ℕ_discrete}
use lib.ListN.{get_elem?}
use Rattle.std.specs.Slots.{slots_items, slots_filled}
use Rattle.mr_history.specs.declared.kept.KeptStripe.{KeptStripe}
use Rattle.mr_locks.proofs.locks.take_all.Goals as goal

set_false : (l : List Bool) (i : ℕ) → get_or (set l i false) i false ≡ false
set_false [] i = refl
set_false (x ∷ l) zero = refl
set_false (x ∷ l) (suc i) = set_false l i

take_more : {A : Type 0} (l : List A) (i : ℕ) (a : A) → get_elem? l i ≡ some a → take (suc i) l ≡ take i l ++ a ∷ []
take_more [] i a e = absurd (some-ne-none a (sym e))
take_more (x ∷ l) zero a e = ap (λ y. y ∷ []) (some-injective x a e)
take_more (x ∷ l) (suc i) a e = ap (λ m. x ∷ m) (take_more l i a e)

pub loop-slot-preserved : goal.loop-slot-preserved
loop-slot-preserved c =
    let old = c.loop-slot.invariant in
    let told = c.take.ensures.others in
    let slot = c.loop-slot.slot in record {
      items = told.0 ∙ old.items;
      count = told.2 ∙ old.count;
      words = told.3 ∙ old.words;
      filled = λ k l h. ap (λ (f : List Bool). get_or f k false) told.1 ∙ get_or-set_other _ slot k false false (λ e. omega arith) ∙ old.filled k (omega arith) (let a = told.2 in omega arith);
      taken = λ k h. ap (λ (f : List Bool). get_or f k false) told.1 ∙ dite (ℕ_discrete k slot)
          (λ e. ap (λ (x : ℕ). get_or (set (slots_filled c.loop-slot.closed.slots) slot false) x false) e ∙ set_false (slots_filled c.loop-slot.closed.slots) slot)
          (λ ne. get_or-set_other _ slot k false false (λ e. ne (omega arith)) ∙ old.taken k (omega arith));
      stripes = c.push_reserved.ensures.items ∙ ap (λ (l : List KeptStripe). l ++ c.take.result ∷ []) old.stripes ∙ sym (take_more _ slot c.take.result (ap (λ (l : List KeptStripe). get_elem? l slot) (sym old.items) ∙ c.take.ensures.value)) ∙ ap (λ (k : ℕ). take k (slots_items c.args.closed.slots)) (sym (add-one slot));
      room = let a = told.2 in let b = c.push_reserved.ensures.capacity in let d = old.room in omega arith;
    }
