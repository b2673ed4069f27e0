-- What a call makes of a stripe fits the history that has grown by it.
use Rattle.std.proofs.Common.{◌≡◌, ℕ, zero, suc, ◌<◌, ◌≤◌, ◌&&◌, Bool, true, false, List, [], ◌∷◌, ◌++◌, length, slice_get, slice_index_or, Option, Some, All, sym, refl, ap, ◌∙◌, subst, arith, if◌then◌else◌}
use Rattle.std.proofs.lemmas.List.Elements.{All-head, All-tail}
use Rattle.mr_image.specs.Images.{mended}
use Rattle.mr_plan.specs.PlanLists.{recipes_at}
use Rattle.mr_kept.specs.Kept.{mended_bytes, mended_symbol, stripe_bytes}
use Rattle.mr_ops.specs.Ops.{IsOpOf, op_stripe}
use Rattle.mr_ops.specs.declared.ops.Op.{Op}
use Rattle.mr_ops.specs.declared.ops.Op.TheVariants.{Read, Write}
use Rattle.mr_history.specs.declared.entry.Entry.{Entry}
use Rattle.mr_history.specs.declared.entry.Entry.TheVariants.{Ask, Mend}
use Rattle.mr_history.specs.declared.kept.KeptStripe.{KeptStripe}
use Rattle.mr_history.specs.Histories.{Names, stripes, bytes_read, PartsFit, stripe_asked, stripe_of, call_count, opening, after, after_ask, replay, value, only_reads, has_only_reads, FitsHistory, HasServed, IsFresh, ChangesByWrites}

pub replay-push : (n : Names) (bytes : List ℕ) (log : List Entry) (e : Entry) → replay n bytes (log ++ e ∷ []) ≡ after n e (replay n bytes log)
replay-push n bytes [] e = refl
replay-push n bytes (x ∷ log) e = replay-push n (after n x bytes) log e

pub only_reads-push : (n : Names) (log : List Entry) (e : Entry) → has_only_reads n log ≡ true → only_reads n e ≡ true → has_only_reads n (log ++ e ∷ []) ≡ true
only_reads-push n [] e a b = ap (λ c. c && true) b
only_reads-push n (x ∷ log) e a b = both (only_reads n x) (has_only_reads n log) (has_only_reads n (log ++ e ∷ [])) a (λ h. only_reads-push n log e h b)
  where
    both : (p q r : Bool) → (p && q) ≡ true → (q ≡ true → r ≡ true) → (p && r) ≡ true
    both true q r h f = f h
    both false q r h f = h

pub serves_fit : (n : Names) (t : ℕ) (e : Entry) (log : List Entry) (old new : KeptStripe) → FitsHistory n t log old → HasServed n t e old new → FitsHistory n t (log ++ e ∷ []) new
serves_fit n t e log old new fits did = record {
  log_is = did.history ∙ ap (λ (l : List Entry). l ++ e ∷ []) fits.log_is;
  size = did.size ∙ fits.size;
  value = did.value ∙ ap (after n e) fits.value ∙ sym (replay-push n (opening n t) log e);
  early = λ h. let a = did.early h in only_reads-push n log e (fits.early a.0) a.1;
  room = subst (λ (x : ℕ). call_count n t ≤ x) (sym did.room) fits.room;
}

-- what the recipes make of the bytes that were read is the stripe of the mended image
pub opening_is : (n : Names) (t : ℕ) → mended_bytes n.head (recipes_at n.plans t) (bytes_read n t) ≡ opening n t
unfolding mended_bytes mended_symbol mended
opening_is n t = refl

all_at : {A : Type 0} (P : A → Type 0) (l : List A) (k : ℕ) (d : A) → All P l → k < length l → P (slice_index_or l k d)
all_at P [] k d a h = absurd (omega arith)
all_at P (y ∷ l) zero d a h = All-head P y l a
all_at P (y ∷ l) (suc k) d a h = all_at P l k d (All-tail P y l a) (omega arith)

pub fresh_fits : (n : Names) (t : ℕ) (kept : KeptStripe) → PartsFit n → t < stripes n → IsFresh n t kept → FitsHistory n t [] kept
fresh_fits n t kept parts low f = record {
  log_is = f.none;
  size = ap length f.bytes ∙ all_at (λ (bytes : List ℕ). length bytes ≡ stripe_bytes n.head) n.image t [] parts.widths (let a = parts.count in omega arith);
  value = ap (λ b. if b then kept.bytes.items else mended_bytes n.head (recipes_at n.plans t) kept.bytes.items) f.lost ∙ ap (mended_bytes n.head (recipes_at n.plans t)) f.bytes ∙ opening_is n t;
  early = λ _. refl;
  room = f.room;
}

-- asks of the image

all_get : {A : Type 0} (P : A → Type 0) (l : List A) (k : ℕ) (x : A) → All P l → slice_get l k ≡ Some x → P x
all_get P [] k x a e = absurd (cc)
all_get P (y ∷ l) zero x a e = subst P (the_some y x e) (All-head P y l a)
  where
    the_some : {A : Type 0} (x y : A) → Some x ≡ Some y → x ≡ y
    the_some x y e = cc
all_get P (y ∷ l) (suc k) x a e = all_get P l k x (All-tail P y l a) e

pub some_ask : {A : Type 0} (l : List A) (i : ℕ) → i < length l → (x : A) × (slice_get l i ≡ Some x)
some_ask [] i h = absurd (omega arith)
some_ask (x ∷ l) zero h = (x, refl)
some_ask (x ∷ l) (suc i) h = some_ask l i (omega arith)

pub op_fits : (n : Names) (k : ℕ) (op : Op) → PartsFit n → slice_get n.ops k ≡ Some op → IsOpOf n.head n.code.columns op
op_fits n k op parts e = all_get (IsOpOf n.head n.code.columns) n.ops k op parts.ops e

low_op : (n : Names) (op : Op) → IsOpOf n.head n.code.columns op → op_stripe op < stripes n
low_op n (Read t i) h = h.stripe
low_op n (Write t p) h = h.0

-- the stripe of an ask is one of the image
pub stripe_low : (n : Names) (k : ℕ) → PartsFit n → k < length n.ops → stripe_of n k < stripes n
stripe_low n k parts low =
    let found = some_ask n.ops k low in
    subst (λ (o : Option Op). stripe_asked o < stripes n) (sym found.1) (low_op n found.0 (op_fits n k found.0 parts found.1))

-- the value changes by writes alone
pub changes : (n : Names) → ChangesByWrites n
changes n = record {
  mend = λ t log. replay-push n (opening n t) log Mend;
  read = λ t k i s log e. replay-push n (opening n t) log (Ask k) ∙ ap (λ (o : Option Op). after_ask n o (value n t log)) e;
  write = λ t k s payload log e. replay-push n (opening n t) log (Ask k) ∙ ap (λ (o : Option Op). after_ask n o (value n t log)) e;
}
