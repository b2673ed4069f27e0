-- A caller after a call.
use Rattle.std.proofs.Common.{◌≡◌, ℕ, ◌<◌, List, [], ◌∷◌, All, length, sym, subst}
use Rattle.std.proofs.lemmas.List.Elements.{All-tail}
use Rattle.mr_history.specs.declared.entry.Entry.{Entry}
use Rattle.mr_history.specs.declared.entry.Entry.TheVariants.{Ask, Mend}
use Rattle.mr_history.specs.Histories.{Names, stripes}
use Rattle.mr_locks.specs.Rule.{asks_after, first_view, mends_after, rest_of, served_view}
use Rattle.mr_locks.specs.Seats.{IsSeatOf, names}
use Rattle.mr_locks.specs.declared.view.LockView.{LockView}
use Rattle.mr_amend.specs.declared.amend.Amend.{Amend}
use Rattle.mr_amend.specs.declared.caller.Caller.{Caller}
use Rattle.mr_amend.specs.Callers.{IsCallerOf, view}
use Rattle.mr_amend.proofs.Counting.{all_range}

pub all_rest : (P : ℕ → Type 0) (l : List ℕ) → All P l → All P (rest_of l)
all_rest P [] a = a
all_rest P (x ∷ l) a = All-tail P x l a

all_asks : (P : ℕ → Type 0) (e : Entry) (l : List ℕ) → All P l → All P (asks_after e l)
all_asks P (Ask k) l a = all_rest P l a
all_asks P Mend l a = a

all_mends : (P : ℕ → Type 0) (e : Entry) (l : List ℕ) → All P l → All P (mends_after e l)
all_mends P (Ask k) l a = a
all_mends P Mend l a = all_rest P l a

pub called : (b : Amend) (c c' : Caller) (t : ℕ) (log : List Entry) (e : Entry) → IsCallerOf b c → IsSeatOf b.locks c'.seat → view c' ≡ served_view (view c) t log e → IsCallerOf b c'
called b c c' t log e r seat is = record {
  seat = seat;
  asks = subst (λ (z : LockView). All (λ k. k < length (names b.locks).ops) z.asks) (sym is) (all_asks (λ k. k < length (names b.locks).ops) e (view c).asks r.asks);
  mends = subst (λ (z : LockView). All (λ k. k < stripes (names b.locks)) z.mends) (sym is) (all_mends (λ k. k < stripes (names b.locks)) e (view c).mends r.mends);
}

-- the caller that owns each ask and each stripe
pub first_of_all : (b : Amend) (c : Caller) (n : Names) → names b.locks ≡ n → IsSeatOf b.locks c.seat → view c ≡ first_view n → IsCallerOf b c
first_of_all b c n named seat is = record {
  seat = seat;
  asks = subst (λ (z : LockView). All (λ k. k < length (names b.locks).ops) z.asks) (sym is)
      (subst (λ (m : Names). All (λ k. k < length m.ops) (first_view n).asks) (sym named) (all_range (length n.ops)));
  mends = subst (λ (z : LockView). All (λ k. k < stripes (names b.locks)) z.mends) (sym is)
      (subst (λ (m : Names). All (λ k. k < stripes m) (first_view n).mends) (sym named) (all_range (stripes n)));
}
