-- One caller that takes in what the others made.
use Rattle.std.proofs.Common.{◌≡◌, ℕ, ◌+◌, ◌==◌, if◌then◌else◌, List, [], ◌∷◌, ◌++◌, length, length-append, sum_by, ap, ◌∙◌, arith}
use Rattle.std.proofs.lemmas.List.Sums.{sum_by-append, sum_by-cons}
use Rattle.mr_history.specs.declared.entry.Entry.{Entry}
use Rattle.mr_history.specs.declared.kept.KeptStripe.{KeptStripe}
use Rattle.mr_history.specs.Histories.{stripes}
use Rattle.mr_locks.specs.Calls.{Made, made_of}
use Rattle.mr_locks.specs.Seats.{HasAll, IsClosed, names}
use Rattle.mr_amend.specs.declared.amend.Amend.{Amend}
use Rattle.mr_amend.specs.declared.caller.Caller.{Caller}
use Rattle.mr_amend.specs.Callers.{AreAll, IsDone, made_by, share, view}

abbrev shares : List Caller → ℕ
shares callers = sum_by (λ c. share (view c)) callers

-- the first caller has taken in what the others of these made, and `more` are left
pub record Gathered (b : Amend) (all : List Caller) (first : Caller) (more : List Caller) : Type 0 where
  pub done : IsDone b first
  pub share_is : length (view first).made + shares more ≡ length (names b.locks).ops + stripes (names b.locks)
  pub made : (t : ℕ) (h : List Entry → Entry → ℕ) → made_of h t (view first).made + made_by h t more ≡ made_by h t all

module _ (b : Amend) (all : List Caller) where
  pub begins : (rest : List Caller) (first : Caller) → all ≡ rest ++ first ∷ [] → IsDone b first → AreAll (names b.locks) all → Gathered b all first rest
  begins rest first e done are = record {
    done = done;
    share_is =
        let a = sum_by-append (λ (c : Caller). share (view c)) rest (first ∷ []) in
        let o = sum_by-cons (λ (c : Caller). share (view c)) first [] in
        let x : shares all ≡ shares (rest ++ first ∷ []) = ap shares e in
        let y : length (view first).asks ≡ 0 = ap length done.asks in
        let z : length (view first).mends ≡ 0 = ap length done.mends in omega arith;
    made = λ t h.
        let a = sum_by-append (λ (c : Caller). made_of h t (view c).made) rest (first ∷ []) in
        let o = sum_by-cons (λ (c : Caller). made_of h t (view c).made) first [] in
        let x : made_by h t all ≡ made_by h t (rest ++ first ∷ []) = ap (made_by h t) e in omega arith;
  }

  pub goes : (more rest : List Caller) (first other next : Caller) → more ≡ rest ++ other ∷ [] → IsDone b other → IsDone b next → (view next).made ≡ (view first).made ++ (view other).made → Gathered b all first more → Gathered b all next rest
  goes more rest first other next e done done' joined g = record {
    done = done';
    share_is =
        let a = sum_by-append (λ (c : Caller). share (view c)) rest (other ∷ []) in
        let o = sum_by-cons (λ (c : Caller). share (view c)) other [] in
        let x : shares more ≡ shares (rest ++ other ∷ []) = ap shares e in
        let y : length (view other).asks ≡ 0 = ap length done.asks in
        let z : length (view other).mends ≡ 0 = ap length done.mends in
        let w : length (view next).made ≡ length (view first).made + length (view other).made = ap length joined ∙ length-append (view first).made (view other).made in
        let old = g.share_is in omega arith;
    made = λ t h.
        let a = sum_by-append (λ (c : Caller). made_of h t (view c).made) rest (other ∷ []) in
        let o = sum_by-cons (λ (c : Caller). made_of h t (view c).made) other [] in
        let x : made_by h t more ≡ made_by h t (rest ++ other ∷ []) = ap (made_by h t) e in
        let w : made_of h t (view next).made ≡ made_of h t (view first).made + made_of h t (view other).made = ap (made_of h t) joined ∙ sum_by-append (λ (m : Made). if m.stripe == t then h m.before m.entry else 0) (view first).made (view other).made in
        let old = g.made t h in omega arith;
  }

  pub has_all : (first : Caller) → Gathered b all first [] → HasAll (names b.locks) (view first)
  has_all first g = record { asks = g.done.asks; mends = g.done.mends; made = let a = g.share_is in omega arith }

  -- the calls of one caller are those of all
  pub closed_by : (first : Caller) (t : ℕ) (kept : KeptStripe) → ((t : ℕ) (h : List Entry → Entry → ℕ) → made_of h t (view first).made ≡ made_by h t all)
      → IsClosed (names b.locks) (λ h. made_of h t (view first).made) t kept → IsClosed (names b.locks) (λ h. made_by h t all) t kept
  closed_by first t kept same c = record {
    whole = c.whole;
    size = c.size;
    bytes = c.bytes;
    each = c.each;
    made_are = λ h. let a = same t h in let x = c.made_are h in omega arith;
  }
