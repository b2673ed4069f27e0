-- A map from cost to list: what a change at one cost does to all lists.
use Rattle.std.proofs.Common.{◌≡◌, ◌≢◌, ℕ, suc, ◌<◌, ◌≤◌, Bool, true, false, cond, List, [], ◌∷◌, ◌++◌, length, Option, Some, None, refl, sym, ◌∙◌, arith, ap, ap₂, ⊎_elim}
use Rattle.std.specs.Prelude.{◌==◌, nat_lt}
use Rattle.std.specs.List.{Contains}
use Rattle.std.specs.Option.{IsSome}
use Rattle.std.specs.Ordering.{nat_cmp, is_gt}
use Rattle.std.specs.declared.cmp.Ordering.TheVariants.{Less, Equal, Greater}
use Rattle.std.specs.BTreeMap.{get, is_at}
use Rattle.std.specs.Global.{Vec}
use Rattle.std.proofs.lemmas.Bool.{both_ways, eq-eqb, ne_eqb, lt-leb, le-leb, leb-true, cases_lt}
use Rattle.mr_front.specs.Lists.{items_of}
use Rattle.mr_front.specs.CostLists.{CostMap, list_in, HasOneMore, HasNoneAt}
use Rattle.mr_front.proofs.ListLaws.{cmp-equal}

-- n has v at the cost k, and at each other cost what m has
abbrev pub IsWritten : CostMap → CostMap → ℕ → Option (Vec ℕ) → Type 0
IsWritten m n k v = (q : ℕ) → get nat_cmp n q ≡ cond (is_at (nat_cmp k) q) v (get nat_cmp m q)

written-own : (m n : CostMap) (k : ℕ) (v : Option (Vec ℕ)) → IsWritten m n k v → list_in n k ≡ items_of v
unfolding list_in
written-own m n k v h = ap items_of (h k) ∙ ap (λ b. items_of (cond b v (get nat_cmp m k))) (cmp-equal k k ∙ eq-eqb k k refl)

written-other : (m n : CostMap) (k : ℕ) (v : Option (Vec ℕ)) → IsWritten m n k v → (c : ℕ) → c ≢ k → list_in n c ≡ list_in m c
unfolding list_in
written-other m n k v h c apart = ap items_of (h c) ∙ ap (λ b. items_of (cond b v (get nat_cmp m c))) (cmp-equal k c ∙ ne_eqb k c (λ e. apart (sym e)))

pub list-some : (m : CostMap) (c : ℕ) (v : Vec ℕ) → Some v ≡ get nat_cmp m c → v.items ≡ list_in m c
unfolding list_in
list-some m c v e = ap items_of e

pub list-none : (m : CostMap) (c : ℕ) → None ≡ get nat_cmp m c → [] ≡ list_in m c
unfolding list_in
list-none m c e = ap items_of e

pub more-from : (m n : CostMap) (k mask : ℕ) (old : List ℕ) (w : Vec ℕ) → IsWritten m n k (Some w) → old ≡ list_in m k → w.items ≡ old ++ mask ∷ [] → HasOneMore m n k mask
more-from m n k mask old w h was e = record { own = written-own m n k (Some w) h ∙ e ∙ ap (λ (xs : List ℕ). xs ++ mask ∷ []) was; others = written-other m n k (Some w) h }

pub less-from : (m n : CostMap) (k : ℕ) → IsWritten m n k None → HasNoneAt m n k
less-from m n k h = record { own = written-own m n k None h; others = written-other m n k None h }

-- what stands in a list has a list
pub has-list : (m : CostMap) (c u : ℕ) → Contains (list_in m c) u → IsSome (get nat_cmp m c)
unfolding list_in
has-list m c u h = go (get nat_cmp m c) h
  where
    go : (o : Option (Vec ℕ)) → Contains (items_of o) u → IsSome o
    go None h = absurd (omega (arith, h.1))
    go (Some v) h = refl

pub no-list : (m : CostMap) (c u : ℕ) → get nat_cmp m c ≡ None → Contains (list_in m c) u → ⊥
unfolding list_in
no-list m c u e h = let none : length (items_of (get nat_cmp m c)) ≡ 0 = ap (λ o. length (items_of o)) e in omega (arith, none, h.1)

pub less-cmp : (a c : ℕ) → a < c → nat_cmp a c ≡ Less
less-cmp a c h = ap (λ b. cond b Less (cond (a == c) Equal Greater)) (le-leb (suc a) c (omega (arith, h)))

pub cmp-less : (a c : ℕ) → nat_cmp a c ≡ Less → a < c
cmp-less a c h = go (nat_lt a c) (a == c) refl h
  where
    go : (l e : Bool) → nat_lt a c ≡ l → cond l Less (cond e Equal Greater) ≡ Less → a < c
    go true e t h = leb-true (suc a) c t
    go false true t h = absurd (cc)
    go false false t h = absurd (cc)

pub le-from : (a c : ℕ) → is_gt (nat_cmp a c) ≡ false → a ≤ c
le-from a c h = ⊎_elim
    (λ (more : c < a). let greater : nat_cmp a c ≡ Greater = ap₂ (λ x y. cond x Less (cond y Equal Greater)) (lt-leb (suc a) c (omega (arith, more))) (ne_eqb a c (λ e. omega (arith, e, more))) in
    absurd (both_ways (is_gt (nat_cmp a c)) h (ap is_gt greater)))
    (λ (le : a ≤ c). le)
    (cases_lt c a)
