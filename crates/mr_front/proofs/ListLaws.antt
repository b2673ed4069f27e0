-- Lists by cost and level: what a change at one key does to all of them.
use Rattle.std.proofs.Common.{◌≡◌, ℕ, zero, suc, ◌<◌, ◌≤◌, Bool, true, false, cond, List, [], ◌∷◌, ◌++◌, length, get_or, Option, Some, ◌⊎◌, inl, inr, refl, sym, ◌∙◌, arith, ap, ap₂, subst, ⊎_elim, append-nil}
use Rattle.std.specs.Prelude.{◌==◌, ◌&&◌, filter, nat_lt}
use Rattle.std.specs.List.{All, Contains}
use Rattle.std.specs.Ordering.{nat_cmp, ordering_then, is_eq, is_gt}
use Rattle.std.specs.declared.cmp.Ordering.TheVariants.{Less, Equal, Greater}
use Rattle.std.specs.BTreeMap.{IsOrdered, get, is_at}
use Rattle.std.specs.Global.{Vec}
use Rattle.std.specs.Cmp.{tied_then}
use Rattle.std.proofs.lemmas.Bool.{and_parts, and_from, both_ways, eqb-true, eq-eqb, ne_eqb, lt-leb, cases_eq, cases_lt}
use Rattle.mr_eq.specs.Problems.{Loss}
use Rattle.mr_front.specs.Waiting.{mask_cost}
use Rattle.mr_front.specs.Lists.{Lists, key_cmp, items_of, masks_at, IsTidy, belongs, HasAdded}

-- ---- keys

pub cmp-equal : (x y : ℕ) → is_eq (nat_cmp x y) ≡ (x == y)
cmp-equal x y = ⊎_elim
    (λ (same : x ≡ y). go (nat_lt x y) (x == y) (lt-leb (suc x) y (omega arith)) (eq-eqb x y same))
    (λ (other : x ≡ y → ⊥). ne (nat_lt x y) (x == y) (ne_eqb x y other))
    (cases_eq x y)
  where
    go : (l e : Bool) → l ≡ false → e ≡ true → is_eq (cond l Less (cond e Equal Greater)) ≡ e
    go true e h k = absurd (both_ways true h refl)
    go false true h k = refl
    go false false h k = refl

    ne : (l e : Bool) → e ≡ false → is_eq (cond l Less (cond e Equal Greater)) ≡ e
    ne true true h = absurd (both_ways true h refl)
    ne true false h = refl
    ne false true h = refl
    ne false false h = refl

-- the key of a mask at a level is that of the list to which it belongs
pub belongs-key : (c level : ℕ) (q : ℕ × ℕ) → is_at (key_cmp (c, level)) q ≡ ((c == q.0) && (level == q.1))
belongs-key c level q = sym (tied_then (nat_cmp c q.0) (nat_cmp level q.1)) ∙ ap₂ (λ a b. a && b) (cmp-equal c q.0) (cmp-equal level q.1)

pub belongs-own : (p : Loss) (c level u : ℕ) → mask_cost p u ≡ c → belongs p level (c, level) u ≡ true
belongs-own p c level u e = and_from (mask_cost p u == c) (level == level) (eq-eqb (mask_cost p u) c e) (eq-eqb level level refl)

pub key-same : (k q : ℕ × ℕ) → is_at (key_cmp k) q ≡ true → k ≡ q
key-same (c, level) (d, l) e =
    let t = and_parts (c == d) (level == l) (sym (belongs-key c level (d, l)) ∙ e) in
    let same_cost : c ≡ d = eqb-true c d t.0 in
    let same_level : level ≡ l = eqb-true level l t.1 in
    ap₂ (λ (x y : ℕ). let p : ℕ × ℕ = (x, y) in p) same_cost same_level

pub same-key : (c level : ℕ) → is_at (key_cmp (c, level)) (c, level) ≡ true
same-key c level = belongs-key c level (c, level) ∙ and_from (c == c) (level == level) (eq-eqb c c refl) (eq-eqb level level refl)

-- a key that is not greater, by cost and then by level
pub key-le : (c level d l : ℕ) → is_gt (key_cmp (c, level) (d, l)) ≡ false → (c ≤ d) × (c ≡ d → level ≤ l)
key-le c level d l e = ⊎_elim
    (λ (same : c ≡ d). ⊎_elim
    (λ (le : level ≤ l). (omega arith, λ s. le))
    (λ (more : l < level). absurd (both_ways (is_gt (key_cmp (c, level) (d, l))) e (tie same more)))
    (cases_le level l))
    (λ (other : c ≡ d → ⊥). ⊎_elim
    (λ (le : c ≤ d). (le, λ s. absurd (other s)))
    (λ (more : d < c). absurd (both_ways (is_gt (key_cmp (c, level) (d, l))) e (above more)))
    (cases_le c d))
    (cases_eq c d)
  where
    cases_le : (x y : ℕ) → (x ≤ y) ⊎ (y < x)
    cases_le x y = ⊎_elim (λ (l : y < x). inr l) (λ (g : x ≤ y). inl g) (cases_lt y x)

    greater : (x y : ℕ) → y < x → nat_cmp x y ≡ Greater
    greater x y h = ap₂ (λ a b. cond a Less (cond b Equal Greater)) (lt-leb (suc x) y (omega arith)) (ne_eqb x y (λ s. omega arith))

    equal : (x y : ℕ) → x ≡ y → nat_cmp x y ≡ Equal
    equal x y h = ap₂ (λ a b. cond a Less (cond b Equal Greater)) (lt-leb (suc x) y (omega arith)) (eq-eqb x y h)

    above : d < c → is_gt (key_cmp (c, level) (d, l)) ≡ true
    above h = ap (λ o. is_gt (ordering_then o (nat_cmp level l))) (greater c d h)

    tie : c ≡ d → l < level → is_gt (key_cmp (c, level) (d, l)) ≡ true
    tie s h = ap₂ (λ o p. is_gt (ordering_then o p)) (equal c d s) (greater level l h)

-- ---- a change at one key

-- n has the masks ws at the key k, and at each other key those of m
abbrev pub IsPut : Lists → Lists → ℕ × ℕ → List ℕ → Type 0
IsPut m n k ws = (q : ℕ × ℕ) → masks_at n q ≡ cond (is_at (key_cmp k) q) ws (masks_at m q)

cond-items : (b : Bool) (v w : Option (Vec ℕ)) → items_of (cond b v w) ≡ cond b (items_of v) (items_of w)
cond-items true v w = refl
cond-items false v w = refl

pub put-updates : (m n : Lists) (k : ℕ × ℕ) (v : Option (Vec ℕ)) → ((q : ℕ × ℕ) → get key_cmp n q ≡ cond (is_at (key_cmp k) q) v (get key_cmp m q)) → IsPut m n k (items_of v)
put-updates m n k v h q = ap items_of (h q) ∙ cond-items (is_at (key_cmp k) q) v (get key_cmp m q)

cond-same : (b : Bool) (ws old : List ℕ) → (b ≡ true → old ≡ ws) → cond b ws old ≡ old
cond-same true ws old h = sym (h refl)
cond-same false ws old h = refl

filter-all : (p : ℕ → Bool) (us : List ℕ) → ((k : ℕ) → k < length us → p (get_or us k 0) ≡ true) → filter p us ≡ us
filter-all p [] h = refl
filter-all p (u ∷ us) h = ap (λ b. cond b (u ∷ filter p us) (filter p us)) (h 0 (omega arith)) ∙ ap (λ (vs : List ℕ). u ∷ vs) (filter-all p us (λ k low. h (suc k) (omega (arith, low))))

filter-none : (p : ℕ → Bool) (us : List ℕ) → ((k : ℕ) → k < length us → p (get_or us k 0) ≡ false) → filter p us ≡ []
filter-none p [] h = refl
filter-none p (u ∷ us) h = ap (λ b. cond b (u ∷ filter p us) (filter p us)) (h 0 (omega arith)) ∙ filter-none p us (λ k low. h (suc k) (omega (arith, low)))

-- masks of one cost and level belong to the list of their key alone
one-key : (p : Loss) (level c : ℕ) (us : List ℕ) → All (λ u. mask_cost p u ≡ c) us → (q : ℕ × ℕ) → filter (belongs p level q) us ≡ cond (is_at (key_cmp (c, level)) q) us []
one-key p level c us h q = go (is_at (key_cmp (c, level)) q) refl
  where
    test : (k : ℕ) → k < length us → belongs p level q (get_or us k 0) ≡ is_at (key_cmp (c, level)) q
    test k low = ap (λ d. (d == q.0) && (level == q.1)) (h k 0 low) ∙ sym (belongs-key c level q)

    go : (b : Bool) → is_at (key_cmp (c, level)) q ≡ b → filter (belongs p level q) us ≡ cond b us []
    go true e = filter-all (belongs p level q) us (λ k low. test k low ∙ e)
    go false e = filter-none (belongs p level q) us (λ k low. test k low ∙ e)

cond-append : (b : Bool) (old us : List ℕ) → cond b (old ++ us) old ≡ old ++ cond b us []
cond-append true old us = refl
cond-append false old us = sym (append-nil old)

-- masks of one cost were appended to their list
pub added-put : (p : Loss) (m n : Lists) (level c : ℕ) (us : List ℕ) → All (λ u. mask_cost p u ≡ c) us → IsPut m n (c, level) (masks_at m (c, level) ++ us) → HasAdded p m n level us
added-put p m n level c us h put q =
    let at : cond (is_at (key_cmp (c, level)) q) (masks_at m (c, level) ++ us) (masks_at m q) ≡ cond (is_at (key_cmp (c, level)) q) (masks_at m q ++ us) (masks_at m q) =
    turn (is_at (key_cmp (c, level)) q) (λ e. ap (λ k. masks_at m k ++ us) (key-same (c, level) q e)) in
    put q ∙ at ∙ cond-append (is_at (key_cmp (c, level)) q) (masks_at m q) us ∙ ap (λ (vs : List ℕ). masks_at m q ++ vs) (sym (one-key p level c us h q))
  where
    turn : (b : Bool) → (b ≡ true → masks_at m (c, level) ++ us ≡ masks_at m q ++ us)
        → cond b (masks_at m (c, level) ++ us) (masks_at m q) ≡ cond b (masks_at m q ++ us) (masks_at m q)
    turn true e = e refl
    turn false e = refl

-- the last mask was taken from its list
pub taken-put : (p : Loss) (m n : Lists) (level c u : ℕ) (ws : List ℕ) → mask_cost p u ≡ c → masks_at m (c, level) ≡ ws ++ u ∷ [] → IsPut m n (c, level) ws → HasAdded p n m level (u ∷ [])
taken-put p m n level c u ws priced last put =
    added-put p n m level c (u ∷ []) (λ k d low. one k d low)
    (λ q. go q (is_at (key_cmp (c, level)) q) refl)
  where
    one : (k d : ℕ) → k < 1 → mask_cost p (get_or (u ∷ []) k d) ≡ c
    one zero d low = priced
    one (suc k) d low = absurd (omega arith)

    here : masks_at n (c, level) ≡ ws
    here = put (c, level) ∙ ap (λ b. cond b ws (masks_at m (c, level))) (same-key c level)

    go : (q : ℕ × ℕ) (b : Bool) → is_at (key_cmp (c, level)) q ≡ b → masks_at m q ≡ cond b (masks_at n (c, level) ++ u ∷ []) (masks_at n q)
    go q true e = ap (masks_at m) (sym (key-same (c, level) q e)) ∙ last ∙ ap (λ (vs : List ℕ). vs ++ u ∷ []) (sym here)
    go q false e = sym (put q ∙ ap (λ b. cond b ws (masks_at m q)) e)

-- ---- tidy lists

pub tidy-updates : (p : Loss) (m n : Lists) (k : ℕ × ℕ) (v : Option (Vec ℕ)) → IsTidy p m
    → ((q : ℕ × ℕ) → get key_cmp n q ≡ cond (is_at (key_cmp k) q) v (get key_cmp m q))
    → ((w : Vec ℕ) → v ≡ Some w → 0 < length w.items) → ((u : ℕ) → Contains (items_of v) u → mask_cost p u ≡ k.0) → IsOrdered key_cmp n → IsTidy p n
tidy-updates p m n k v tidy h some priced sorted = record {
  ordered = sorted;
  some = λ q w e. go-some q w (is_at (key_cmp k) q) (sym (h q) ∙ e);
  priced = λ q u there. go-priced q u (is_at (key_cmp k) q) refl (subst (λ o. Contains (items_of o) u) (h q) there);
}
  where
    go-some : (q : ℕ × ℕ) (w : Vec ℕ) (b : Bool) → cond b v (get key_cmp m q) ≡ Some w → 0 < length w.items
    go-some q w true e = some w e
    go-some q w false e = tidy.some q w e

    go-priced : (q : ℕ × ℕ) (u : ℕ) (b : Bool) → is_at (key_cmp k) q ≡ b → Contains (items_of (cond b v (get key_cmp m q))) u → mask_cost p u ≡ q.0
    go-priced q u true e there = priced u there ∙ ap (λ p. p.0) (key-same k q e)
    go-priced q u false e there = tidy.priced q u there

-- a value that was written and then taken out
pub updates-twice : (m mid n : Lists) (k : ℕ × ℕ) (v w : Option (Vec ℕ))
    → ((q : ℕ × ℕ) → get key_cmp mid q ≡ cond (is_at (key_cmp k) q) v (get key_cmp m q))
    → ((q : ℕ × ℕ) → get key_cmp n q ≡ cond (is_at (key_cmp k) q) w (get key_cmp mid q))
    → (q : ℕ × ℕ) → get key_cmp n q ≡ cond (is_at (key_cmp k) q) w (get key_cmp m q)
updates-twice m mid n k v w h l q = l q ∙ go (is_at (key_cmp k) q) (h q)
  where
    go : (b : Bool) → get key_cmp mid q ≡ cond b v (get key_cmp m q) → cond b w (get key_cmp mid q) ≡ cond b w (get key_cmp m q)
    go true e = refl
    go false e = e
