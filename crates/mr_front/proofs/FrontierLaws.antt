-- A frontier by the masks that wait: its first layer, what is left, and what is added.
use Rattle.std.proofs.Common.{◌≡◌, ℕ, zero, suc, ◌<◌, ◌≤◌, Bool, true, false, cond, List, [], ◌∷◌, length, get_or, map, flat_map, Option, None, Some, IfNone, ◌⊎◌, inl, inr, refl, sym, ◌∙◌, arith, ap, subst, ⊎_elim}
use Rattle.std.specs.Prelude.{◌==◌, ◌↔◌, filter}
use Rattle.std.specs.List.{Contains}
use Rattle.std.specs.List.Sorted.{IsStrictlyIncreasing}
use Rattle.std.specs.Ordering.{eq_by_cmp}
use Rattle.std.specs.Cmp.{IsTotalOrder}
use Rattle.std.specs.BTreeMap.{get, keys}
use Rattle.std.specs.Global.{Vec}
use Rattle.std.proofs.lemmas.Bool.{and_parts, and_from, eqb-true, eq-eqb}
use Rattle.std.proofs.lemmas.Cmp.{eq_by_cmp_equiv, nat_cmp_total, on_total, then_total}
use Rattle.std.proofs.lemmas.List.Concat.{flat_map-cons}
use Rattle.std.proofs.lemmas.List.Elements.{All-filter, filter_passes, All-contains, All-contains_itself, Contains-append_left, Contains-append_right, Contains-append_cases}
use Rattle.std.proofs.lemmas.Map.Keys.{IsDistinct-from_sorted}
use Rattle.std.proofs.lemmas.Map.Views.{Contains-from_lookup, lookup-from_Contains}
use Rattle.mr_eq.specs.Problems.{Loss}
use Rattle.mr_front.specs.declared.layers.Layer.{Layer}
use Rattle.mr_front.specs.Waiting.{mask_cost, WaitsToo, WaitsSame}
use Rattle.mr_front.specs.Lists.{Lists, key_cmp, items_of, masks_at, leveled, waiting_in, IsTidy, belongs, HasAdded, HasSame, IsFirstList, IsWithout}
use Rattle.mr_front.specs.Layers.{IsFirstLayer, IsRest}
use Rattle.mr_front.proofs.ListLaws.{key-same}

-- ---- lists

pub contains-none : (xs : List ℕ) (u : ℕ) → xs ≡ [] → Contains xs u → ⊥
contains-none xs u e h = omega (arith, ap length e, h.1)

pub contains-cons : {X : Type 0} (x : X) (xs : List X) (u : X) → Contains xs u → Contains (x ∷ xs) u
contains-cons x xs u (k, low, e) = (suc k, omega (arith, low), e)

pub contains-filter : (p : ℕ → Bool) (xs : List ℕ) (u : ℕ) → p u ≡ true → Contains xs u → Contains (filter p xs) u
contains-filter p [] u e (k, low, is) = absurd (omega (arith, low))
contains-filter p (x ∷ xs) u e (zero, low, is) = subst (λ b. Contains (cond b (x ∷ filter p xs) (filter p xs)) u) (sym (subst (λ v. p v ≡ true) (sym is) e)) (zero, omega arith, is)
contains-filter p (x ∷ xs) u e (suc k, low, is) = go (p x) (contains-filter p xs u e (k, omega (arith, low), is))
  where
    go : (b : Bool) → Contains (filter p xs) u → Contains (cond b (x ∷ filter p xs) (filter p xs)) u
    go true h = contains-cons x (filter p xs) u h
    go false h = h

pub filter-contains : (p : ℕ → Bool) (xs : List ℕ) (u : ℕ) → Contains (filter p xs) u → Contains xs u × (p u ≡ true)
filter-contains p xs u h = (
  All-contains (Contains xs) (filter p xs) u (All-filter p (Contains xs) xs (All-contains_itself xs)) h,
  All-contains (λ v. p v ≡ true) (filter p xs) u (filter_passes p xs) h,
)

-- ---- items of maps and of joined lists

module _ {X A : Type 0} where
  pub contains-map : (f : X → A) (xs : List X) (x : X) → Contains xs x → Contains (map f xs) (f x)
  contains-map f [] x (k, low, e) = absurd (omega (arith, low))
  contains-map f (y ∷ ys) x (zero, low, e) = (zero, omega arith, ap f e)
  contains-map f (y ∷ ys) x (suc k, low, e) = contains-cons (f y) (map f ys) (f x) (contains-map f ys x (k, omega (arith, low), e))

  pub map-contains : (f : X → A) (xs : List X) (u : A) → Contains (map f xs) u → (x : X) × Contains xs x × (f x ≡ u)
  map-contains f [] u (k, low, e) = absurd (omega (arith, low))
  map-contains f (y ∷ ys) u (zero, low, e) = (y, (zero, omega arith, refl), e)
  map-contains f (y ∷ ys) u (suc k, low, e) = let t = map-contains f ys u (k, omega (arith, low), e) in (t.0, contains-cons y ys t.0 t.1, t.2)

  pub contains-flat_map : (g : X → List A) (xs : List X) (x : X) (u : A) → Contains xs x → Contains (g x) u → Contains (flat_map g xs) u
  contains-flat_map g [] x u (k, low, e) h = absurd (omega (arith, low))
  contains-flat_map g (y ∷ ys) x u (zero, low, e) h =
      subst (λ (vs : List A). Contains vs u) (sym (flat_map-cons g y ys)) (Contains-append_left (g y) (flat_map g ys) u (subst (λ z. Contains (g z) u) (sym e) h))
  contains-flat_map g (y ∷ ys) x u (suc k, low, e) h =
      subst (λ (vs : List A). Contains vs u) (sym (flat_map-cons g y ys)) (Contains-append_right (g y) (flat_map g ys) u (contains-flat_map g ys x u (k, omega (arith, low), e) h))

  pub flat_map-contains : (g : X → List A) (xs : List X) (u : A) → Contains (flat_map g xs) u → (x : X) × Contains xs x × Contains (g x) u
  flat_map-contains g [] u h = absurd (omega (arith, h.1))
  flat_map-contains g (y ∷ ys) u h = go (Contains-append_cases (g y) (flat_map g ys) u (subst (λ (vs : List A). Contains vs u) (flat_map-cons g y ys) h)) (flat_map-contains g ys u)
    where
      go : Contains (g y) u ⊎ Contains (flat_map g ys) u → (Contains (flat_map g ys) u → (x : X) × Contains ys x × Contains (g x) u) → (x : X) × Contains (y ∷ ys) x × Contains (g x) u
      go (inl here) later = (y, (zero, omega arith, refl), here)
      go (inr there) later = let t = later there in (t.0, contains-cons y ys t.0 t.1, t.2)

-- ---- what waits in lists

-- the mask u waits at the level i
abbrev pub WaitsIn : Lists → ℕ → ℕ → Type 0
WaitsIn m i u = Contains (waiting_in m) (i, u)

-- it stands in the list of its cost and level
abbrev pub StandsIn : Loss → Lists → ℕ → ℕ → Type 0
StandsIn p m i u = Contains (masks_at m (mask_cost p u, i)) u

key_total : IsTotalOrder key_cmp
key_total = then_total (on_total (λ (k : ℕ × ℕ). k.0) nat_cmp_total) (on_total (λ (k : ℕ × ℕ). k.1) nat_cmp_total)

module _ (p : Loss) (m : Lists) (tidy : IsTidy p m) where
  pub waits-stands : (i u : ℕ) → WaitsIn m i u → StandsIn p m i u
  unfolding waiting_in
  waits-stands i u w =
      let t = flat_map-contains leveled m.entries (i, u) w in
      let s = map-contains (λ (v : ℕ). let r : ℕ × ℕ = (t.0.0.1, v) in r) t.0.1.items (i, u) t.2 in
      let level : t.0.0.1 ≡ i = ap (λ (r : ℕ × ℕ). r.0) s.2 in
      let mask : s.0 ≡ u = ap (λ (r : ℕ × ℕ). r.1) s.2 in
      let found : get key_cmp m t.0.0 ≡ Some t.0.1 = lookup-from_Contains (eq_by_cmp_equiv key_total) t.0.0 t.0.1 m.entries (IsDistinct-from_sorted key_cmp (keys m) tidy.ordered) t.1 in
      let there : Contains (masks_at m t.0.0) u = subst (λ o. Contains (items_of o) u) (sym found) (subst (λ v. Contains t.0.1.items v) mask s.1) in
      let priced : mask_cost p u ≡ t.0.0.0 = tidy.priced t.0.0 u there in
      subst (λ (c : ℕ). Contains (masks_at m (c, i)) u) (sym priced) (subst (λ (j : ℕ). Contains (masks_at m (t.0.0.0, j)) u) level there)

  pub stands-waits : (i u : ℕ) → StandsIn p m i u → WaitsIn m i u
  unfolding waiting_in
  stands-waits i u h = go (get key_cmp m (mask_cost p u, i)) refl h
    where
      go : (o : Option (Vec ℕ)) → get key_cmp m (mask_cost p u, i) ≡ o → Contains (items_of o) u → Contains (flat_map leveled m.entries) (i, u)
      go None e h = absurd (omega (arith, h.1))
      go (Some v) e h = contains-flat_map leveled m.entries ((mask_cost p u, i), v) (i, u)
          (Contains-from_lookup {eq = eq_by_cmp key_cmp} key-same (mask_cost p u, i) v m.entries e) (contains-map (λ (w : ℕ). let r : ℕ × ℕ = (i, w) in r) v.items u h)

  pub none-waits : ((q : ℕ × ℕ) → masks_at m q ≡ []) → (i u : ℕ) → WaitsIn m i u → ⊥
  none-waits none i u w = contains-none (masks_at m (mask_cost p u, i)) u (none (mask_cost p u, i)) (waits-stands i u w)

pub none-same : (waits later : ℕ → ℕ → Type 0) → ((i u : ℕ) → waits i u → ⊥) → ((i u : ℕ) → later i u → ⊥) → WaitsSame waits later
none-same waits later none left i u = ((λ w. absurd (left i u w)), (λ w. absurd (none i u w)))

-- ---- the first layer

pub if_none_from : {T : Type 0} (r : Option T) (P : Type 0) → P → IfNone r P
if_none_from None P h = h
if_none_from (Some x) P h = tt

module _ (p : Loss) (m : Lists) (tidy : IsTidy p m) (k : ℕ × ℕ) (us : List ℕ) (first : IsFirstList m k us) where
  pub first-layer : (l : Layer) → l.cost ≡ k.0 → l.level ≡ k.1 → IsStrictlyIncreasing l.masks → ((u : ℕ) → Contains l.masks u ↔ Contains us u) → IsFirstLayer p (WaitsIn m) l
  first-layer l cost_is level_is rises same = record {
    sorted = rises;
    some = let t = (same (get_or us 0 0)).1 (0, first.some, own us first.some) in omega (arith, t.1);
    masks = λ u. (
      (λ h. let there = (same u).0 h in
          let at : Contains (masks_at m k) u = subst (λ (vs : List ℕ). Contains vs u) (sym first.list) there in
          let cost : mask_cost p u ≡ k.0 = tidy.priced k u at in (
            stands-waits p m tidy l.level u (subst (λ (c : ℕ). Contains (masks_at m (c, l.level)) u) (sym cost)
                (subst (λ (j : ℕ). Contains (masks_at m (k.0, j)) u) (sym level_is) at)),
            cost ∙ sym cost_is,
          )),
      (λ h. (same u).1 (subst (λ (vs : List ℕ). Contains vs u) first.list
          (subst (λ (c : ℕ). Contains (masks_at m (c, k.1)) u) (h.1 ∙ cost_is)
          (subst (λ (j : ℕ). Contains (masks_at m (mask_cost p u, j)) u) level_is (waits-stands p m tidy l.level u h.0))))),
    );
    least = λ i u h.
        let t = first.least (mask_cost p u, i) u (waits-stands p m tidy i u h) in
        (subst (λ (c : ℕ). c ≤ mask_cost p u) (sym cost_is) t.0, λ e. subst (λ (j : ℕ). j ≤ i) (sym level_is) (t.1 (sym cost_is ∙ e)));
  }
    where
      own : (xs : List ℕ) → 0 < length xs → get_or xs 0 (get_or xs 0 0) ≡ get_or xs 0 0
      own [] h = absurd (omega arith)
      own (x ∷ xs) h = refl

  pub first-rest : (n : Lists) → IsTidy p n → (l : Layer) → l.cost ≡ k.0 → l.level ≡ k.1 → IsWithout m n k → IsRest p (WaitsIn m) (WaitsIn n) l
  first-rest n later l cost_is level_is without i u = (
    (λ w. let h = waits-stands p n later i u w in (
      stands-waits p m tidy i u (subst (λ (vs : List ℕ). Contains vs u) (without.others (mask_cost p u, i) (apart h)) h),
      λ at cost. apart h (cost ∙ cost_is) (at ∙ level_is),
    )),
    (λ h. stands-waits p n later i u
        (subst (λ (vs : List ℕ). Contains vs u) (sym (without.others (mask_cost p u, i) (λ cost at. h.1 (at ∙ sym level_is) (cost ∙ sym cost_is)))) (waits-stands p m tidy i u h.0))),
  )
    where
      apart : StandsIn p n i u → mask_cost p u ≡ k.0 → i ≡ k.1 → ⊥
      apart h cost at = contains-none (masks_at n k) u without.none
          (subst (λ (c : ℕ). Contains (masks_at n (c, k.1)) u) cost (subst (λ (j : ℕ). Contains (masks_at n (mask_cost p u, j)) u) at h))

-- ---- what is added

module _ (p : Loss) (m n : Lists) (tidy : IsTidy p m) (later : IsTidy p n) where
  pub added-waits : (level : ℕ) (us : List ℕ) → HasAdded p m n level us → WaitsToo (WaitsIn m) (WaitsIn n) level us
  added-waits level us h i u = (
    (λ w. ⊎_elim (λ (old : StandsIn p m i u). inl (stands-waits p m tidy i u old))
        (λ (new : Contains (filter (belongs p level (mask_cost p u, i)) us) u).
        let t = filter-contains (belongs p level (mask_cost p u, i)) us u new in
        inr (sym (eqb-true level i (and_parts (mask_cost p u == mask_cost p u) (level == i) t.1).1), t.0))
        (Contains-append_cases (masks_at m (mask_cost p u, i)) (filter (belongs p level (mask_cost p u, i)) us) u
        (subst (λ (vs : List ℕ). Contains vs u) (h (mask_cost p u, i)) (waits-stands p n later i u w)))),
    (λ w. stands-waits p n later i u (subst (λ (vs : List ℕ). Contains vs u) (sym (h (mask_cost p u, i)))
        (⊎_elim
        (λ (old : WaitsIn m i u). Contains-append_left (masks_at m (mask_cost p u, i)) (filter (belongs p level (mask_cost p u, i)) us) u (waits-stands p m tidy i u old))
        (λ (new : (i ≡ level) × Contains us u). Contains-append_right (masks_at m (mask_cost p u, i)) (filter (belongs p level (mask_cost p u, i)) us) u
        (contains-filter (belongs p level (mask_cost p u, i)) us u
        (and_from (mask_cost p u == mask_cost p u) (level == i) (eq-eqb (mask_cost p u) (mask_cost p u) refl) (eq-eqb level i (sym new.0))) new.1))
        w))),
  )

  pub same-waits : HasSame m n → WaitsSame (WaitsIn m) (WaitsIn n)
  same-waits h i u = (
    (λ w. stands-waits p m tidy i u (subst (λ (vs : List ℕ). Contains vs u) (h (mask_cost p u, i)) (waits-stands p n later i u w))),
    (λ w. stands-waits p n later i u (subst (λ (vs : List ℕ). Contains vs u) (sym (h (mask_cost p u, i))) (waits-stands p m tidy i u w))),
  )

pub start-waits : (waits later : ℕ → ℕ → Type 0) → ((i u : ℕ) → waits i u → ⊥) → WaitsToo waits later 0 (0 ∷ []) → (i u : ℕ) → later i u ↔ ((i ≡ 0) × (u ≡ 0))
start-waits waits later none too i u = (
  (λ w. ⊎_elim (λ (old : waits i u). absurd (none i u old)) (λ (new : (i ≡ 0) × Contains (0 ∷ []) u). (new.0, only new.1)) ((too i u).0 w)),
  (λ t. (too i u).1 (inr (t.0, (0, omega arith, sym t.1)))),
)
  where
    only : Contains (0 ∷ []) u → u ≡ 0
    only (zero, low, e) = sym e
    only (suc k, low, e) = absurd (omega (arith, low))
