-- Lists of masks by cost: one more mask, and a list taken.
use Rattle.std.proofs.Common.{◌≡◌, ◌≢◌, ℕ, ◌<◌, ◌≤◌, List, [], ◌∷◌, ◌++◌, Option, ◌⊎◌, inl, inr, sym, ◌∙◌, arith, ap, subst, ⊎_elim}
use Rattle.std.specs.Prelude.{◌↔◌, ◌==◌, filter, IfSome}
use Rattle.std.specs.List.{Contains}
use Rattle.std.proofs.lemmas.Bool.{cases_eq, cases_lt, eqb-true, eq-eqb}
use Rattle.std.proofs.lemmas.List.Elements.{Contains-append_left, Contains-push, Contains-push_cases}
use Rattle.mr_eq.specs.Problems.{Loss}
use Rattle.mr_front.specs.Waiting.{mask_cost}
use Rattle.mr_front.proofs.FrontierLaws.{contains-none, contains-filter, filter-contains}
use Rattle.mr_front.specs.CostLists.{CostMap, list_in, HasOneMore, HasNoneAt}
use Rattle.mr_front.specs.PutOff.{Has, IsPutOff}

-- ---- one more mask

module _ (m n : CostMap) (cost mask : ℕ) (h : HasOneMore m n cost mask) where
  pub more-at : (c u : ℕ) → Contains (list_in n c) u ↔ (Contains (list_in m c) u ⊎ ((c ≡ cost) × (mask ≡ u)))
  more-at c u = ⊎_elim
      (λ (same : c ≡ cost).
      let to : list_in n c ≡ list_in m cost ++ mask ∷ [] = ap (list_in n) same ∙ h.own in
      let from : list_in m cost ≡ list_in m c = ap (list_in m) (sym same) in (
        (λ there. ⊎_elim (λ (old : Contains (list_in m cost) u). inl (subst (λ (xs : List ℕ). Contains xs u) from old)) (λ (new : mask ≡ u). inr (same, new))
            (Contains-push_cases (list_in m cost) mask u (subst (λ (xs : List ℕ). Contains xs u) to there))),
        (λ there. subst (λ (xs : List ℕ). Contains xs u) (sym to) (⊎_elim
            (λ (old : Contains (list_in m c) u). Contains-append_left (list_in m cost) (mask ∷ []) u (subst (λ (xs : List ℕ). Contains xs u) (sym from) old))
            (λ (new : (c ≡ cost) × (mask ≡ u)). subst (λ y. Contains (list_in m cost ++ mask ∷ []) y) new.1 (Contains-push (list_in m cost) mask)) there)),
      ))
      (λ (apart : c ≢ cost). (
        (λ there. inl (subst (λ (xs : List ℕ). Contains xs u) (h.others c apart) there)),
        (λ there. ⊎_elim (λ (old : Contains (list_in m c) u). subst (λ (xs : List ℕ). Contains xs u) (sym (h.others c apart)) old) (λ (new : (c ≡ cost) × (mask ≡ u)). absurd (apart new.0)) there),
      ))
      (cases_eq c cost)

  pub put-has : (p : Loss) → cost ≡ mask_cost p mask → (u : ℕ) → Has p n u ↔ (Has p m u ⊎ (mask ≡ u))
  put-has p price u =
      let t = more-at (mask_cost p u) u in (
        (λ there. ⊎_elim (λ (old : Has p m u). inl old) (λ (new : (mask_cost p u ≡ cost) × (mask ≡ u)). inr new.1) (t.0 there)),
        (λ there. t.1 (⊎_elim (λ (old : Has p m u). inl old) (λ (new : mask ≡ u). inr (ap (mask_cost p) (sym new) ∙ sym price, new)) there)),
      )

-- a child is kept where it costs at most `reach`
pub kept-has : (p : Loss) (m n : CostMap) (cost reach mask : ℕ) → cost ≡ mask_cost p mask → (cost ≤ reach → HasOneMore m n cost mask) → (reach < cost → n ≡ m)
    → (u : ℕ) → Has p n u ↔ (Has p m u ⊎ ((mask ≡ u) × (cost ≤ reach)))
kept-has p m n cost reach mask price near far u = ⊎_elim
    (λ (high : reach < cost). let same = far high in (
      (λ there. inl (subst (λ (x : CostMap). Has p x u) same there)),
      (λ there. ⊎_elim (λ (old : Has p m u). subst (λ (x : CostMap). Has p x u) (sym same) old) (λ (new : (mask ≡ u) × (cost ≤ reach)). absurd (omega (arith, new.1, high))) there),
    ))
    (λ (low : cost ≤ reach). let t = put-has m n cost mask (near low) p price u in (
      (λ there. ⊎_elim (λ (old : Has p m u). inl old) (λ (new : mask ≡ u). inr (new, low)) (t.0 there)),
      (λ there. t.1 (⊎_elim (λ (old : Has p m u). inl old) (λ (new : (mask ≡ u) × (cost ≤ reach)). inr new.0) there)),
    ))
    (cases_lt reach cost)

-- a mask is put off at a cost, where it is one
pub put-late : (m n : CostMap) (cost mask : ℕ) → (cost < 131072 → HasOneMore m n cost mask) → (131072 ≤ cost → n ≡ m)
    → (c x : ℕ) → IsPutOff n c x ↔ (IsPutOff m c x ⊎ ((c ≡ cost) × (cost < 131072) × (mask ≡ x)))
put-late m n cost mask some none c x = ⊎_elim
    (λ (low : cost < 131072). let t = more-at m n cost mask (some low) c x in (
      (λ there. ⊎_elim (λ (old : IsPutOff m c x). inl old) (λ (new : (c ≡ cost) × (mask ≡ x)). inr (new.0, low, new.1)) (t.0 there)),
      (λ there. t.1 (⊎_elim (λ (old : IsPutOff m c x). inl old) (λ (new : (c ≡ cost) × (cost < 131072) × (mask ≡ x)). inr (new.0, new.2)) there)),
    ))
    (λ (high : 131072 ≤ cost). let same = none high in (
      (λ there. inl (subst (λ (y : CostMap). IsPutOff y c x) same there)),
      (λ there. ⊎_elim (λ (old : IsPutOff m c x). subst (λ (y : CostMap). IsPutOff y c x) (sym same) old) (λ (new : (c ≡ cost) × (cost < 131072) × (mask ≡ x)). absurd (omega (arith, new.1, high))) there),
    ))
    (cases_lt cost 131072)

-- ---- a list taken

module _ (m n : CostMap) (cost : ℕ) (h : HasNoneAt m n cost) where
  pub less-at : (c u : ℕ) → Contains (list_in n c) u ↔ (Contains (list_in m c) u × (c ≢ cost))
  less-at c u = ⊎_elim
      (λ (same : c ≡ cost). (
        (λ there. absurd (contains-none (list_in n c) u (ap (list_in n) same ∙ h.own) there)),
        (λ there. absurd (there.1 same)),
      ))
      (λ (apart : c ≢ cost). (
        (λ there. (subst (λ (xs : List ℕ). Contains xs u) (h.others c apart) there, apart)),
        (λ there. subst (λ (xs : List ℕ). Contains xs u) (sym (h.others c apart)) there.0),
      ))
      (cases_eq c cost)

-- of the masks of a list, those that cost as much as the list says
pub taken-has : (p : Loss) (m : CostMap) (cost : ℕ) (masks : List ℕ) → masks ≡ list_in m cost
    → (u : ℕ) → Contains (filter (λ v. mask_cost p v == cost) masks) u ↔ (Has p m u × (mask_cost p u ≡ cost))
taken-has p m cost masks is u = (
  (λ there.
      let t = filter-contains (λ v. mask_cost p v == cost) masks u there in
      let e = eqb-true (mask_cost p u) cost t.1 in
      (subst (λ (c : ℕ). Contains (list_in m c) u) (sym e) (subst (λ (xs : List ℕ). Contains xs u) is t.0), e)),
  (λ t. contains-filter (λ v. mask_cost p v == cost) masks u (eq-eqb (mask_cost p u) cost t.1)
      (subst (λ (xs : List ℕ). Contains xs u) (sym is) (subst (λ (c : ℕ). Contains (list_in m c) u) t.1 t.0))),
)

-- whether a list has masks of its cost
pub has-none : (p : Loss) (m : CostMap) (cost : ℕ) (masks : List ℕ) → masks ≡ list_in m cost → ((u : ℕ) → Contains masks u → mask_cost p u ≢ cost) → (u : ℕ) → Has p m u → mask_cost p u ≢ cost
has-none p m cost masks is none u h same = none u (subst (λ (xs : List ℕ). Contains xs u) (sym is) (subst (λ (c : ℕ). Contains (list_in m c) u) same h)) same

pub has-some : (p : Loss) (m : CostMap) (cost : ℕ) (masks : List ℕ) → masks ≡ list_in m cost → ((u : ℕ) × Contains masks u × (mask_cost p u ≡ cost)) → (u : ℕ) × Has p m u × (mask_cost p u ≡ cost)
has-some p m cost masks is some = (some.0, subst (λ (c : ℕ). Contains (list_in m c) some.0) (sym some.2) (subst (λ (xs : List ℕ). Contains xs some.0) is some.1), some.2)

pub empty-list : (m : CostMap) (c u : ℕ) → ((k : ℕ) → list_in m k ≡ []) → Contains (list_in m c) u → ⊥
empty-list m c u none h = contains-none (list_in m c) u (none c) h

-- ---- the lesser of two costs

pub at_most-one : (a b r : Option ℕ) (above : ℕ) → (r ≡ a) ⊎ (r ≡ b) → IfSome a (λ k. above < k) → IfSome b (λ k. above < k) → IfSome r (λ k. above < k)
at_most-one a b r above one x y = ⊎_elim (λ (e : r ≡ a). subst (λ (o : Option ℕ). IfSome o (λ k. above < k)) (sym e) x) (λ (e : r ≡ b). subst (λ (o : Option ℕ). IfSome o (λ k. above < k)) (sym e) y) one
