-- Masks of one cost and level appended to their list, and the last mask of a list taken away.
use Rattle.std.proofs.Common.{◌≡◌, ℕ, ◌<◌, Bool, true, false, cond, List, [], ◌∷◌, ◌++◌, length, get_or, Option, Some, None, Result, Ok, Err, OnOk, OnErr, option_to_list, refl, sym, ◌∙◌, arith, ap, subst, ⊎_elim, length-append}
use Rattle.std.specs.Prelude.{◌==◌}
use Rattle.std.proofs.lemmas.Bool.{eqb-true, eqb-false}
use Rattle.std.specs.List.{All, Contains}
use Rattle.std.specs.Map.{lookup}
use Rattle.std.specs.BTreeMap.{IsOrdered, get, is_at, Updates, IsUnchanged}
use Rattle.std.specs.Global.{Vec}
use Rattle.std.proofs.lemmas.List.{get_or_default, same_from_push}
use Rattle.std.proofs.lemmas.List.Elements.{All-contains, Contains-append_left, Contains-append_cases}
use Rattle.mr_eq.specs.Problems.{Loss}
use Rattle.mr_front.specs.Waiting.{mask_cost}
use Rattle.mr_front.specs.Lists.{Lists, key_cmp, items_of, masks_at, IsTidy, HasAdded, HasSame, EndsWith}
use Rattle.mr_front.proofs.ListLaws.{belongs-own, put-updates, key-same, added-put, taken-put, tidy-updates, updates-twice}

pub on_err_from : {T E : Type 0} (r : Result T E) (P : Type 0) → P → OnErr r P
on_err_from (Ok x) P h = tt
on_err_from (Err e) P h = h

pub empty-items : (w : Vec ℕ) (b : Bool) → w.len ≡ length w.items → b ≡ (w.len == 0) → b ≡ true → w.items ≡ []
empty-items w b long e h = go w.items (omega (arith, long, eqb-true w.len 0 (sym e ∙ h)))
  where
    go : (xs : List ℕ) → length xs ≡ 0 → xs ≡ []
    go [] h = refl
    go (x ∷ xs) h = absurd (omega (arith, h))

pub some-items : (w : Vec ℕ) (b : Bool) → w.len ≡ length w.items → b ≡ (w.len == 0) → b ≡ false → 0 < length w.items
some-items w b long e h = let other : w.len ≡ 0 → ⊥ = eqb-false w.len 0 (sym e ∙ h) in omega (arith, long, other)

pub same-cost : (p : Loss) (us : List ℕ) (c x : ℕ) → 0 < length us → x ≡ get_or us 0 x → c ≡ mask_cost p x → All (λ u. mask_cost p u ≡ mask_cost p (get_or us 0 0)) us → All (λ u. mask_cost p u ≡ c) us
same-cost p us c x some first e h k d low = h k d low ∙ ap (mask_cost p) (sym (first ∙ get_or_default us 0 x 0 some)) ∙ sym e

-- n has v at the key k, and at each other key what m has
abbrev pub IsWritten : Lists → Lists → ℕ × ℕ → Option (Vec ℕ) → Type 0
IsWritten m n k v = (q : ℕ × ℕ) → get key_cmp n q ≡ cond (is_at (key_cmp k) q) v (get key_cmp m q)

-- the list of a key was appended to, or was left as it was
module _ (p : Loss) (m n : Lists) (level c : ℕ) (us : List ℕ) (old w : Vec ℕ) (tidy : IsTidy p m) (priced : All (λ u. mask_cost p u ≡ c) us)
    (there : Some old ≡ get key_cmp m (c, level)) (written : IsWritten m n (c, level) (Some w)) where
  old-masks : masks_at m (c, level) ≡ old.items
  old-masks = ap items_of (sym there)

  pub extended-tidy : (b : Bool) → w.items ≡ cond b (old.items ++ us) old.items → IsOrdered key_cmp n → IsTidy p n
  extended-tidy b items sorted = tidy-updates p m n (c, level) (Some w) tidy written
      (λ v e. let same : w ≡ v = cc in subst (λ (x : Vec ℕ). 0 < length x.items) same (some b items))
      (λ u h. prices b items u h) sorted
    where
      before : 0 < length old.items
      before = tidy.some (c, level) old (sym there)

      some : (b : Bool) → w.items ≡ cond b (old.items ++ us) old.items → 0 < length w.items
      some true e = omega (arith, before, ap length e, length-append old.items us)
      some false e = omega (arith, before, ap length e)

      old-price : (u : ℕ) → Contains old.items u → mask_cost p u ≡ c
      old-price u h = tidy.priced (c, level) u (subst (λ (vs : List ℕ). Contains vs u) (sym old-masks) h)

      prices : (b : Bool) → w.items ≡ cond b (old.items ++ us) old.items → (u : ℕ) → Contains w.items u → mask_cost p u ≡ c
      prices true e u h = ⊎_elim (old-price u) (λ (k : Contains us u). All-contains (λ v. mask_cost p v ≡ c) us u priced k)
          (Contains-append_cases old.items us u (subst (λ (vs : List ℕ). Contains vs u) e h))
      prices false e u h = old-price u (subst (λ (vs : List ℕ). Contains vs u) e h)

  pub extended-added : w.items ≡ old.items ++ us → HasAdded p m n level us
  extended-added e = added-put p m n level c us priced
      (λ q. put-updates m n (c, level) (Some w) written q
      ∙ ap (λ (vs : List ℕ). cond (is_at (key_cmp (c, level)) q) vs (masks_at m q)) (e ∙ ap (λ (vs : List ℕ). vs ++ us) (sym old-masks)))

  pub extended-same : w.items ≡ old.items → HasSame m n
  extended-same e q = put-updates m n (c, level) (Some w) written q ∙ go (is_at (key_cmp (c, level)) q) (λ t. e ∙ sym old-masks ∙ ap (masks_at m) (key-same (c, level) q t))
    where
      go : (b : Bool) → (b ≡ true → w.items ≡ masks_at m q) → cond b w.items (masks_at m q) ≡ masks_at m q
      go true h = h refl
      go false h = refl

-- a new list was put at a key that had none
module _ (p : Loss) (m lent n : Lists) (level c : ℕ) (us : List ℕ) (w : Vec ℕ) (tidy : IsTidy p m) (priced : All (λ u. mask_cost p u ≡ c) us) (kept : lent ≡ m) where
  put-written : Updates key_cmp lent n (c, level) (Some w) → IsWritten m n (c, level) (Some w)
  put-written h = subst (λ (x : Lists). IsWritten x n (c, level) (Some w)) kept h.0

  pub new-tidy : {T E : Type 0} (r : Result T E) → 0 < length us → w.items ≡ us → OnOk r (Updates key_cmp lent n (c, level) (Some w)) → OnErr r (IsUnchanged lent n) → IsOrdered key_cmp n → IsTidy p n
  new-tidy (Ok x) some e h k sorted = tidy-updates p m n (c, level) (Some w) tidy (put-written h)
      (λ v t. let same : w ≡ v = cc in subst (λ (x : Vec ℕ). 0 < length x.items) same (omega (arith, some, ap length e)))
      (λ u there. All-contains (λ v. mask_cost p v ≡ c) us u priced (subst (λ (vs : List ℕ). Contains vs u) e there)) sorted
  new-tidy (Err x) some e h k sorted =
      let same : (q : ℕ × ℕ) → get key_cmp n q ≡ get key_cmp m q = λ q. ap (λ es. lookup (is_at (key_cmp q)) es) k ∙ ap (λ (x : Lists). get key_cmp x q) kept in
      record {
        some = λ q v t. tidy.some q v (sym (same q) ∙ t);
        priced = λ q u there. tidy.priced q u (subst (λ o. Contains (items_of o) u) (same q) there);
        ordered = sorted;
      }

  pub new-added : None ≡ get key_cmp m (c, level) → w.items ≡ us → Updates key_cmp lent n (c, level) (Some w) → HasAdded p m n level us
  new-added none e h = added-put p m n level c us priced
      (λ q. put-updates m n (c, level) (Some w) (put-written h) q
      ∙ ap (λ (vs : List ℕ). cond (is_at (key_cmp (c, level)) q) vs (masks_at m q)) (e ∙ ap (λ o. items_of o ++ us) none))

-- the last mask of a list was taken away
module _ (p : Loss) (m : Lists) (level c u : ℕ) (cost_is : c ≡ mask_cost p u) (ends : EndsWith p m level (u ∷ [])) where
  pub ends-key : (rest : List ℕ) × (masks_at m (c, level) ≡ rest ++ u ∷ [])
  ends-key =
      let e = ends (c, level) in
      (e.0, e.1 ∙ ap (λ b. e.0 ++ cond b (u ∷ []) []) (belongs-own p c level u (sym cost_is)))

  pub ends-some : None ≡ get key_cmp m (c, level) → ⊥
  ends-some none =
      let e : [] ≡ ends-key.0 ++ u ∷ [] = ap items_of none ∙ ends-key.1 in
      omega (arith, ap length e, length-append ends-key.0 (u ∷ []))

  module _ (old w : Vec ℕ) (r : Option ℕ) (x : ℕ) (tidy : IsTidy p m) (there : Some old ≡ get key_cmp m (c, level))
      (popped : old.items ≡ w.items ++ option_to_list r) (found : r ≡ Some x) where
    left : masks_at m (c, level) ≡ w.items ++ u ∷ []
    left =
        let both : ends-key.0 ++ u ∷ [] ≡ w.items ++ x ∷ [] =
        sym (ap items_of there ∙ ends-key.1) ∙ popped ∙ ap (λ o. w.items ++ option_to_list o) found in
        let same = same_from_push ends-key.0 w.items u x both in
        ends-key.1 ∙ ap (λ (vs : List ℕ). vs ++ u ∷ []) same.0

    left-price : (v : ℕ) → Contains w.items v → mask_cost p v ≡ c
    left-price v h = tidy.priced (c, level) v (subst (λ (vs : List ℕ). Contains vs v) (sym left) (Contains-append_left w.items (u ∷ []) v h))

    pub shorter-tidy : (n : Lists) → IsWritten m n (c, level) (Some w) → 0 < length w.items → IsOrdered key_cmp n → IsTidy p n
    shorter-tidy n written some sorted = tidy-updates p m n (c, level) (Some w) tidy written
        (λ v t. let same : w ≡ v = cc in subst (λ (x : Vec ℕ). 0 < length x.items) same some)
        left-price sorted

    pub shorter-added : (n : Lists) → IsWritten m n (c, level) (Some w) → HasAdded p n m level (u ∷ [])
    shorter-added n written = taken-put p m n level c u w.items (sym cost_is) left (put-updates m n (c, level) (Some w) written)

    module _ (mid n : Lists) (written : IsWritten m mid (c, level) (Some w)) (removed : IsWritten mid n (c, level) None) where
      gone : IsWritten m n (c, level) None
      gone = updates-twice m mid n (c, level) (Some w) None written removed

      pub emptied-tidy : IsOrdered key_cmp n → IsTidy p n
      emptied-tidy sorted = tidy-updates p m n (c, level) None tidy gone (λ v t. absurd (cc)) (λ v h. absurd (omega (arith, h.1))) sorted

      pub emptied-added : w.items ≡ [] → HasAdded p n m level (u ∷ [])
      emptied-added e = taken-put p m n level c u [] (sym cost_is) (left ∙ ap (λ (vs : List ℕ). vs ++ u ∷ []) e) (put-updates m n (c, level) None gone)
