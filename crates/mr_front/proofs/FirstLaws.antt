-- The list of the least key, taken from all lists, and the layer that it makes.
use Rattle.std.proofs.Common.{◌≡◌, ℕ, Option, Some, None, IfSome, IfNone, refl, sym, ◌∙◌, arith, ap, subst}
use Rattle.std.specs.List.{Contains}
use Rattle.std.specs.Option.{IsSome}
use Rattle.std.specs.Map.{lookup}
use Rattle.std.specs.BTreeMap.{IsOrdered, get, is_at, Updates, IsUnchanged, IsLowerBound}
use Rattle.std.specs.Global.{Vec}
use Rattle.mr_eq.specs.Problems.{Loss}
use Rattle.mr_front.specs.Lists.{Lists, key_cmp, items_of, IsTidy, IsFirstList}
use Rattle.mr_front.proofs.ListLaws.{key-le, tidy-updates}

unchanged-tidy : (p : Loss) (m n : Lists) → IsTidy p m → IsUnchanged m n → IsOrdered key_cmp n → IsTidy p n
unchanged-tidy p m n tidy k sorted =
    let same : (q : ℕ × ℕ) → get key_cmp n q ≡ get key_cmp m q = λ q. ap (λ es. lookup (is_at (key_cmp q)) es) k in
    record {
      some = λ q v t. tidy.some q v (sym (same q) ∙ t);
      priced = λ q u there. tidy.priced q u (subst (λ o. Contains (items_of o) u) (same q) there);
      ordered = sorted;
    }

pub first-tidy : (p : Loss) (m n : Lists) (r : Option ((ℕ × ℕ) × Vec ℕ)) → IsTidy p m → IfSome r (λ p. Updates key_cmp m n p.0 None) → IfNone r (IsUnchanged m n) → IsOrdered key_cmp n → IsTidy p n
first-tidy p m n None tidy h k sorted = unchanged-tidy p m n tidy k sorted
first-tidy p m n (Some e) tidy h k sorted = tidy-updates p m n e.0 None tidy h.0 (λ v t. absurd (cc)) (λ v t. absurd (omega (arith, t.1))) sorted

holds-some : (m : Lists) (q : ℕ × ℕ) (u : ℕ) (o : Option (Vec ℕ)) → o ≡ get key_cmp m q → Contains (items_of o) u → IsSome (get key_cmp m q)
holds-some m q u None e h = absurd (omega (arith, h.1))
holds-some m q u (Some v) e h = subst (λ (o : Option (Vec ℕ)). IsSome o) e refl

pub first-list : (p : Loss) (m : Lists) (r : Option ((ℕ × ℕ) × Vec ℕ)) → IsTidy p m → IfSome r (λ p. get key_cmp m p.0 ≡ Some p.1) → IfSome r (λ p. IsLowerBound key_cmp m p.0)
    → IfSome r (λ p. IsFirstList m p.0 p.1.items)
first-list p m None tidy h k = tt
first-list p m (Some e) tidy h k = record {
  some = tidy.some e.0 e.1 h;
  list = ap items_of h;
  least = λ q u there. key-le e.0.0 e.0.1 q.0 q.1 (k q (holds-some m q u (get key_cmp m q) refl there));
}
