-- How often a number stands in a list with one item more, sums at two places, and words that stand apart.
use Rattle.std.proofs.Common.{◌≡◌, ◌≢◌, ℕ, zero, suc, ◌+◌, ◌*◌, ◌<◌, ◌≤◌, List, [], ◌∷◌, ◌++◌, Option, Some, None, IfSome, cond, sum_by, sym, refl, ap, subst, arith, eq-eqb, ne_eqb, mul-le-mul_right, suc-mul}
use Rattle.std.specs.Prelude.{◌==◌, nat_lt, if◌then◌else◌}
use Rattle.std.proofs.lemmas.Grind.{common_steps}
use Rattle.std.proofs.lemmas.Bool.Decides.{nat_tests}
use Rattle.std.proofs.lemmas.List.Sums.{sum_by-cons, sum_by_push}
use mathlib.Core.Logic.{dite}
use mathlib.Core.Option.{some, some-injective, some-ne-none}
use native.Mathlib.Decide.{ℕ_discrete, dec_le}
use lib.ListN.{get_elem?}
use Rattle.mr_counts.specs.Numbers.{times}
use Rattle.mr_counts.proofs.Sums.{at-le-sum_by}
use Rattle.mr_board.specs.Rule.{opens}

-- 1 where y is x
abbrev pub is_at : ℕ → ℕ → ℕ
is_at x y = cond (y == x) 1 0

pub is_at-same : (x y : ℕ) → y ≡ x → is_at x y ≡ 1
is_at-same x y e = grind (arith, nat_tests)

pub is_at-else : (x y : ℕ) → y ≢ x → is_at x y ≡ 0
is_at-else x y ne = grind (arith, nat_tests)

pub times-push : (x : ℕ) (ns : List ℕ) (n : ℕ) → times x (ns ++ n ∷ []) ≡ times x ns + is_at x n
times-push x ns n = sum_by_push (is_at x) ns n

-- a number behind a list stands in it
pub times-last : (ns : List ℕ) (n : ℕ) → 0 < times n (ns ++ n ∷ [])
times-last ns n = omega (arith, times-push n ns n, is_at-same n n refl)

pub zero_of : (n : ℕ) → (0 < n → ⊥) → n ≡ 0
zero_of zero h = refl
zero_of (suc n) h = absurd (h (omega arith))

-- ---- the open stripe

pub claimed-is : (x s t : ℕ) → (if nat_lt x s then Some x else None) ≡ Some t → (x ≡ t) × (x < s)
claimed-is x s t e = grind (arith, nat_tests, common_steps)

pub opens-drawn : (x s t : ℕ) → x ≡ t → x < s → opens t (if nat_lt x s then Some x else None) ≡ 1
opens-drawn x s t e h = grind (arith, nat_tests, common_steps)

pub opens-claimed : (t : ℕ) (o : Option ℕ) → 0 < opens t o → o ≡ Some t
opens-claimed t None h = absurd (omega arith)
opens-claimed t (Some x) h = dite (ℕ_discrete x t)
    (λ e. ap (λ (y : ℕ). Some y) e)
    (λ ne. absurd (omega (arith, is_at-else t x ne, h)))

pub same-some : (x y : ℕ) → Some x ≡ Some y → x ≡ y
same-some x y e = cc

-- what holds of the open stripe
pub claimed-inside : (o : Option ℕ) (t : ℕ) (P : ℕ → Type 0) → IfSome o P → o ≡ Some t → P t
claimed-inside o t P h e = subst (λ (x : Option ℕ). IfSome x P) e h

-- a list that is longer by one item at 1
pub push_if : (F : List ℕ → Type 0) (x t : ℕ) (ns : List ℕ) → (x ≡ 1 → F (ns ++ t ∷ [])) → (x ≢ 1 → F ns)
    → F (if x == 1 then ns ++ t ∷ [] else ns)
push_if F x t ns hit miss = dite (ℕ_discrete x 1)
    (λ e. subst (λ b. F (if b then ns ++ t ∷ [] else ns)) (sym (eq-eqb x 1 e)) (hit e))
    (λ ne. subst (λ b. F (if b then ns ++ t ∷ [] else ns)) (sym (ne_eqb x 1 ne)) (miss ne))

-- ---- sums and places

-- two elements have no more than all
pub two-le-sum_by : {X : Type 0} (f : X → ℕ) (xs : List X) (i j : ℕ) (v w : X) → j ≢ i
    → get_elem? xs i ≡ some v → get_elem? xs j ≡ some w → f v + f w ≤ sum_by f xs
two-le-sum_by f [] i j v w ne e e' = absurd (some-ne-none v (sym e))
two-le-sum_by f (x ∷ xs) zero zero v w ne e e' = absurd (ne refl)
two-le-sum_by f (x ∷ xs) zero (suc j) v w ne e e' =
    omega (arith, sum_by-cons f x xs, ap f (some-injective x v e), at-le-sum_by f xs j w e')
two-le-sum_by f (x ∷ xs) (suc i) zero v w ne e e' =
    omega (arith, sum_by-cons f x xs, ap f (some-injective x w e'), at-le-sum_by f xs i v e)
two-le-sum_by f (x ∷ xs) (suc i) (suc j) v w ne e e' =
    omega (arith, sum_by-cons f x xs, two-le-sum_by f xs i j v w (λ h. ne (ap suc h)) e e')

-- n words of each stripe: those of a stripe end where those of a later one begin
pub stripe-before : (s t n : ℕ) → s < t → s * n + n ≤ t * n
stripe-before s t n h =
    let a : suc s * n ≤ t * n = mul-le-mul_right n h in
    omega (arith, suc-mul s n, a)

-- words of two stripes have two places
pub places-apart : (s t i j n : ℕ) → t ≢ s → i < n → j < n → t * n + j ≢ s * n + i
places-apart s t i j n ne l l' e = dite (dec_le (suc s) t)
    (λ (h : suc s ≤ t). absurd (apart (s * n) (t * n) i j (stripe-before s t n h) l e))
    (λ (h : ¬ (suc s ≤ t)). absurd (apart (t * n) (s * n) j i (stripe-before t s n (omega arith)) l' (sym e)))
  where
    apart : (p q a b : ℕ) → p + n ≤ q → a < n → q + b ≡ p + a → ⊥
    apart p q a b far less same = absurd (omega arith)
