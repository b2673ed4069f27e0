-- The numbers that are c modulo a count, one after another.
use Rattle.std.proofs.Common.{◌≡◌, ◌≢◌, ℕ, zero, suc, ◌+◌, ◌*◌, ◌<◌, ◌≤◌, ◌==◌, ◌%◌, ◌/◌, Bool, true, false, if◌then◌else◌, List, [], ◌∷◌, ◌++◌, length, get_or, length-append, append-nil, add-one, eq-eqb, ne_eqb, sym, refl, ap, ◌∙◌, subst, arith}
use Rattle.std.specs.List.{range_with_len, filter}
use Rattle.std.proofs.lemmas.List.{get_or_append_left}
use Rattle.std.proofs.lemmas.List.Elements.{filter-append}
use Rattle.std.proofs.lemmas.Nat.{mod-mul-add}
use Rattle.std.proofs.Math.Nat.{mod-add-div', mul-le-mul_right}
use Rattle.std.proofs.Math.Seq.{get_or-append_seam}
use mathlib.Core.Logic.{dite}
use native.Mathlib.Decide.{ℕ_discrete}
use Rattle.mr_amend.specs.Callers.{every}
use Rattle.mr_amend.proofs.Counting.{range-push}

one_more : (p : ℕ → Bool) (i : ℕ) (b : Bool) → p i ≡ b → filter p (i ∷ []) ≡ (if b then i ∷ [] else [])
one_more p i b e = ap (λ (x : Bool). if x then i ∷ [] else []) e

every-split : (c count i : ℕ) → every c count (suc i) ≡ every c count i ++ filter (λ k. k % count == c) (i ∷ [])
every-split c count i =
    let p : ℕ → Bool = λ k. k % count == c in
    ap (every c count) (sym (add-one i)) ∙ ap (filter p) (range-push i) ∙ filter-append p (range_with_len 0 i) (i ∷ [])

every-here : (c count i : ℕ) → i % count ≡ c → every c count (suc i) ≡ every c count i ++ i ∷ []
every-here c count i e = every-split c count i ∙ ap (λ (l : List ℕ). every c count i ++ l) (one_more (λ k. k % count == c) i true (eq-eqb (i % count) c e))

every-else : (c count i : ℕ) → i % count ≢ c → every c count (suc i) ≡ every c count i
every-else c count i ne = every-split c count i ∙ ap (λ (l : List ℕ). every c count i ++ l) (one_more (λ k. k % count == c) i false (ne_eqb (i % count) c ne)) ∙ append-nil (every c count i)

-- item i of these numbers below m is c + i * count, and they have it where that is below m
abbrev StridedAt : ℕ → ℕ → ℕ → ℕ → ℕ → List ℕ → Type 0
StridedAt c count m i d xs = (c + i * count < m → (i < length xs) × (get_or xs i d ≡ c + i * count)) × (i < length xs → c + i * count < m)

pub least_or : {P : Type 0} → (x y : ℕ) → (x < y → P) → (x ≡ y → P) → (y < x → P) → P
least_or zero zero f g h = g refl
least_or zero (suc y) f g h = f (omega arith)
least_or (suc x) zero f g h = h (omega arith)
least_or (suc x) (suc y) f g h = least_or x y (λ a. f (omega arith)) (λ a. g (ap suc a)) (λ a. h (omega arith))

pub next_product : (i j count : ℕ) → i < j → i * count + count ≤ j * count
next_product i j count low = let a = mul-le-mul_right {m = suc i} {n = j} count (omega arith) in let b : suc i * count ≡ i * count + count = omega arith in omega arith

strided : (c count m : ℕ) → c < count → (i d : ℕ) → StridedAt c count m i d (every c count m)
strided c count zero low i d = ((λ h. absurd (omega arith)), (λ (h : i < 0). absurd (omega arith)))
strided c count (suc m) low i d = dite (ℕ_discrete (m % count) c) (here (strided c count m low)) (other (strided c count m low))
  where
    here : ((i d : ℕ) → StridedAt c count m i d (every c count m)) → m % count ≡ c → StridedAt c count (suc m) i d (every c count (suc m))
    here r e =
        let xs : List ℕ = every c count m in
        let long = length-append xs (m ∷ []) in
        subst (StridedAt c count (suc m) i d) (sym (every-here c count m e)) (
          (λ h. least_or (c + i * count) m
              (λ lt. let p = (r i d).0 lt in let q = p.0 in (omega arith, get_or_append_left xs (m ∷ []) d i q ∙ p.1))
              (λ eq. least_or i (length xs)
              (λ a. let q = (r i d).1 a in absurd (omega arith))
              (λ same. (omega arith, ap (λ (z : ℕ). get_or (xs ++ m ∷ []) z d) same ∙ get_or-append_seam xs m [] d ∙ sym eq))
              (λ more.
              let n = next_product (length xs) i count more in
              let q = (r (length xs) d).0 (omega arith) in
              let z = q.0 in absurd (omega arith)))
              (λ gt. absurd (omega arith))),
          (λ h. least_or i (length xs)
              (λ a. let q = (r i d).1 a in omega arith)
              (λ same.
              let whole : m % count + m / count * count ≡ m = mod-add-div' m count in
              least_or (m / count) i
              (λ a. let q = (r (m / count) d).1 (omega arith) in absurd (omega arith))
              (λ eq. let k : m / count * count ≡ i * count = ap (λ (z : ℕ). z * count) eq in omega arith)
              (λ more. let n = next_product i (m / count) count more in omega arith))
              (λ gt. absurd (omega arith))),
        )

    other : ((i d : ℕ) → StridedAt c count m i d (every c count m)) → m % count ≢ c → StridedAt c count (suc m) i d (every c count (suc m))
    other r ne = subst (StridedAt c count (suc m) i d) (sym (every-else c count m ne)) (
      (λ h. least_or (c + i * count) m
          (λ lt. (r i d).0 lt)
          (λ eq. let k : m ≡ i * count + c = omega arith in absurd (ne (ap (λ (z : ℕ). z % count) k ∙ mod-mul-add i count c low)))
          (λ gt. absurd (omega arith))),
      (λ h. let q = (r i d).1 h in omega arith),
    )

-- a number k below m stands at k / count of those that are k modulo count
pub stands_at : (count m k : ℕ) → k % count < count → k < m → (k / count < length (every (k % count) count m)) × (get_or (every (k % count) count m) (k / count) 0 ≡ k)
stands_at count m k low below =
    let whole : k % count + k / count * count ≡ k = mod-add-div' k count in
    let a = (strided (k % count) count m low (k / count) 0).0 (omega (arith, whole, below)) in (a.0, a.1 ∙ whole)

-- of two numbers that are the same modulo count, the lower one stands at the lower place
pub stands_below : (count k l : ℕ) → k < l → k % count ≡ l % count → k / count < l / count
stands_below count k l less same =
    let x : k % count + k / count * count ≡ k = mod-add-div' k count in
    let y : l % count + l / count * count ≡ l = mod-add-div' l count in
    least_or (k / count) (l / count) (λ h. h)
    (λ h. let z : k / count * count ≡ l / count * count = ap (λ (q : ℕ). q * count) h in absurd (omega arith))
    (λ h. let z = next_product (l / count) (k / count) count h in absurd (omega arith))
