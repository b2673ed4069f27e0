-- The losses of a table, listed one after another, and how many there are.
use Rattle.std.proofs.Common.{◌≡◌, ℕ, zero, suc, ◌+◌, ◌-◌, ◌*◌, ◌%◌, ◌^◌, ◌<◌, ◌≤◌, List, [], ◌∷◌, ◌++◌, length, map, bit_or, sym, ap, ap₂, ◌∙◌, add-zero, arith}
use Rattle.std.specs.List.{flat_map, range_with_len}
use Rattle.std.proofs.Math.Nat.{mod-eq_of_lt, mul-le-mul_right}
use Rattle.std.proofs.Math.Pow.{pow-lt}
use Rattle.std.proofs.lemmas.List.{append_assoc, append-nil, length-append}
use Rattle.std.proofs.lemmas.List.FromFn.{map-range_with_len_more, length-map-range_with_len}
use Rattle.std.proofs.lemmas.List.Concat.{flat_map-cons}
use Rattle.mr_table.specs.Losses.{losses, pairs, pairs_with, singles}

-- the set of one device, by a shift, and that of two
pub one_device : (i : ℕ) → i < 128 → (1 * 2 ^ i) % 2 ^ 128 ≡ 2 ^ i
one_device i less = let e : 1 * 2 ^ i ≡ 2 ^ i = omega arith in ap (λ x. x % 2 ^ 128) e ∙ mod-eq_of_lt (pow-lt less)

pub two_devices : (i j : ℕ) → i < 128 → j < 128 → bit_or ((1 * 2 ^ i) % 2 ^ 128) ((1 * 2 ^ j) % 2 ^ 128) ≡ bit_or (2 ^ i) (2 ^ j)
two_devices i j less less' = ap₂ bit_or (one_device i less) (one_device j less')

-- one item more behind a list that is made of a range
pub one-more : {X : Type 0} (f : ℕ → X) (start old now : List X) (x : X) (a n m j : ℕ) → old ≡ start ++ map f (range_with_len a n) → now ≡ old ++ x ∷ [] → x ≡ f j
    → a + n ≡ j → m ≡ n + 1 → now ≡ start ++ map f (range_with_len a m)
one-more f start old now x a n m j was is at place more =
    is ∙ ap (λ l. l ++ x ∷ []) was ∙ append_assoc start (map f (range_with_len a n)) (x ∷ []) ∙ ap (λ y. start ++ (map f (range_with_len a n) ++ y ∷ [])) at
    ∙ ap (λ l. start ++ l) (sym (map-range_with_len_more f a n j place)) ∙ ap (λ k. start ++ map f (range_with_len a k)) (sym more)

flat_map-more : {X : Type 0} (f : ℕ → List X) (a n : ℕ) → flat_map f (range_with_len a (n + 1)) ≡ flat_map f (range_with_len a n) ++ f (a + n)
flat_map-more f a zero = append-nil (f a) ∙ ap f (sym (add-zero a))
flat_map-more f a (suc n) =
    let first : suc n + 1 ≡ suc (n + 1) = omega arith in
    let last : a + 1 + n ≡ a + suc n = omega arith in
    ap (λ k. flat_map f (range_with_len a k)) first
    ∙ ap (λ xs. f a ++ xs) (flat_map-more f (a + 1) n)
    ∙ sym (append_assoc (f a) (flat_map f (range_with_len (a + 1) n)) (f (a + 1 + n)))
    ∙ ap (λ k. (f a ++ flat_map f (range_with_len (a + 1) n)) ++ f k) last

-- one list more behind lists that are made of a range
pub list-more : {X : Type 0} (f : ℕ → List X) (start old now : List X) (n : ℕ) → old ≡ start ++ flat_map f (range_with_len 0 n) → now ≡ old ++ f n
    → now ≡ start ++ flat_map f (range_with_len 0 (n + 1))
list-more f start old now n was is =
    let e : 0 + n ≡ n = omega arith in
    is ∙ ap (λ l. l ++ f n) was ∙ append_assoc start (flat_map f (range_with_len 0 n)) (f n)
    ∙ ap (λ l. start ++ l) (sym (flat_map-more f 0 n ∙ ap (λ k. flat_map f (range_with_len 0 n) ++ f k) e))

pairs_with-few : (n i : ℕ) → length (pairs_with n i) ≡ n - (i + 1)
pairs_with-few n i = length-map-range_with_len _ (i + 1) (n - (i + 1))

square-more : (k : ℕ) → suc k * suc k ≡ k * k + 2 * k + 1
square-more k = grind arith

-- the pairs of the last k devices among themselves
pairs-from : (n a k : ℕ) → a + k ≡ n → 2 * length (flat_map (pairs_with n) (range_with_len a k)) + k ≡ k * k
pairs-from n a zero e = omega arith
pairs-from n a (suc k) e = omega (
  arith,
  ap length (flat_map-cons (pairs_with n) a (range_with_len (a + 1) k)),
  length-append (pairs_with n a) (flat_map (pairs_with n) (range_with_len (a + 1) k)),
  pairs_with-few n a,
  pairs-from n (a + 1) k (omega (arith, e)),
  square-more k,
)

square-le : (k : ℕ) → k ≤ 128 → k * k ≤ 128 * k
square-le k le = mul-le-mul_right k le

-- 128 devices have 8,256 losses of one or two, and fewer have fewer
pub few : (n : ℕ) → n ≤ 128 → length (losses n) ≤ 8256
few n le = omega (
  arith,
  length-append (singles n) (pairs n),
  length-map-range_with_len (λ i. 2 ^ i) 0 n,
  pairs-from n 0 n (omega arith),
  square-le n le,
)
