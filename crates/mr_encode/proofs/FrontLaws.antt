-- Lists of bytes that are made piece after piece.
use Rattle.std.proofs.Common.{◌≡◌, ℕ, zero, suc, ◌+◌, ◌*◌, ◌≤◌, List, ◌++◌, take, flat_map, length, sym, ap, ap₂, subst, ◌∙◌, arith, append_assoc, add-zero, zero-add, zero-mul}
use Rattle.std.specs.List.{range_with_len}
use Rattle.std.proofs.Math.Nat.{add-mul}
use Rattle.std.proofs.lemmas.List.{take_all, append-nil}
use Rattle.std.proofs.lemmas.Slice.{take-put_mid}
use borrow.Rule.Slice.PartMut.{put_mid}

-- one number more
pub flat_map-more : (f : ℕ → List ℕ) (a n : ℕ) → flat_map f (range_with_len a (n + 1)) ≡ flat_map f (range_with_len a n) ++ f (a + n)
flat_map-more f a zero = append-nil (f a) ∙ ap f (sym (add-zero a))
flat_map-more f a (suc n) =
    let first : suc n + 1 ≡ suc (n + 1) = omega arith in
    let last : a + 1 + n ≡ a + suc n = omega arith in
    ap (λ k. flat_map f (range_with_len a k)) first
    ∙ ap (λ xs. f a ++ xs) (flat_map-more f (a + 1) n)
    ∙ sym (append_assoc (f a) (flat_map f (range_with_len (a + 1) n)) (f (a + 1 + n)))
    ∙ ap (λ k. (f a ++ flat_map f (range_with_len (a + 1) n)) ++ f k) last

-- numbers one after another, and those behind them
pub flat_map-split : (f : ℕ → List ℕ) (a k n : ℕ)
    → flat_map f (range_with_len a (k + n)) ≡ flat_map f (range_with_len a k) ++ flat_map f (range_with_len (a + k) n)
flat_map-split f a zero n = ap (λ k. flat_map f (range_with_len a k)) (zero-add n) ∙ ap (λ b. flat_map f (range_with_len b n)) (sym (add-zero a))
flat_map-split f a (suc k) n =
    let count : suc k + n ≡ suc (k + n) = omega arith in
    let last : a + 1 + k ≡ a + suc k = omega arith in
    ap (λ i. flat_map f (range_with_len a i)) count
    ∙ ap (λ xs. f a ++ xs) (flat_map-split f (a + 1) k n)
    ∙ sym (append_assoc (f a) (flat_map f (range_with_len (a + 1) k)) (flat_map f (range_with_len (a + 1 + k) n)))
    ∙ ap (λ b. (f a ++ flat_map f (range_with_len (a + 1) k)) ++ flat_map f (range_with_len b n)) last

module _ (f : ℕ → List ℕ) (size a : ℕ) where
  -- the first n pieces of `size` bytes are those of f from a on
  abbrev pub HasFront : ℕ → List ℕ → Type 0
  HasFront n bytes = take (n * size) bytes ≡ flat_map f (range_with_len a n)

  -- no piece is made
  pub front-none : (n : ℕ) (bytes : List ℕ) → n ≡ 0 → HasFront n bytes
  front-none n bytes e = subst (λ k. HasFront k bytes) (sym e) (ap (λ k. take k bytes) (zero-mul size))

  -- a piece more is written: `at` is how n is written
  pub front-write : (n at k : ℕ) (bytes piece : List ℕ) → HasFront n bytes → at ≡ n → n * size ≤ length bytes → length piece ≡ size → piece ≡ f (a + n)
      → HasFront (n + 1) (put_mid (at * size) k bytes piece)
  front-write n at k bytes piece before e room long is =
      let end : (n + 1) * size ≡ n * size + length piece = omega (arith, add-mul n 1 size) in
      subst (λ b. HasFront (n + 1) (put_mid (b * size) k bytes piece)) (sym e)
      (take-put_mid (n * size) k bytes piece ((n + 1) * size) end room
      ∙ ap₂ (λ xs ys. xs ++ ys) before is
      ∙ sym (flat_map-more f a n))

  -- all pieces are written
  pub front-all : (n : ℕ) (bytes : List ℕ) → HasFront n bytes → length bytes ≡ n * size → bytes ≡ flat_map f (range_with_len a n)
  front-all n bytes before long = sym (take_all (n * size) bytes (omega arith)) ∙ before
