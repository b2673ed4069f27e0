-- A file that is made of an image holds that image, and a file with a head and the symbols of an image is made of it.
use Rattle.std.proofs.Common.{◌≡◌, ℕ, zero, suc, ◌+◌, ◌*◌, ◌<◌, ◌≤◌, List, ◌++◌, take, drop, flat_map, length, refl, sym, ap, ◌∙◌, arith, ap₂, zero-add, add-zero, zero-mul}
use Rattle.std.specs.List.{range_with_len}
use Rattle.std.proofs.Math.Nat.{suc-mul, mul_assoc, add-mul, mul-le-mul_right}
use Rattle.std.proofs.Math.ListN.{length-append}
use Rattle.std.proofs.Math.Seq.{drop-append-add, take-add}
use Rattle.std.proofs.lemmas.List.{drop-append-le, take_at, append_assoc, drop-drop, take_all, length-drop, take-append-drop}
use Rattle.mr_image.specs.Images.{Layout, stripe_symbols, Image, image_of, image_body, place}
use Rattle.mr_image.specs.Heads.{head_bytes, image_bytes, file_bytes}
use Rattle.mr_image.specs.Laws.{HasSizes}
use Rattle.mr_image.proofs.Codewords.{image_body-same}

module _ (f : ℕ → List ℕ) (m : ℕ) where
  -- the pieces from a on, of m bytes each
  pieces : ℕ → ℕ → List ℕ
  pieces a n = flat_map f (range_with_len a n)

  length-pieces : (a n : ℕ) → ((k : ℕ) → k < n → length (f (a + k)) ≡ m) → length (pieces a n) ≡ n * m
  unfolding pieces
  length-pieces a zero sizes = sym (zero-mul m)
  length-pieces a (suc n) sizes =
      let here : length (f a) ≡ m = ap (λ i. length (f i)) (sym (omega arith)) ∙ sizes 0 (omega arith) in
      let behind : length (pieces (a + 1) n) ≡ n * m = length-pieces (a + 1) n (λ k low.
      let next : a + 1 + k ≡ a + suc k = omega arith in ap (λ i. length (f i)) next ∙ sizes (suc k) (omega (arith, low))) in
      length-append (f a) (pieces (a + 1) n) ∙ omega (arith, here, behind, suc-mul n m)

  -- what stands from byte r of piece k on
  record Behind (a n k r : ℕ) : Type 0 where
    rest : List ℕ
    is : drop (k * m + r) (pieces a n) ≡ drop r (f (a + k)) ++ rest

  behind_piece : (a n k r : ℕ) → ((j : ℕ) → j < n → length (f (a + j)) ≡ m) → k < n → r ≤ m → Behind a n k r
  unfolding pieces
  behind_piece a zero k r sizes low few = absurd (omega arith)
  behind_piece a (suc n) zero r sizes low few =
      let same : a + 0 ≡ a = omega arith in
      let size : length (f a) ≡ m = ap (λ i. length (f i)) (sym same) ∙ sizes 0 (omega arith) in
      let at : 0 * m + r ≡ r = ap (λ i. i + r) (zero-mul m) ∙ zero-add r in
      record {
        rest = pieces (a + 1) n;
        is = ap (λ i. drop i (f a ++ pieces (a + 1) n)) at ∙ drop-append-le r (f a) (pieces (a + 1) n) (omega arith) ∙ ap (λ i. drop r (f i) ++ pieces (a + 1) n) (sym same);
      }
  behind_piece a (suc n) (suc k) r sizes low few =
      let same : a + 0 ≡ a = omega arith in
      let size : length (f a) ≡ m = ap (λ i. length (f i)) (sym same) ∙ sizes 0 (omega arith) in
      let later = behind_piece (a + 1) n k r (λ j h. let next : a + 1 + j ≡ a + suc j = omega arith in ap (λ i. length (f i)) next ∙ sizes (suc j) (omega (arith, h))) (omega arith) few in
      let at : suc k * m + r ≡ length (f a) + (k * m + r) = omega (arith, suc-mul k m, size) in
      let next : a + 1 + k ≡ a + suc k = omega arith in
      record {
        rest = later.rest;
        is = ap (λ i. drop i (f a ++ pieces (a + 1) n)) at ∙ drop-append-add (f a) (pieces (a + 1) n) (k * m + r) ∙ later.is ∙ ap (λ i. drop r (f i) ++ later.rest) next;
      }

length-head_bytes : (l : Layout) → length (head_bytes l) ≡ 32
unfolding head_bytes
length-head_bytes l = refl

-- each symbol stands at its place in the file of an image
pub image_of-image_bytes : (l : Layout) (image : Image) → HasSizes l image → (s i : ℕ) → s < l.stripes → i < stripe_symbols l
    → image_of l (image_bytes l image) s i ≡ image s i
unfolding pieces
image_of-image_bytes l image sizes s i here low =
    let n : ℕ = stripe_symbols l in
    let b : ℕ = l.symbol_bytes in
    let of_symbols : (s' : ℕ) → s' < l.stripes → (j : ℕ) → j < n → length (image s' (0 + j)) ≡ b = λ s' h j g. ap (λ x. length (image s' x)) (zero-add j) ∙ sizes.size s' j h g in
    let stripe : ℕ → List ℕ = λ s'. flat_map (image s') (range_with_len 0 n) in
    let of_stripes : (j : ℕ) → j < l.stripes → length (stripe (0 + j)) ≡ n * b =
    λ j h. ap (λ x. length (stripe x)) (zero-add j) ∙ length-pieces (image j) b 0 n (of_symbols j h) in
    let before : i ≤ n = omega arith in
    let inside : i * b ≤ n * b = mul-le-mul_right b before in
    let first = behind_piece stripe (n * b) 0 l.stripes s (i * b) of_stripes here inside in
    let second = behind_piece (image s) b 0 n i 0 (of_symbols s here) low (omega arith) in
    let at : place l s i ≡ length (head_bytes l) + (s * (n * b) + i * b) = omega (arith, add-mul (s * n) i b, mul_assoc s n b, length-head_bytes l) in
    let whole : drop (place l s i) (image_bytes l image) ≡ image s i ++ (second.rest ++ first.rest) =
    ap (λ x. drop x (image_bytes l image)) at
    ∙ drop-append-add (head_bytes l) (image_body l image) (s * (n * b) + i * b)
    ∙ first.is
    ∙ ap (λ x. drop (i * b) (stripe x) ++ first.rest) (zero-add s)
    ∙ ap (λ x. drop x (stripe s) ++ first.rest) (sym (add-zero (i * b)))
    ∙ ap (λ x. x ++ first.rest) second.is
    ∙ ap (λ x. image s x ++ second.rest ++ first.rest) (zero-add i)
    ∙ append_assoc (image s i) second.rest first.rest in
    ap (take b) whole ∙ take_at (image s i) (second.rest ++ first.rest) b (sizes.size s i here low)

-- ---- the bytes of a file are its head and its symbols

-- the pieces of a list, of m bytes each, from the a-th on
pieces-are : (xs : List ℕ) (m n a : ℕ) → flat_map (λ k. take m (drop (k * m) xs)) (range_with_len a n) ≡ take (n * m) (drop (a * m) xs)
pieces-are xs m zero a = ap (λ k. take k (drop (a * m) xs)) (sym (zero-mul m))
pieces-are xs m (suc n) a =
    let next : (a + 1) * m ≡ a * m + m = omega (arith, add-mul a 1 m) in
    ap (λ ys. take m (drop (a * m) xs) ++ ys)
    (pieces-are xs m n (a + 1) ∙ ap (λ k. take (n * m) (drop k xs)) next ∙ ap (take (n * m)) (sym (drop-drop m (a * m) xs)))
    ∙ sym (take-add m (n * m) (drop (a * m) xs))
    ∙ ap (λ k. take k (drop (a * m) xs)) (omega (arith, suc-mul n m))

-- all pieces from the first on
pieces-first : (xs : List ℕ) (m n : ℕ) → flat_map (λ k. take m (drop (k * m) xs)) (range_with_len 0 n) ≡ take (n * m) xs
pieces-first xs m n = pieces-are xs m n 0 ∙ ap (λ k. take (n * m) (drop k xs)) (zero-mul m)

module _ (l : Layout) (bytes : List ℕ) where
  -- the symbols of stripe s, one behind the other
  stripe-is : (s : ℕ) → flat_map (image_of l bytes s) (range_with_len 0 (stripe_symbols l))
      ≡ take (stripe_symbols l * l.symbol_bytes) (drop (s * (stripe_symbols l * l.symbol_bytes)) (drop 32 bytes))
  stripe-is s =
      let n : ℕ = stripe_symbols l in
      let b : ℕ = l.symbol_bytes in
      let base : List ℕ = drop (s * (n * b)) (drop 32 bytes) in
      let at : (i : ℕ) → place l s i ≡ 32 + s * (n * b) + i * b = λ i. omega (arith, add-mul (s * n) i b, mul_assoc s n b) in
      let same : (i : ℕ) → image_of l bytes s i ≡ take b (drop (i * b) base) =
      λ i. ap (λ p. take b (drop p bytes)) (at i) ∙ ap (take b) (sym (drop-drop (i * b) (32 + s * (n * b)) bytes) ∙ ap (drop (i * b)) (sym (drop-drop (s * (n * b)) 32 bytes))) in
      (λ j. flat_map (λ i. same i j) (range_with_len 0 n)) ∙ pieces-first base b n

  -- the symbols of all stripes are all bytes behind the head
  body-is : length bytes ≡ file_bytes l → image_body l (image_of l bytes) ≡ drop 32 bytes
  body-is long =
      let m : ℕ = stripe_symbols l * l.symbol_bytes in
      let few : length (drop 32 bytes) ≤ l.stripes * m = omega (arith, length-drop 32 bytes, long, mul_assoc l.stripes (stripe_symbols l) l.symbol_bytes) in
      (λ j. flat_map (λ s. stripe-is s j) (range_with_len 0 l.stripes))
      ∙ pieces-first (drop 32 bytes) m l.stripes
      ∙ take_all (l.stripes * m) (drop 32 bytes) few

-- A file of the right length, with the head, and with each symbol of an image at its place, is the file of that image.
pub file-is : (l : Layout) (image : Image) (bytes : List ℕ) → length bytes ≡ file_bytes l → take 32 bytes ≡ head_bytes l
    → ((s i : ℕ) → s < l.stripes → i < stripe_symbols l → image_of l bytes s i ≡ image s i) → bytes ≡ image_bytes l image
file-is l image bytes long head same =
    sym (take-append-drop 32 bytes)
    ∙ ap₂ (λ xs ys. xs ++ ys) head (sym (body-is l bytes long) ∙ image_body-same l (image_of l bytes) image same)
