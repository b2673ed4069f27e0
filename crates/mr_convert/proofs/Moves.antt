-- The symbols of a stripe move within the bytes of a file.
use Rattle.std.proofs.Common.{◌≡◌, ℕ, ◌+◌, ◌-◌, ◌*◌, ◌%◌, ◌<◌, ◌≤◌, ◌⊎◌, inl, inr, ⊎_elim, List, [], ◌++◌, take, drop, length, Option, Some, None, refl, sym, ap, ap₂, subst, ◌∙◌, arith, zero-mul, mul-le-mul_right}
use Rattle.std.specs.Prelude.{IfSome}
use Rattle.std.proofs.Math.Nat.{add-mul, mul_assoc}
use Rattle.std.proofs.Math.Seq.{drop-append-add}
use Rattle.std.proofs.lemmas.Bool.{cases_lt, cases_eq}
use Rattle.std.proofs.lemmas.Nat.{mod_below, row_fits}
use Rattle.std.proofs.lemmas.List.{drop-take, drop-drop, drop-append-le, take-append-le, take-take, length-take-le, length-drop, length-append, take_all, drop_all, append-nil, take_at, drop_at}
use Rattle.std.proofs.lemmas.Slice.{take-put_mid_below}
use Rattle.mr_model.specs.Rotations.{moved}
use Rattle.mr_model.proofs.RotationLaws.{moved-low, moved-high, moved-lt, devices-split}
use Rattle.mr_image.specs.Images.{Layout, IsLayout, stripe_symbols, image_of, place}
use Rattle.mr_image.specs.Heads.{file_bytes, head_bytes, with_version}
use Rattle.mr_image.specs.Rotated.{converted, converted_file}
use Rattle.mr_image.proofs.HeadLaws.{place-within}
use Rattle.mr_image.proofs.Places.{part-here, part-other, stripe-before}
use Rattle.mr_image.proofs.FileLaws.{file-is}
use Rattle.mr_convert.specs.Moving.{HasMoved}
use borrow.Rule.Slice.PartMut.{put_mid}

-- a part of a part
part-in : (m j size : ℕ) (xs : List ℕ) → j + m ≤ size → take m (drop j (take size xs)) ≡ take m (drop j xs)
part-in m j size xs fits =
    let split : size ≡ j + (size - j) = omega arith in
    ap (λ k. take m (drop j (take k xs))) split ∙ ap (take m) (drop-take j (size - j) xs) ∙ take-take m (size - j) (drop j xs) (omega arith)

-- ---- the symbols of one stripe, turned round

module _ (n w b r : ℕ) (some : 1 ≤ w) (within : r ≤ n) (xs : List ℕ) (long : length xs ≡ n * w * b) where
  -- each symbol is that of the place where it stood
  turned-symbol : (by k i : ℕ) → by ≡ r * w * b → k ≡ length xs - by → i < n * w → take b (drop (i * b) (drop k xs ++ take k xs)) ≡ take b (drop (moved n w r i * b) xs)
  turned-symbol by k i far cut low =
      let split : (n - r) * w * b + r * w * b ≡ n * w * b = sym (add-mul ((n - r) * w) (r * w) b) ∙ ap (λ x. x * b) (devices-split w n r within) in
      let front : k ≡ (n - r) * w * b = omega arith in
      let back : length (drop k xs) ≡ r * w * b = omega (arith, length-drop k xs) in
      ⊎_elim
      (λ (less : i < r * w).
      let fits : i * b + b ≤ r * w * b = row_fits i b (r * w) b less (omega arith) in
      let stood : moved n w r i * b ≡ k + i * b = ap (λ x. x * b) (moved-low n w r some within i less) ∙ omega (arith, add-mul i ((n - r) * w) b) in
      ap (take b) (drop-append-le (i * b) (drop k xs) (take k xs) (omega arith))
      ∙ take-append-le b (drop (i * b) (drop k xs)) (take k xs) (omega (arith, length-drop (i * b) (drop k xs)))
      ∙ ap (take b) (drop-drop (i * b) k xs)
      ∙ ap (λ x. take b (drop x xs)) (sym stood))
      (λ (more : r * w ≤ i).
      let over : i * b ≡ r * w * b + (i - r * w) * b = ap (λ x. x * b) (omega arith) ∙ add-mul (r * w) (i - r * w) b in
      let rest : i - r * w < (n - r) * w = omega (arith, devices-split w n r within) in
      let fits : (i - r * w) * b + b ≤ (n - r) * w * b = row_fits (i - r * w) b ((n - r) * w) b rest (omega arith) in
      let stood : moved n w r i ≡ i - r * w = moved-high n w r some within i more low in
      ap (λ x. take b (drop x (drop k xs ++ take k xs))) (over ∙ ap (λ x. x + (i - r * w) * b) (sym back))
      ∙ ap (take b) (drop-append-add (drop k xs) (take k xs) ((i - r * w) * b))
      ∙ part-in b ((i - r * w) * b) k xs (omega arith)
      ∙ ap (λ x. take b (drop (x * b) xs)) (sym stood))
      (cases_lt i (r * w))

-- ---- a stripe within the file

module _ (l : Layout) where
  -- a symbol of a stripe is a part of the bytes of the stripe
  symbol-in_stripe : (bytes : List ℕ) (s i at size : ℕ) → i < stripe_symbols l → at ≡ place l s 0 → size ≡ stripe_symbols l * l.symbol_bytes
      → image_of l bytes s i ≡ take l.symbol_bytes (drop (i * l.symbol_bytes) (take size (drop at bytes)))
  symbol-in_stripe bytes s i at size low here whole =
      let b : ℕ = l.symbol_bytes in
      let fits : i * b + b ≤ stripe_symbols l * b = row_fits i b (stripe_symbols l) b low (omega arith) in
      let far : place l s i ≡ at + i * b = omega (arith, here, add-mul (s * stripe_symbols l) i b, add-mul (s * stripe_symbols l) 0 b, zero-mul b) in
      ap (λ x. take b (drop x bytes)) far ∙ ap (take b) (sym (drop-drop (i * b) at bytes))
      ∙ sym (part-in b (i * b) size (drop at bytes) (omega (arith, fits, whole)))

  -- the bytes of a stripe are within the file
  pub stripe-within : (s at size : ℕ) (bytes : List ℕ) → s < l.stripes → at ≡ place l s 0 → size ≡ stripe_symbols l * l.symbol_bytes → length bytes ≡ file_bytes l → at + size ≤ length bytes
  stripe-within s at size bytes here at_is whole long =
      let n : ℕ = stripe_symbols l in
      let b : ℕ = l.symbol_bytes in
      let rows : s * n + n ≤ l.stripes * n = row_fits s n l.stripes n here (omega arith) in
      let all : (s * n + n) * b ≤ l.stripes * n * b = mul-le-mul_right b rows in
      omega (arith, all, add-mul (s * n) n b, add-mul (s * n) 0 b, zero-mul b, at_is, whole, long)

  -- another stripe is before it or behind it
  stripes-apart : (s t i size : ℕ) → i < stripe_symbols l → size ≡ stripe_symbols l * l.symbol_bytes → (t ≡ s → ⊥)
      → (place l t i + l.symbol_bytes ≤ place l s 0) ⊎ (place l s 0 + size ≤ place l t i)
  stripes-apart s t i size low whole other =
      let n : ℕ = stripe_symbols l in
      let b : ℕ = l.symbol_bytes in
      ⊎_elim
      (λ (before : t < s).
      let row : (t * n + i) * b + b ≤ (s * n + 0) * b = row_fits (t * n + i) b (s * n + 0) b (stripe-before l t i s 0 low before) (omega arith) in
      inl (omega (arith, row)))
      (λ (from : s ≤ t).
      let rows : s * n + n ≤ t * n = row_fits s n t n (omega arith) (omega arith) in
      let bytes : (s * n + n) * b ≤ (t * n + i) * b = mul-le-mul_right b (omega (arith, rows)) in
      inr (omega (arith, bytes, add-mul (s * n) n b, add-mul (s * n) 0 b, zero-mul b, whole)))
      (cases_lt t s)

-- ---- the stripes, one after the other

-- the symbols of the first n stripes have moved, and the others are as before
pub record MovedBelow (l : Layout) (n : ℕ) (before now : List ℕ) : Type 0 where
  pub done : (s i : ℕ) → s < n → s < l.stripes → i < stripe_symbols l → image_of l now s i ≡ converted l (image_of l before) s i
  pub rest : (s i : ℕ) → n ≤ s → i < stripe_symbols l → image_of l now s i ≡ image_of l before s i

module _ (l : Layout) (limits : IsLayout l) (before : List ℕ) where
  pub moved-start : MovedBelow l 0 before before
  moved-start = record { done = λ s i none here low. absurd (omega arith); rest = λ s i from low. refl }

  pub moved-turn : (n at size by : ℕ) (now y : List ℕ) → length now ≡ file_bytes l → n < l.stripes → at ≡ place l n 0 → size ≡ stripe_symbols l * l.symbol_bytes
      → by ≡ n % l.devices * l.symbols_per_device * l.symbol_bytes
      → y ≡ drop (length (take size (drop at now)) - by) (take size (drop at now)) ++ take (length (take size (drop at now)) - by) (take size (drop at now))
      → MovedBelow l n before now → MovedBelow l (n + 1) before (put_mid at size now y)
  unfolding converted
  moved-turn n at size by now y long here at_is whole far turn h =
      let b : ℕ = l.symbol_bytes in
      let r : ℕ = n % l.devices in
      let within : r ≤ l.devices = omega (arith, mod_below n l.devices limits.some_devices) in
      let stripe : List ℕ = take size (drop at now) in
      let inside : at + size ≤ length now = stripe-within l n at size now here at_is whole long in
      let reach : at ≤ length now = omega arith in
      let of_stripe : length stripe ≡ size = length-take-le size (drop at now) (omega (arith, length-drop at now)) in
      let k : ℕ = length stripe - by in
      let of_y : length y ≡ size = ap length turn ∙ length-append (drop k stripe) (take k stripe) ∙ omega (arith, length-drop k stripe, length-take-le k stripe (omega arith)) in
      let now_next : List ℕ = put_mid at size now y in
      let this : (i : ℕ) → i < stripe_symbols l → image_of l now_next n i ≡ image_of l before n (moved l.devices l.symbols_per_device r i) =
      λ i low.
      let stood : ℕ = moved l.devices l.symbols_per_device r i in
      let stood_low : stood < stripe_symbols l = moved-lt l.devices l.symbols_per_device r limits.some_symbols within i low in
      symbol-in_stripe l now_next n i at size low at_is whole
      ∙ ap (λ ys. take b (drop (i * b) ys)) (part-here at size now y reach of_y ∙ turn)
      ∙ turned-symbol l.devices l.symbols_per_device b r limits.some_symbols within stripe (of_stripe ∙ whole) by k i far refl low
      ∙ sym (symbol-in_stripe l now n stood at size stood_low at_is whole)
      ∙ h.rest n stood (omega arith) stood_low in
      let others : (s i : ℕ) → i < stripe_symbols l → (s ≡ n → ⊥) → image_of l now_next s i ≡ image_of l now s i =
      λ s i low other.
      part-other at size (place l s i) b now y reach of_y
      (subst (λ p. (place l s i + b ≤ p) ⊎ (p + size ≤ place l s i)) (sym at_is) (stripes-apart l n s i size low whole other)) in
      record {
        done = λ s i below here_s low. ⊎_elim
            (λ (e : s ≡ n). ap (λ t. image_of l now_next t i) e ∙ this i low ∙ ap (λ t. image_of l before t (moved l.devices l.symbols_per_device (t % l.devices) i)) (sym e))
            (λ (other : s ≡ n → ⊥). others s i low other ∙ h.done s i (omega arith) here_s low)
            (cases_eq s n);
        rest = λ s i from low. others s i low (λ e. omega (arith, e, from)) ∙ h.rest s i (omega arith) low;
      }

  pub moved-all : (n : ℕ) (now : List ℕ) → l.stripes ≤ n → MovedBelow l n before now → HasMoved l before now
  moved-all n now all h = record { same = λ s i here low. h.done s i (omega arith) here low }

-- ---- the whole file

-- files that agree behind their heads hold the same symbols
same_symbols : (l : Layout) (xs ys : List ℕ) (s i : ℕ) → drop 32 xs ≡ drop 32 ys → image_of l xs s i ≡ image_of l ys s i
same_symbols l xs ys s i same =
    let off : ℕ = (s * stripe_symbols l + i) * l.symbol_bytes in
    ap (take l.symbol_bytes) (sym (drop-drop off 32 xs) ∙ ap (drop off) same ∙ drop-drop off 32 ys)

pub converted-is : (l : Layout) (told read turned bytes : List ℕ) → length bytes ≡ file_bytes l → drop 32 read ≡ drop 32 told → HasMoved l read turned
    → take 32 bytes ≡ head_bytes (with_version 2 l) → drop 32 bytes ≡ drop 32 turned → bytes ≡ converted_file l told
unfolding converted
converted-is l told read turned bytes long as_told moves head as_turned =
    file-is (with_version 2 l) (converted l (image_of l told)) bytes long head (λ s i here low.
    same_symbols l bytes turned s i as_turned ∙ moves.same s i here low ∙ same_symbols l read told s (moved l.devices l.symbols_per_device (s % l.devices) i) as_told)

-- the same, of what an eye tells
pub converted-told : (l : Layout) (told : Option (List ℕ)) (image buf turned bytes : List ℕ) → length image ≡ file_bytes l → length bytes ≡ file_bytes l
    → IfSome told (λ t. length t ≡ file_bytes l) → IfSome told (λ t. buf ≡ take (length (take (length image - 32) (drop 32 image))) (drop 32 t)) → HasMoved l (put_mid 32 (length image - 32) image buf) turned
    → take 32 bytes ≡ head_bytes (with_version 2 l) → drop 32 bytes ≡ drop 32 turned → IfSome told (λ t. bytes ≡ converted_file l t)
converted-told l None image buf turned bytes before long sized read moves head as_turned = tt
converted-told l (Some t) image buf turned bytes before long sized read moves head as_turned =
    let front : length (take 32 image) ≡ 32 = length-take-le 32 image (omega (arith, before)) in
    let all : take (length (take (length image - 32) (drop 32 image))) (drop 32 t) ≡ drop 32 t =
    take_all (length (take (length image - 32) (drop 32 image))) (drop 32 t)
    (omega (arith, length-take-le (length image - 32) (drop 32 image) (omega (arith, length-drop 32 image)), length-drop 32 t, before, sized)) in
    let none : drop (length image - 32) (drop 32 image) ≡ [] = drop_all (length image - 32) (drop 32 image) (omega (arith, length-drop 32 image)) in
    let put : drop 32 (put_mid 32 (length image - 32) image buf) ≡ buf =
    drop_at (take 32 image) (buf ++ drop (length image - 32) (drop 32 image)) 32 front ∙ ap (λ xs. buf ++ xs) none ∙ append-nil buf in
    converted-is l t (put_mid 32 (length image - 32) image buf) turned bytes long (put ∙ read ∙ all) moves head as_turned
