-- The head of an image file, both ways, and the places of its symbols.
use Rattle.std.proofs.Common.{◌≡◌, ◌⊎◌, ⊎_elim, inl, inr, ℕ, zero, suc, ◌+◌, ◌*◌, ◌%◌, ◌^◌, ◌<◌, ◌≤◌, ◌==◌, Bool, true, false, cond, not, ◌&&◌, ◌||◌, nat_lt, List, [], ◌∷◌, ◌++◌, take, drop, length, get_or, replicate, Result, Ok, Err, IfOk, refl, sym, ap, ap₂, subst, ◌∙◌, arith, eqb-true, eq-eqb}
use Rattle.std.specs.Int.{w32, to_le_bytes}
use Rattle.std.specs.Str.{bytes_eq}
use Rattle.std.proofs.Math.Nat.{le-mul_of_pos_right, mul_comm}
use Rattle.std.proofs.Math.Seq.{take-add}
use Rattle.std.proofs.lemmas.Bool.{cases_eq, and_parts, not-false}
use Rattle.std.proofs.lemmas.Bool.Decides.{nat_tests}
use Rattle.std.proofs.lemmas.List.{take_all, length-take-le, length-drop}
use Rattle.std.proofs.lemmas.Nat.{row_fits, le_bytes_4, from_le_bytes-to_le_bytes_4}
use Rattle.std.proofs.lemmas.Slice.Eq.{bytes_eq-Decides}
use Rattle.mr_model.specs.Code.{Dimensions}
use Rattle.mr_bits.specs.declared.errors.What.TheVariants.{SymbolBytes, ImageBytes}
use Rattle.mr_image.specs.declared.faults.HeadFault.{HeadFault}
use Rattle.mr_image.specs.declared.faults.HeadFault.TheVariants.{Bad, Large as TooLarge}
use Rattle.mr_image.specs.declared.faults.ImageKind.TheVariants.{Head, Shape, Bytes, Length}
use Rattle.mr_image.specs.Images.{Layout, IsLayout, stripe_symbols, body_bytes, place}
use Rattle.mr_image.specs.Heads.{mark, head_bytes, file_bytes, layout, checked_layout, has_mark, has_marks, version_of, with_version, number_at, is_of_shape, of_length, read_head, IsSpelled}

-- each symbol stands within the file
pub place-within : (l : Layout) (s i : ℕ) → s < l.stripes → i < stripe_symbols l → place l s i + l.symbol_bytes ≤ file_bytes l
place-within l s i here low =
    let stripe : s * stripe_symbols l + stripe_symbols l ≤ l.stripes * stripe_symbols l = row_fits s (stripe_symbols l) l.stripes (stripe_symbols l) here (omega arith) in
    let symbol : (s * stripe_symbols l + i) * l.symbol_bytes + l.symbol_bytes ≤ l.stripes * stripe_symbols l * l.symbol_bytes =
    row_fits (s * stripe_symbols l + i) l.symbol_bytes (l.stripes * stripe_symbols l) l.symbol_bytes (omega arith) (omega arith) in
    omega arith

-- ---- a printed head is read as that head

two_versions : (l : Layout) → IsLayout l → (l.version ≡ 1) ⊎ (l.version ≡ 2)
two_versions l limits = ⊎_elim
    (λ (e : l.version ≡ 1). inl e)
    (λ (other : l.version ≡ 1 → ⊥). inr (omega (arith, limits.first_version, limits.last_version)))
    (cases_eq l.version 1)

marks-head_bytes : (l : Layout) → IsLayout l → has_marks (head_bytes l) ≡ true
unfolding has_marks has_mark head_bytes
marks-head_bytes l limits = ⊎_elim
    (λ (e : l.version ≡ 1). ap (λ v. (bytes_eq (mark v) (mark 1) || bytes_eq (mark v) (mark 2)) && true) e)
    (λ (e : l.version ≡ 2). ap (λ v. (bytes_eq (mark v) (mark 1) || bytes_eq (mark v) (mark 2)) && true) e)
    (two_versions l limits)

version-head_bytes : (l : Layout) → IsLayout l → version_of (head_bytes l) ≡ l.version
unfolding version_of has_mark head_bytes
version-head_bytes l limits = ⊎_elim
    (λ (e : l.version ≡ 1). ap (λ v. cond (bytes_eq (mark v) (mark 2)) 2 1) e ∙ sym e)
    (λ (e : l.version ≡ 2). ap (λ v. cond (bytes_eq (mark v) (mark 2)) 2 1) e ∙ sym e)
    (two_versions l limits)

devices-head_bytes : (l : Layout) → l.devices < 2 ^ 32 → number_at 8 (head_bytes l) ≡ l.devices
unfolding number_at head_bytes
devices-head_bytes l low = from_le_bytes-to_le_bytes_4 l.devices low

symbols-head_bytes : (l : Layout) → l.symbols_per_device < 2 ^ 32 → number_at 12 (head_bytes l) ≡ l.symbols_per_device
unfolding number_at head_bytes
symbols-head_bytes l low = from_le_bytes-to_le_bytes_4 l.symbols_per_device low

size-head_bytes : (l : Layout) → l.symbol_bytes < 2 ^ 32 → number_at 16 (head_bytes l) ≡ l.symbol_bytes
unfolding number_at head_bytes
size-head_bytes l low = from_le_bytes-to_le_bytes_4 l.symbol_bytes low

stripes-head_bytes : (l : Layout) → l.stripes < 2 ^ 32 → number_at 20 (head_bytes l) ≡ l.stripes
unfolding number_at head_bytes
stripes-head_bytes l low = from_le_bytes-to_le_bytes_4 l.stripes low

checked_layout-ok : (d : Dimensions) (bytes stripes : ℕ) → IsLayout (layout d bytes stripes) → checked_layout d bytes stripes ≡ Ok (layout d bytes stripes)
checked_layout-ok d bytes stripes limits =
    let some : 1 ≤ bytes = limits.some_bytes in
    let whole : bytes % 8 ≡ 0 = limits.whole_words in
    let few : bytes ≤ 65536 = limits.few_bytes in
    let all : body_bytes (layout d bytes stripes) ≤ 2 ^ 28 = limits.few_in_all in
    grind (arith, nat_tests)

-- the same layout of another version is within the limits
pub version-limits : (version : ℕ) (l : Layout) → 1 ≤ version → version ≤ 2 → IsLayout l → IsLayout (with_version version l)
version-limits version l first last limits = record {
  first_version = first;
  last_version = last;
  some_devices = limits.some_devices;
  some_symbols = limits.some_symbols;
  few_symbols = limits.few_symbols;
  some_bytes = limits.some_bytes;
  whole_words = limits.whole_words;
  few_bytes = limits.few_bytes;
  few_in_all = limits.few_in_all;
}

-- a head names version 1 or 2
pub version_of-limits : (bytes : List ℕ) → (1 ≤ version_of bytes) × (version_of bytes ≤ 2)
unfolding version_of
version_of-limits bytes = go (has_mark 2 bytes)
  where
    go : (b : Bool) → (1 ≤ cond b 2 1) × (cond b 2 1 ≤ 2)
    go true = (omega arith, omega arith)
    go false = (omega arith, omega arith)

pub read_head-is : (l : Layout) (bytes : List ℕ) (d : Dimensions) (len : ℕ) → IsLayout l → IsSpelled bytes d len l → read_head bytes d len ≡ Ok l
unfolding read_head
read_head-is l bytes d len limits is =
    let few_devices : l.devices ≤ stripe_symbols l = le-mul_of_pos_right l.devices limits.some_symbols in
    let few_symbols : l.symbols_per_device ≤ stripe_symbols l = omega (arith, le-mul_of_pos_right l.symbols_per_device limits.some_devices, mul_comm l.devices l.symbols_per_device) in
    let some : 0 < stripe_symbols l = omega arith in
    let in_stripes : l.stripes ≤ l.stripes * stripe_symbols l = le-mul_of_pos_right l.stripes some in
    let in_bytes : l.stripes * stripe_symbols l ≤ body_bytes l = le-mul_of_pos_right (l.stripes * stripe_symbols l) limits.some_bytes in
    let first : Layout = with_version 1 l in
    let same : layout d l.symbol_bytes l.stripes ≡ first =
    λ j. record { version = 1; devices = sym is.devices j; symbols_per_device = sym is.symbols_per_device j; symbol_bytes = l.symbol_bytes; stripes = l.stripes } in
    let marks : has_marks bytes ≡ true = ap has_marks is.spelled ∙ marks-head_bytes l limits in
    let version : version_of bytes ≡ l.version = ap version_of is.spelled ∙ version-head_bytes l limits in
    let devices : number_at 8 bytes ≡ d.devices = ap (number_at 8) is.spelled ∙ devices-head_bytes l (omega (arith, limits.few_symbols)) ∙ is.devices in
    let symbols : number_at 12 bytes ≡ d.symbols_per_device = ap (number_at 12) is.spelled ∙ symbols-head_bytes l (omega (arith, limits.few_symbols)) ∙ is.symbols_per_device in
    let size : number_at 16 bytes ≡ l.symbol_bytes = ap (number_at 16) is.spelled ∙ size-head_bytes l (omega (arith, limits.few_bytes)) in
    let stripes : number_at 20 bytes ≡ l.stripes = ap (number_at 20) is.spelled ∙ stripes-head_bytes l (omega (arith, limits.few_in_all)) in
    let shape : is_of_shape d bytes ≡ true = ap₂ (λ a b. a && b) (eq-eqb (number_at 8 bytes) d.devices devices) (eq-eqb (number_at 12 bytes) d.symbols_per_device symbols) in
    let in_limits : IsLayout (layout d l.symbol_bytes l.stripes) = let P : Layout → Type 0 = λ k. IsLayout k in subst P (sym same) (version-limits 1 l (omega arith) (omega arith) limits) in
    let checked : checked_layout d (number_at 16 bytes) (number_at 20 bytes) ≡ Ok first =
    ap₂ (checked_layout d) size stripes ∙ checked_layout-ok d l.symbol_bytes l.stripes in_limits ∙ ap (λ k. Ok k) same in
    (λ j. cond (not (marks j)) (Err (Bad Head)) (cond (not (shape j)) (Err (Bad Shape)) (of_length (version j) len (checked j))))
    ∙ ap (λ t. cond t (Ok l) (Err (Bad Length))) (eq-eqb len (file_bytes l) is.length)

-- ---- what is read has that one spelling

pub guard_ok : (b : Bool) (fault : HeadFault) (r : Result Layout HeadFault) (l : Layout) → cond b (Err fault) r ≡ Ok l → (b ≡ false) × (r ≡ Ok l)
guard_ok true fault r l e = cc
guard_ok false fault r l e = (refl, e)

or_false : (a : Bool) → (a || false) ≡ true → a ≡ true
or_false true e = refl
or_false false e = cc

ok_is : (k l : Layout) → ◌≡◌ {A = Result Layout HeadFault} (Ok k) (Ok l) → k ≡ l
ok_is k l e = cc

-- what an answer for a file of a length tells
pub record IsOfLength (version len : ℕ) (r : Result Layout HeadFault) (l : Layout) : Type 0 where
  pub first : Layout
  pub is : r ≡ Ok first
  pub same : with_version version first ≡ l
  pub long : len ≡ file_bytes first

pub of_length-ok : (version len : ℕ) (r : Result Layout HeadFault) (l : Layout) → of_length version len r ≡ Ok l → IsOfLength version len r l
of_length-ok version len (Err fault) l e = cc
of_length-ok version len (Ok k) l e = go (len == file_bytes k) refl e
  where
    go : (b : Bool) → (len == file_bytes k) ≡ b → ◌≡◌ {A = Result Layout HeadFault} (cond b (Ok (with_version version k)) (Err (Bad Length))) (Ok l)
        → IsOfLength version len (Ok k) l
    go true tested e = record { first = k; is = refl; same = ok_is (with_version version k) l e; long = eqb-true len (file_bytes k) tested }
    go false other e = cc

pub checked_layout-is : (d : Dimensions) (bytes stripes : ℕ) (l : Layout) → checked_layout d bytes stripes ≡ Ok l → layout d bytes stripes ≡ l
checked_layout-is d bytes stripes l e =
    let k : Layout = layout d bytes stripes in
    let over : HeadFault = TooLarge (record { what = ImageBytes; number = body_bytes k }) in
    let wide : HeadFault = TooLarge (record { what = SymbolBytes; number = bytes }) in
    let third : Result Layout HeadFault = cond (nat_lt (2 ^ 28) (body_bytes k)) (Err over) (Ok k) in
    let second : Result Layout HeadFault = cond (nat_lt 65536 bytes) (Err wide) third in
    let some : second ≡ Ok l = (guard_ok (bytes == 0 || not (bytes % 8 == 0)) (Bad Bytes) second l e).1 in
    let few : third ≡ Ok l = (guard_ok (nat_lt 65536 bytes) wide third l some).1 in
    let all : ◌≡◌ {A = Result Layout HeadFault} (Ok k) (Ok l) = (guard_ok (nat_lt (2 ^ 28) (body_bytes k)) over (Ok k) l few).1 in
    ok_is k l all

small-take : (n : ℕ) (xs : List ℕ) → ((k : ℕ) → get_or xs k 0 < 256) → (k : ℕ) → get_or (take n xs) k 0 < 256
small-take zero xs h k = omega arith
small-take (suc n) [] h k = omega arith
small-take (suc n) (x ∷ xs) h zero = h 0
small-take (suc n) (x ∷ xs) h (suc k) = small-take n xs (λ j. h (suc j)) k

small-drop : (n : ℕ) (xs : List ℕ) → ((k : ℕ) → get_or xs k 0 < 256) → (k : ℕ) → get_or (drop n xs) k 0 < 256
small-drop zero xs h k = h k
small-drop (suc n) [] h k = omega arith
small-drop (suc n) (x ∷ xs) h k = small-drop n xs (λ j. h (suc j)) k

module _ (bytes : List ℕ) (long : length bytes ≡ 32) (small : (k : ℕ) → get_or bytes k 0 < 256) where
  piece : (at n : ℕ) → at + 4 ≤ 32 → n ≡ number_at at bytes → to_le_bytes w32 n ≡ take 4 (drop at bytes)
  unfolding number_at
  piece at n room e =
      le_bytes_4 (take 4 (drop at bytes)) n (length-take-le 4 (drop at bytes) (omega (arith, length-drop at bytes)))
      (small-take 4 (drop at bytes) (small-drop at bytes small)) e

  cut : bytes ≡ take 8 bytes ++ take 4 (drop 8 bytes) ++ take 4 (drop 12 bytes) ++ take 4 (drop 16 bytes) ++ take 4 (drop 20 bytes) ++ take 8 (drop 24 bytes)
  cut =
      let to_12 : take 12 bytes ≡ take 8 bytes ++ take 4 (drop 8 bytes) = take-add 8 4 bytes in
      let to_16 : take 16 bytes ≡ take 8 bytes ++ take 4 (drop 8 bytes) ++ take 4 (drop 12 bytes) = take-add 12 4 bytes ∙ ap (λ f. f ++ take 4 (drop 12 bytes)) to_12 in
      let to_20 : take 20 bytes ≡ take 8 bytes ++ take 4 (drop 8 bytes) ++ take 4 (drop 12 bytes) ++ take 4 (drop 16 bytes) = take-add 16 4 bytes ∙ ap (λ f. f ++ take 4 (drop 16 bytes)) to_16 in
      let to_24 : take 24 bytes ≡ take 8 bytes ++ take 4 (drop 8 bytes) ++ take 4 (drop 12 bytes) ++ take 4 (drop 16 bytes) ++ take 4 (drop 20 bytes) =
      take-add 20 4 bytes ∙ ap (λ f. f ++ take 4 (drop 20 bytes)) to_20 in
      sym (take_all 32 bytes (omega arith)) ∙ take-add 24 8 bytes ∙ ap (λ f. f ++ take 8 (drop 24 bytes)) to_24

  -- the mark in front is that of the version
  marked : (has_mark 1 bytes || has_mark 2 bytes) ≡ true → take 8 bytes ≡ mark (version_of bytes)
  unfolding version_of has_mark
  marked some = go (bytes_eq (take 8 bytes) (mark 2)) refl some
    where
      go : (b : Bool) → bytes_eq (take 8 bytes) (mark 2) ≡ b → (bytes_eq (take 8 bytes) (mark 1) || b) ≡ true → take 8 bytes ≡ mark (cond b 2 1)
      go true e other = (bytes_eq-Decides (take 8 bytes) (mark 2)).0 e
      go false e other = (bytes_eq-Decides (take 8 bytes) (mark 1)).0 (or_false (bytes_eq (take 8 bytes) (mark 1)) other)

  pub read_head-spelled : (d : Dimensions) (len : ℕ) (l : Layout) → read_head bytes d len ≡ Ok l → IsSpelled bytes d len l
  unfolding read_head has_marks head_bytes
  read_head-spelled d len l e =
      let version : ℕ = version_of bytes in
      let last : Result Layout HeadFault = of_length version len (checked_layout d (number_at 16 bytes) (number_at 20 bytes)) in
      let first = guard_ok (not (has_marks bytes)) (Bad Head) (cond (not (is_of_shape d bytes)) (Err (Bad Shape)) last) l e in
      let second = guard_ok (not (is_of_shape d bytes)) (Bad Shape) last l first.1 in
      let third = of_length-ok version len (checked_layout d (number_at 16 bytes) (number_at 20 bytes)) l second.1 in
      let same : with_version version (layout d (number_at 16 bytes) (number_at 20 bytes)) ≡ l =
      ap (with_version version) (checked_layout-is d (number_at 16 bytes) (number_at 20 bytes) third.first third.is) ∙ third.same in
      let marks = and_parts (has_mark 1 bytes || has_mark 2 bytes) (bytes_eq (take 8 (drop 24 bytes)) (replicate 8 0)) (not-false _ first.0) in
      let shape = and_parts (number_at 8 bytes == d.devices) (number_at 12 bytes == d.symbols_per_device) (not-false _ second.0) in
      let front : take 8 bytes ≡ mark version = marked marks.0 in
      let zeros : take 8 (drop 24 bytes) ≡ replicate 8 0 = (bytes_eq-Decides (take 8 (drop 24 bytes)) (replicate 8 0)).0 marks.1 in
      let devices = piece 8 d.devices (omega arith) (sym (eqb-true (number_at 8 bytes) d.devices shape.0)) in
      let symbols = piece 12 d.symbols_per_device (omega arith) (sym (eqb-true (number_at 12 bytes) d.symbols_per_device shape.1)) in
      let size = piece 16 (number_at 16 bytes) (omega arith) refl in
      let stripes = piece 20 (number_at 20 bytes) (omega arith) refl in
      record {
        spelled = cut ∙ (λ j. front j ++ sym devices j ++ sym symbols j ++ sym size j ++ sym stripes j ++ zeros j) ∙ ap head_bytes same;
        devices = ap (λ k. k.devices) (sym same);
        symbols_per_device = ap (λ k. k.symbols_per_device) (sym same);
        length = third.long ∙ ap file_bytes third.same;
      }

-- what is so wherever an answer is Ok
pub IfOk-from_eq : (r : Result Layout HeadFault) (P : Layout → Type 0) → ((l : Layout) → r ≡ Ok l → P l) → IfOk r P
IfOk-from_eq (Ok l) P h = h l refl
IfOk-from_eq (Err fault) P h = tt
