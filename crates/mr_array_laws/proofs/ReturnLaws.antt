-- Runs of bytes as pieces of one size, and what is scattered of a gathered image.
use Rattle.std.proofs.Common.{◌≡◌, ℕ, zero, suc, add-one, ◌+◌, ◌-◌, ◌*◌, ◌/◌, ◌%◌, ◌<◌, ◌≤◌, List, ◌++◌, take, drop, flat_map, length, replicate, refl, sym, ap, ap₂, ◌∙◌, arith, zero-add, zero-mul, length-take, length-drop}
use Rattle.std.specs.Prelude.{Bool, true, false}
use Rattle.std.specs.List.{range_with_len}
use Rattle.std.proofs.Math.Nat.{suc-mul, mul_assoc, add-mul, mul-le-mul_right}
use Rattle.std.proofs.Math.Seq.{drop-append-add, take-add}
use Rattle.std.proofs.lemmas.List.{drop-drop, length-replicate}
use Rattle.std.proofs.lemmas.Nat.{div-mul-add, mod-mul-add}
use Rattle.mr_model.specs.Sets.{has}
use Rattle.mr_image.specs.Images.{Layout, IsLayout, image_body, image_of, place, stripe_symbols}
use Rattle.mr_image.specs.Heads.{head_bytes, image_bytes}
use Rattle.mr_image.specs.Laws.{HasSizes}
use Rattle.mr_image.proofs.FileLaws.{image_of-image_bytes}
use Rattle.mr_encode.proofs.ColumnLaws.{place_end}
use Rattle.mr_encode.proofs.FrontLaws.{flat_map-more}
use Rattle.mr_devices.specs.Places.{array_of, device_place, part_bytes}
use Rattle.mr_gather.specs.Arrays.{gathered}
use Rattle.mr_gather.proofs.ArrayLaws.{device-low, gathered-none, gathered-read, place-end}
use Rattle.mr_scatter.specs.Parts.{device_text, part_in}
use Rattle.mr_array_laws.specs.Returns.{BringsBack, ReachTo}

-- a run of bytes is its pieces, one after another
pub run-pieces : (n size at : ℕ) (bytes : List ℕ) → take (n * size) (drop at bytes) ≡ flat_map (λ k. take size (drop (at + k * size) bytes)) (range_with_len 0 n)
run-pieces zero size at bytes = ap (λ m. take m (drop at bytes)) (zero-mul size)
run-pieces (suc n) size at bytes =
    ap (λ m. take m (drop at bytes)) (suc-mul n size)
    ∙ take-add (n * size) size (drop at bytes)
    ∙ ap₂ (λ xs ys. xs ++ ys) (run-pieces n size at bytes) (ap (take size) (drop-drop (n * size) at bytes) ∙ ap (λ m. take size (drop (at + m * size) bytes)) (sym (zero-add n)))
    ∙ sym (flat_map-more (λ k. take size (drop (at + k * size) bytes)) 0 n)
    ∙ ap (λ m. flat_map (λ k. take size (drop (at + k * size) bytes)) (range_with_len 0 m)) (add-one n)

-- pieces that are the same
pub pieces-same : (f g : ℕ → List ℕ) (n : ℕ) → ((k : ℕ) → k < n → f k ≡ g k) → flat_map f (range_with_len 0 n) ≡ flat_map g (range_with_len 0 n)
pieces-same f g zero same = refl
pieces-same f g (suc n) same =
    ap (λ m. flat_map f (range_with_len 0 m)) (sym (add-one n))
    ∙ flat_map-more f 0 n
    ∙ ap₂ (λ xs ys. xs ++ ys) (pieces-same f g n (λ k low. same k (omega (arith, low)))) (ap f (zero-add n) ∙ same n (omega arith) ∙ ap g (sym (zero-add n)))
    ∙ sym (flat_map-more g 0 n)
    ∙ ap (λ m. flat_map g (range_with_len 0 m)) (add-one n)

module _ (l : Layout) (limits : IsLayout l) (devices : ℕ → List ℕ) (set first : ℕ) (reach : ReachTo l devices set first) where
  -- each symbol of the image has its bytes
  symbol_size : (s i : ℕ) → s < l.stripes → i < stripe_symbols l → length (gathered l devices set first s i) ≡ l.symbol_bytes
  symbol_size s i stripe low = by_test (has set i) refl
    where
      by_test : (b : Bool) → has set i ≡ b → length (gathered l devices set first s i) ≡ l.symbol_bytes
      by_test false e = ap length (gathered-none l devices set first s i e) ∙ length-replicate l.symbol_bytes 0
      by_test true e =
          ap length (gathered-read l devices set first s i e)
          ∙ omega (
            arith,
            length-take l.symbol_bytes (drop (device_place l (first + s) i) (devices (i / l.symbols_per_device))),
            length-drop (device_place l (first + s) i) (devices (i / l.symbols_per_device)),
            reach.long i low e,
            place-end l first s i limits stripe,
          )

  sizes : HasSizes l (gathered l devices set first)
  sizes = record { size = symbol_size }

  -- a symbol of the image stands at its place behind the head
  symbol_at : (s i : ℕ) → s < l.stripes → i < stripe_symbols l
      → take l.symbol_bytes (drop ((s * stripe_symbols l + i) * l.symbol_bytes) (image_body l (gathered l devices set first))) ≡ gathered l devices set first s i
  unfolding head_bytes
  symbol_at s i stripe low =
      let head : length (head_bytes l) ≡ 32 = refl in
      ap (take l.symbol_bytes) (sym (drop-append-add (head_bytes l) (image_body l (gathered l devices set first)) ((s * stripe_symbols l + i) * l.symbol_bytes)))
      ∙ ap (λ n. take l.symbol_bytes (drop (n + (s * stripe_symbols l + i) * l.symbol_bytes) (image_bytes l (gathered l devices set first)))) head
      ∙ image_of-image_bytes l (gathered l devices set first) sizes s i stripe low

  module _ (d : ℕ) (there : d < l.devices) (all : (y : ℕ) → y < l.symbols_per_device → has set (d * l.symbols_per_device + y) ≡ true) where
    number_low : (y : ℕ) → y < l.symbols_per_device → d * l.symbols_per_device + y < stripe_symbols l
    number_low y low = omega (arith, low, place_end l.symbols_per_device l.devices (stripe_symbols l) d refl there)

    -- symbol y of the device in stripe s
    piece_is : (s y : ℕ) → s < l.stripes → y < l.symbols_per_device
        → take l.symbol_bytes (drop (s * (stripe_symbols l * l.symbol_bytes) + d * part_bytes l + y * l.symbol_bytes) (image_body l (gathered l devices set first)))
        ≡ take l.symbol_bytes (drop (first * part_bytes l + s * part_bytes l + y * l.symbol_bytes) (devices d))
    piece_is s y stripe low =
        let w : ℕ = l.symbols_per_device in
        let b : ℕ = l.symbol_bytes in
        let i : ℕ = d * w + y in
        let at : s * (stripe_symbols l * b) + d * part_bytes l + y * b ≡ (s * stripe_symbols l + i) * b =
        omega (arith, add-mul (s * stripe_symbols l) i b, add-mul (d * w) y b, mul_assoc s (stripe_symbols l) b, mul_assoc d w b) in
        let on : device_place l (first + s) i ≡ first * part_bytes l + s * part_bytes l + y * b =
        ap (λ m. ((first + s) * w + m) * b) (mod-mul-add d w y low)
        ∙ omega (arith, add-mul ((first + s) * w) y b, add-mul first s w, add-mul (first * w) (s * w) b, mul_assoc first w b, mul_assoc s w b) in
        ap (λ n. take b (drop n (image_body l (gathered l devices set first)))) at
        ∙ symbol_at s i stripe (number_low y low)
        ∙ gathered-read l devices set first s i (all y low)
        ∙ ap₂ (λ n k. take b (drop n (devices k))) on (div-mul-add d w y low)

    part_is : (s : ℕ) → s < l.stripes → part_in l (image_body l (gathered l devices set first)) s d ≡ take (part_bytes l) (drop (first * part_bytes l + s * part_bytes l) (devices d))
    part_is s stripe =
        run-pieces l.symbols_per_device l.symbol_bytes (s * (stripe_symbols l * l.symbol_bytes) + d * part_bytes l) (image_body l (gathered l devices set first))
        ∙ pieces-same _ _ l.symbols_per_device (λ y low. piece_is s y stripe low)
        ∙ sym (run-pieces l.symbols_per_device l.symbol_bytes (first * part_bytes l + s * part_bytes l) (devices d))

    pub text-is : device_text l (image_body l (gathered l devices set first)) d l.stripes ≡ take (l.stripes * part_bytes l) (drop (first * part_bytes l) (devices d))
    text-is =
        pieces-same _ _ l.stripes (λ s stripe. part_is s stripe)
        ∙ sym (run-pieces l.stripes (part_bytes l) (first * part_bytes l) (devices d))

pub brings-back : (l : Layout) → IsLayout l → BringsBack l
brings-back l limits = record { device = λ devices set first d reach there all. text-is l limits devices set first reach d there all }
