-- The names of the places of devices are distinct, and none of them is a name of another place or of an option.
use Rattle.std.proofs.Common.{◌≡◌, ◌∙◌, ◌+◌, ◌^◌, ◌<◌, ◌≤◌, ◌||◌, ℕ, Bool, true, false, zero, suc, not, List, [], ◌∷◌, ◌++◌, append_assoc, length, map, Option, Some, None, refl, sym, ap, arith, decimal, codes}
use Rattle.std.specs.List.{range_with_len}
use Rattle.std.specs.Prelude.{⊤}
use Rattle.std.specs.Str.{bytes_eq}
use Rattle.std.proofs.lemmas.Bool.{and_from, and_parts, le-leb, not-true, or_parts}
use Rattle.std.proofs.lemmas.Fmt.{decimal_injective}
use Rattle.std.proofs.lemmas.List.FromFn.{length-map-range_with_len}
use Rattle.mr_text.specs.Numbers.{is_number, number_of}
use Rattle.mr_text.proofs.NumberLaws.{bytes_eq_true, number_of-decimal}
use Rattle.mr_words.specs.Clap.{are_distinct, is_fit}
use Rattle.mr_words.specs.Grammar.{Text, is_among}
use Rattle.mr_words.proofs.Standing.{is_among-append}
use Rattle.mr_array_words.specs.Devices.{device_names}
use Rattle.mr_array_words.specs.Gather.{gather_syntax}
use Rattle.mr_array_words.specs.Scatter.{scatter_syntax}

-- texts that are no numbers
abbrev AreNoNumbers : List Text → Type 0
AreNoNumbers [] = ⊤
AreNoNumbers (w ∷ ws) = (number_of w ≡ None) × AreNoNumbers ws

none_some : {n : ℕ} → ◌≡◌ {A = Option ℕ} None (Some n) → ⊥
none_some e = cc

not_printed : (w : Text) (k : ℕ) → k < 1000 → number_of w ≡ None → bytes_eq w (decimal k) ≡ false
not_printed w k low none = go (bytes_eq w (decimal k)) refl
  where
    go : (b : Bool) → bytes_eq w (decimal k) ≡ b → b ≡ false
    go true e = absurd (none_some (sym none ∙ ap number_of (bytes_eq_true w (decimal k) e) ∙ number_of-decimal k (omega (arith, low))))
    go false e = refl

not_named : (w : Text) (k : ℕ) → k < 1000 → number_of w ≡ None → bytes_eq (decimal k) w ≡ false
not_named w k low none = go (bytes_eq (decimal k) w) refl
  where
    go : (b : Bool) → bytes_eq (decimal k) w ≡ b → b ≡ false
    go true e = absurd (none_some (sym none ∙ ap number_of (sym (bytes_eq_true (decimal k) w e)) ∙ number_of-decimal k (omega (arith, low))))
    go false e = refl

other_number : (j k : ℕ) → j < 1000 → k < j → bytes_eq (decimal j) (decimal k) ≡ false
other_number j k low less = go (bytes_eq (decimal j) (decimal k)) refl
  where
    go : (b : Bool) → bytes_eq (decimal j) (decimal k) ≡ b → b ≡ false
    go true e =
        let big : 1000 < 2 ^ 64 = omega arith in
        absurd (omega (arith, less, decimal_injective j k (omega (arith, low, big)) (omega (arith, low, less, big)) (bytes_eq_true (decimal j) (decimal k) e)))
    go false e = refl

-- a name that is no number is not among those of the devices
no_device : (w : Text) (least n : ℕ) → least + n < 1000 → number_of w ≡ None → is_among w (map decimal (range_with_len least n)) ≡ false
no_device w least zero low none = refl
no_device w least (suc n) low none =
    ap (λ b. b || is_among w (map decimal (range_with_len (least + 1) n))) (not_named w least (omega (arith, low)) none)
    ∙ no_device w (least + 1) n (omega (arith, low)) none

-- nor is a number among other names
not_among : (k : ℕ) → k < 1000 → (ws : List Text) → AreNoNumbers ws → is_among (decimal k) ws ≡ false
not_among k low [] h = refl
not_among k low (w ∷ ws) h = ap (λ b. b || is_among (decimal k) ws) (not_printed w k low h.0) ∙ not_among k low ws h.1

-- nor among the numbers behind it
not_behind : (k least n : ℕ) → k < least → least + n < 1000 → is_among (decimal k) (map decimal (range_with_len least n)) ≡ false
not_behind k least zero less low = refl
not_behind k least (suc n) less low =
    ap (λ b. b || is_among (decimal k) (map decimal (range_with_len (least + 1) n))) (other_number least k (omega (arith, low)) less)
    ∙ not_behind k (least + 1) n (omega (arith, less)) (omega (arith, low))

neither : (x : Text) (xs ys : List Text) → is_among x xs ≡ false → is_among x ys ≡ false → is_among x (xs ++ ys) ≡ false
neither x xs ys e f = is_among-append x xs ys ∙ ap (λ b. b || is_among x ys) e ∙ f

devices_distinct : (least n : ℕ) (rest : List Text) → least + n < 1000 → AreNoNumbers rest → are_distinct rest ≡ true
    → are_distinct (map decimal (range_with_len least n) ++ rest) ≡ true
devices_distinct least zero rest low names distinct = distinct
devices_distinct least (suc n) rest low names distinct = and_from _ _
    (ap not (neither (decimal least) (map decimal (range_with_len (least + 1) n)) rest
    (not_behind least (least + 1) n (omega arith) (omega (arith, low))) (not_among least (omega (arith, low)) rest names)))
    (devices_distinct (least + 1) n rest (omega (arith, low)) names distinct)

-- names before those of the devices, and behind them
distinct_with : (count : ℕ) (before rest : List Text) → count < 1000 → AreNoNumbers before → AreNoNumbers rest → are_distinct (before ++ rest) ≡ true
    → are_distinct (device_names count ++ rest) ≡ true → are_distinct (before ++ (device_names count ++ rest)) ≡ true
distinct_with count [] rest low b r e d = d
distinct_with count (w ∷ ws) rest low b r e d =
    let p = and_parts _ _ e in
    let apart = or_parts (is_among w ws) (is_among w rest) (sym (is_among-append w ws rest) ∙ not-true _ p.0) in
    and_from _ _ (ap not (neither w ws (device_names count ++ rest) apart.0 (neither w (device_names count) rest (no_device w 0 count (omega (arith, low)) b.0) apart.1)))
    (distinct_with count ws rest low b.1 r p.1 d)

pub gather_fit : (count : ℕ) → count ≤ 128 → is_fit (gather_syntax (device_names count)) ≡ true
unfolding number_of is_number
gather_fit count low =
    let few : length (gather_syntax (device_names count)).places < 1000 = omega (arith, low, length-map-range_with_len decimal 0 count) in
    and_from _ _ (le-leb (suc (length (gather_syntax (device_names count)).places)) 1000 few)
    (ap are_distinct (append_assoc (gather_syntax (device_names count)).places (codes "plan" ∷ []) [])
    ∙ distinct_with count before rest (omega (arith, low)) (refl, (refl, (refl, (refl, tt)))) (refl, tt) refl
    (devices_distinct 0 count rest (omega (arith, low)) (refl, tt) refl))
  where
    before : List Text
    before = codes "matrix" ∷ codes "bytes" ∷ codes "first" ∷ codes "stripes" ∷ []

    rest : List Text
    rest = codes "plan" ∷ []

pub scatter_fit : (count : ℕ) → count ≤ 128 → is_fit (scatter_syntax (device_names count)) ≡ true
unfolding number_of is_number
scatter_fit count low =
    let few : length (scatter_syntax (device_names count)).places < 1000 = omega (arith, low, length-map-range_with_len decimal 0 count) in
    and_from _ _ (le-leb (suc (length (scatter_syntax (device_names count)).places)) 1000 few)
    (ap are_distinct (append_assoc (scatter_syntax (device_names count)).places [] [])
    ∙ distinct_with count before [] (omega (arith, low)) (refl, (refl, (refl, tt))) tt refl
    (devices_distinct 0 count [] (omega (arith, low)) tt refl))
  where
    before : List Text
    before = codes "matrix" ∷ codes "first" ∷ codes "lost" ∷ []
