-- The places among words, counted a word at a time.
use Rattle.std.proofs.Common.{◌≡◌, ◌∙◌, ◌+◌, ◌-◌, ◌<◌, ◌≤◌, ◌&&◌, ℕ, Bool, true, false, nat_le, Some, None, arith, cond, List, ◌∷◌, drop, length, map, string_bytes, refl, sym, ap}
use Rattle.std.specs.Prelude.{String}
use Rattle.std.specs.List.{slice_index_or}
use Rattle.std.proofs.lemmas.Bool.{and_from, le-leb, lt-leb}
use Rattle.std.proofs.lemmas.List.{at_drop_all, at_drop_more}
use Rattle.mr_array_words.specs.Counting.{count_between, is_place, places_from, turn_after}
use Rattle.mr_array_words.specs.declared.counting.TheConstants.{DEVICE_LIMIT}
use Rattle.mr_array_words.specs.declared.counting.Turn.{Turn}

module _ {Z : Type 0} (words : List (String Z)) (turn : Turn) (i : ℕ) where
  -- the places from word i on
  abbrev pub places_left : ℕ
  places_left = places_from turn (map string_bytes (drop i words))

  pub none_left : length words ≤ i → places_left ≡ 0
  unfolding places_from
  none_left past = at_drop_all (λ ws. places_from turn (map string_bytes ws)) words i past

  one_more : (word : String Z) → word ≡ slice_index_or words i word → i < length words
      → places_left ≡ cond (is_place turn (string_bytes word)) 1 0 + places_from (turn_after turn (string_bytes word)) (map string_bytes (drop (i + 1) words))
  unfolding places_from
  one_more word is lt = at_drop_more (λ ws. places_from turn (map string_bytes ws)) words i word lt
      ∙ ap (λ w. places_from turn (map string_bytes (w ∷ drop (i + 1) words))) (sym is)

  -- one more word is counted, or not
  pub counted_on : (word : String Z) → word ≡ slice_index_or words i word → i < length words → (b : Bool) (next : Turn) (count total : ℕ)
      → is_place turn (string_bytes word) ≡ b → next ≡ turn_after turn (string_bytes word) → count + places_left ≡ total
      → (count + cond b 1 0) + places_from next (map string_bytes (drop (i + 1) words)) ≡ total
  counted_on word is lt b next count total same after e =
      let step : places_left ≡ cond b 1 0 + places_from next (map string_bytes (drop (i + 1) words)) = one_more word is lt
      ∙ (λ k. cond (same k) 1 0 + places_from (sym after k) (map string_bytes (drop (i + 1) words))) in
      omega (arith, step, e)

-- so many devices, where the places are so many as are wanted
module _ (before least places : ℕ) where
  pub count_some : before + least ≤ places → places ≤ before + DEVICE_LIMIT → Some (places - before) ≡ count_between before least places
  count_some low high = sym (ap (λ b. cond b (Some (places - before)) None) (and_from _ _ (le-leb (before + least) places low) (le-leb places (before + DEVICE_LIMIT) high)))

  pub count_low : places < before + least → None ≡ count_between before least places
  count_low low = sym (ap (λ b. cond (b && nat_le places (before + DEVICE_LIMIT)) (Some (places - before)) None) (lt-leb (before + least) places low))

  pub count_high : before + DEVICE_LIMIT < places → None ≡ count_between before least places
  count_high high = sym (ap (λ b. cond b (Some (places - before)) None)
      (ap (λ b. nat_le (before + least) places && b) (lt-leb places (before + DEVICE_LIMIT) high) ∙ none (nat_le (before + least) places)))
    where
      none : (b : Bool) → (b && false) ≡ false
      none true = refl
      none false = refl
