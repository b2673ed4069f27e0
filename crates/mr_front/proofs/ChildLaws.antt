-- The children of masks, one after another.
use Rattle.std.proofs.Common.{◌≡◌, ℕ, suc, ◌+◌, ◌-◌, ◌<◌, ◌≤◌, cond, List, [], ◌∷◌, ◌++◌, length, get_or, take, drop, map, flat_map, refl, sym, ◌∙◌, arith, ap, append_assoc, append-nil}
use Rattle.std.specs.Prelude.{filter, slice_range, nat_le, bit_or}
use Rattle.std.proofs.Math.Seq.{take-suc, drop-cons, take-append-add}
use Rattle.std.proofs.lemmas.List.{take-append-drop, take_all, length-take, length-drop, get_or-drop}
use Rattle.std.proofs.lemmas.List.Folds.{drop_split}
use Rattle.std.proofs.lemmas.List.Concat.{flat_map-append}
use Rattle.std.proofs.lemmas.List.Elements.{filter-append}
use Rattle.std.proofs.lemmas.Bool.{le-leb, lt-leb}
use Rattle.mr_eq.specs.Problems.{Loss}
use Rattle.mr_front.specs.Waiting.{mask_cost}
use Rattle.mr_front.specs.Children.{AppendsPrefix}

pub map-append : (f : ℕ → ℕ) (xs ys : List ℕ) → map f (xs ++ ys) ≡ map f xs ++ map f ys
map-append f [] ys = refl
map-append f (x ∷ xs) ys = ap (λ (vs : List ℕ). f x ∷ vs) (map-append f xs ys)

-- the children of v by the first equations of a list
abbrev pub kept_unions : Loss → ℕ → ℕ → List ℕ → List ℕ
kept_unions p v bound es = filter (λ u. nat_le (mask_cost p u) bound) (map (bit_or v) es)

unions-append : (p : Loss) (v bound : ℕ) (xs ys : List ℕ) → kept_unions p v bound (xs ++ ys) ≡ kept_unions p v bound xs ++ kept_unions p v bound ys
unions-append p v bound xs ys = ap (filter (λ u. nat_le (mask_cost p u) bound)) (map-append (bit_or v) xs ys) ∙ filter-append (λ u. nat_le (mask_cost p u) bound) (map (bit_or v) xs) (map (bit_or v) ys)

module _ (p : Loss) (v bound : ℕ) (es : List ℕ) (old now : List ℕ) (i x : ℕ) (low : i < length es) (item : x ≡ get_or es i 0)
    (done : now ≡ old ++ kept_unions p v bound (take i es)) where
  next-unions : kept_unions p v bound (take (suc i) es) ≡ kept_unions p v bound (take i es) ++ kept_unions p v bound (x ∷ [])
  next-unions = ap (kept_unions p v bound) (take-suc es i 0 low ∙ ap (λ y. take i es ++ y ∷ []) (sym item)) ∙ unions-append p v bound (take i es) (x ∷ [])

  -- one more union is kept
  pub unions-keep : (n : ℕ) → n ≡ suc i → mask_cost p (bit_or v x) ≤ bound → now ++ bit_or v x ∷ [] ≡ old ++ kept_unions p v bound (take n es)
  unions-keep n e few =
      ap (λ (vs : List ℕ). vs ++ bit_or v x ∷ []) done
      ∙ append_assoc old (kept_unions p v bound (take i es)) (bit_or v x ∷ [])
      ∙ ap (λ b. old ++ (kept_unions p v bound (take i es) ++ cond b (bit_or v x ∷ []) [])) (sym (le-leb (mask_cost p (bit_or v x)) bound few))
      ∙ ap (λ (vs : List ℕ). old ++ vs) (sym next-unions)
      ∙ ap (λ m. old ++ kept_unions p v bound (take m es)) (sym e)

  -- one more union is above the bound
  pub unions-drop : (n : ℕ) → n ≡ suc i → bound < mask_cost p (bit_or v x) → now ≡ old ++ kept_unions p v bound (take n es)
  unions-drop n e many =
      done ∙ ap (λ (vs : List ℕ). old ++ vs) (sym (append-nil (kept_unions p v bound (take i es))))
      ∙ ap (λ b. old ++ (kept_unions p v bound (take i es) ++ cond b (bit_or v x ∷ []) [])) (sym (lt-leb (mask_cost p (bit_or v x)) bound many))
      ∙ ap (λ (vs : List ℕ). old ++ vs) (sym next-unions)
      ∙ ap (λ m. old ++ kept_unions p v bound (take m es)) (sym e)

-- the unions so far are a first part of all
pub unions-prefix : (p : Loss) (v bound : ℕ) (es old now : List ℕ) (i : ℕ) → now ≡ old ++ kept_unions p v bound (take i es) → AppendsPrefix old now (kept_unions p v bound es)
unions-prefix p v bound es old now i done = record {
  part = kept_unions p v bound (take i es);
  rest = kept_unions p v bound (drop i es);
  appended = done;
  first = ap (kept_unions p v bound) (sym (take-append-drop i es)) ∙ unions-append p v bound (take i es) (drop i es);
}

pub unions-all : (p : Loss) (v bound : ℕ) (es old now : List ℕ) (i : ℕ) → now ≡ old ++ kept_unions p v bound (take i es) → length es ≤ i → now ≡ old ++ kept_unions p v bound es
unions-all p v bound es old now i done «end» = done ∙ ap (λ (vs : List ℕ). old ++ kept_unions p v bound vs) (take_all i es «end»)

-- ---- the masks of a layer from one place up to another

module _ (xs : List ℕ) (first place «end» x : ℕ) (le : first ≤ place) (low : place < «end») (inside : «end» ≤ length xs) (item : x ≡ get_or xs place 0) where
  pub slice-more : (n : ℕ) → n ≡ suc place → slice_range xs first n ≡ slice_range xs first place ++ x ∷ []
  slice-more n e =
      let count : n - first ≡ suc (place - first) = omega (arith, e, le) in
      let short : place - first < length (drop first xs) = omega (arith, length-drop first xs, le, low, inside) in
      let there : get_or (drop first xs) (place - first) 0 ≡ x = get_or-drop first xs (place - first) 0 ∙ ap (λ i. get_or xs i 0) (omega (arith, le)) ∙ sym item in
      ap (λ m. take m (drop first xs)) count ∙ take-suc (drop first xs) (place - first) 0 short ∙ ap (λ y. slice_range xs first place ++ y ∷ []) there

  pub slice-middle : slice_range xs first «end» ≡ slice_range xs first place ++ x ∷ slice_range xs (suc place) «end»
  slice-middle =
      let before = slice_range xs first place in
      let parts : drop first xs ≡ before ++ drop place xs = drop_split xs first place le in
      let next : drop place xs ≡ x ∷ drop (suc place) xs = drop-cons xs place 0 (omega (arith, low, inside)) ∙ ap (λ y. y ∷ drop (suc place) xs) (sym item) in
      let long : length before ≡ place - first = omega (arith, length-take (place - first) (drop first xs), length-drop first xs, le, low, inside) in
      let count : «end» - first ≡ length before + suc («end» - suc place) = omega (arith, long, le, low) in
      ap (λ m. take m (drop first xs)) count ∙ ap (take (length before + suc («end» - suc place))) (parts ∙ ap (λ (ys : List ℕ). before ++ ys) next)
      ∙ take-append-add before (x ∷ drop (suc place) xs) (suc («end» - suc place))

  module _ (g : ℕ → List ℕ) (old now : List ℕ) (done : now ≡ old ++ flat_map g (slice_range xs first place)) where
    pub each-more : (new : List ℕ) (n : ℕ) → n ≡ suc place → new ≡ now ++ g x → new ≡ old ++ flat_map g (slice_range xs first n)
    each-more new n e grown =
        grown ∙ ap (λ (ys : List ℕ). ys ++ g x) done ∙ append_assoc old (flat_map g (slice_range xs first place)) (g x)
        ∙ ap (λ (ys : List ℕ). old ++ ys) (ap (λ (ys : List ℕ). flat_map g (slice_range xs first place) ++ ys) (sym (append-nil (g x)))
        ∙ sym (ap (flat_map g) (slice-more n e) ∙ flat_map-append g (slice_range xs first place) (x ∷ [])))

    pub each-prefix : (new : List ℕ) → AppendsPrefix now new (g x) → AppendsPrefix old new (flat_map g (slice_range xs first «end»))
    each-prefix new h =
        let before = flat_map g (slice_range xs first place) in
        let later = flat_map g (slice_range xs (suc place) «end») in
        record {
          part = before ++ h.part;
          rest = h.rest ++ later;
          appended = h.appended ∙ ap (λ (ys : List ℕ). ys ++ h.part) done ∙ append_assoc old before h.part;
          first = ap (flat_map g) slice-middle ∙ flat_map-append g (slice_range xs first place) (x ∷ slice_range xs (suc place) «end»)
              ∙ ap (λ (ys : List ℕ). before ++ ys)
              (ap (λ (ys : List ℕ). ys ++ later) h.first ∙ append_assoc h.part h.rest later)
              ∙ sym (append_assoc before h.part (h.rest ++ later));
        }
