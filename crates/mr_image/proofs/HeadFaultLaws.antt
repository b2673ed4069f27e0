-- The fault that is answered for a head is its first.
use Rattle.std.proofs.Common.{◌≡◌, ℕ, ◌%◌, ◌≤◌, ◌==◌, Bool, true, false, cond, not, ◌||◌, nat_lt, List, take, drop, replicate, Result, Ok, Err, ◌⊎◌, ⊎_elim, inl, inr, refl, sym, ap, subst, ◌∙◌, arith, eqb-true, eq-eqb}
use Rattle.std.specs.Prelude.{IfErr}
use Rattle.std.specs.Str.{bytes_eq}
use Rattle.std.proofs.lemmas.Bool.{both_ways, and_parts, and_from, or_left, or_right, not-true, not-false, eqb-false, ltb-true, ltb-false}
use Rattle.std.proofs.lemmas.Slice.Eq.{bytes_eq-Decides}
use Rattle.mr_model.specs.Code.{Dimensions}
use Rattle.mr_bits.specs.declared.errors.Large.{Large}
use Rattle.mr_bits.specs.declared.errors.What.TheVariants.{SymbolBytes, ImageBytes}
use Rattle.mr_image.specs.declared.limits.TheConstants.{IMAGE_LIMIT, SYMBOL_LIMIT}
use Rattle.mr_image.specs.declared.faults.HeadFault.{HeadFault}
use Rattle.mr_image.specs.declared.faults.HeadFault.TheVariants.{Bad, Large as TooLarge}
use Rattle.mr_image.specs.declared.faults.ImageKind.TheVariants.{Head, Shape, Bytes, Length, Planned, Version}
use Rattle.mr_image.specs.Images.{Layout, body_bytes}
use Rattle.mr_image.specs.Heads.{file_bytes, layout, mark, checked_layout, has_mark, has_marks, version_of, with_version, number_at, is_of_shape, of_length, read_head}
use Rattle.mr_image.proofs.HeadLaws.{guard_ok, checked_layout-is}
use Rattle.mr_image.specs.HeadFaults.{HasMarks, HasShape, head_layout, HasWholeWords, IsWithinLimits, IsSizeFault, IsHeadFault}

-- a guard answers its fault, or what stands behind it answers
data Stops (guard : Bool) (first fault : HeadFault) (rest : Result Layout HeadFault) : Type 0 where
  here : guard ≡ true → first ≡ fault → Stops guard first fault rest
  later : guard ≡ false → rest ≡ Err fault → Stops guard first fault rest

stops : (guard : Bool) (first fault : HeadFault) (rest : Result Layout HeadFault) → cond guard (Err first) rest ≡ Err fault → Stops guard first fault rest
stops true first fault rest e = here refl cc
stops false first fault rest e = later refl e

-- ---- the tests of the marks and of the shape

mark-true : (version : ℕ) (bytes : List ℕ) → has_mark version bytes ≡ true → take 8 bytes ≡ mark version
unfolding has_mark
mark-true version bytes e = (bytes_eq-Decides (take 8 bytes) (mark version)).0 e

true-mark : (version : ℕ) (bytes : List ℕ) → take 8 bytes ≡ mark version → has_mark version bytes ≡ true
unfolding has_mark
true-mark version bytes e = (bytes_eq-Decides (take 8 bytes) (mark version)).1 e

marks-true : (bytes : List ℕ) → has_marks bytes ≡ true → HasMarks bytes
unfolding has_marks
marks-true bytes e =
    let parts = and_parts (has_mark 1 bytes || has_mark 2 bytes) (bytes_eq (take 8 (drop 24 bytes)) (replicate 8 0)) e in
    record {
      front = front (has_mark 1 bytes) refl parts.0;
      zeros = (bytes_eq-Decides (take 8 (drop 24 bytes)) (replicate 8 0)).0 parts.1;
    }
  where
    front : (b : Bool) → has_mark 1 bytes ≡ b → (b || has_mark 2 bytes) ≡ true → (take 8 bytes ≡ mark 1) ⊎ (take 8 bytes ≡ mark 2)
    front true first e = inl (mark-true 1 bytes first)
    front false other e = inr (mark-true 2 bytes e)

true-marks : (bytes : List ℕ) → HasMarks bytes → has_marks bytes ≡ true
unfolding has_marks
true-marks bytes h = and_from _ _ front ((bytes_eq-Decides (take 8 (drop 24 bytes)) (replicate 8 0)).1 h.zeros)
  where
    front : (has_mark 1 bytes || has_mark 2 bytes) ≡ true
    front = ⊎_elim
        (λ first. or_left _ _ (true-mark 1 bytes first))
        (λ second. or_right _ _ (true-mark 2 bytes second))
        h.front

shape-true : (d : Dimensions) (bytes : List ℕ) → is_of_shape d bytes ≡ true → HasShape d bytes
shape-true d bytes e =
    let parts = and_parts (number_at 8 bytes == d.devices) (number_at 12 bytes == d.symbols_per_device) e in
    record { devices = eqb-true (number_at 8 bytes) d.devices parts.0; symbols = eqb-true (number_at 12 bytes) d.symbols_per_device parts.1 }

true-shape : (d : Dimensions) (bytes : List ℕ) → HasShape d bytes → is_of_shape d bytes ≡ true
true-shape d bytes h = and_from _ _ (eq-eqb (number_at 8 bytes) d.devices h.devices) (eq-eqb (number_at 12 bytes) d.symbols_per_device h.symbols)

-- ---- the numbers of a layout

no_words : (l : Layout) → (l.symbol_bytes == 0 || not (l.symbol_bytes % 8 == 0)) ≡ true → ¬ HasWholeWords l
no_words l e h = go (l.symbol_bytes == 0) (l.symbol_bytes % 8 == 0) refl refl e
  where
    go : (a b : Bool) → (l.symbol_bytes == 0) ≡ a → (l.symbol_bytes % 8 == 0) ≡ b → (a || not b) ≡ true → ⊥
    go true b none rest e = omega (arith, eqb-true _ _ none, h.some)
    go false true some rest e = cc
    go false false some rest e = eqb-false _ _ rest h.whole

whole_words : (l : Layout) → (l.symbol_bytes == 0 || not (l.symbol_bytes % 8 == 0)) ≡ false → HasWholeWords l
whole_words l e = go (l.symbol_bytes == 0) (l.symbol_bytes % 8 == 0) refl refl e
  where
    go : (a b : Bool) → (l.symbol_bytes == 0) ≡ a → (l.symbol_bytes % 8 == 0) ≡ b → (a || not b) ≡ false → HasWholeWords l
    go true b none rest e = cc
    go false true some rest e = record { some = omega (arith, eqb-false _ _ some); whole = eqb-true _ _ rest }
    go false false some rest e = cc

module _ (d : Dimensions) (size stripes : ℕ) where
  abbrev of_size : Layout
  of_size = layout d size stripes

  abbrev wide : Large
  wide = record { what = SymbolBytes; number = size }

  abbrev over : Large
  over = record { what = ImageBytes; number = body_bytes of_size }

  pub size-fault : (fault : HeadFault) → checked_layout d size stripes ≡ Err fault → IsSizeFault of_size fault
  size-fault fault e = first (stops _ (Bad Bytes) fault _ e)
    where
      third : HasWholeWords of_size → size ≤ SYMBOL_LIMIT → Stops (nat_lt IMAGE_LIMIT (body_bytes of_size)) (TooLarge over) fault (Ok of_size) → IsSizeFault of_size fault
      third words few (here is same) = subst (IsSizeFault of_size) same (words, inr (few, record { above = ltb-true _ _ is; is = refl }))
      third words few (later is e) = cc

      second : HasWholeWords of_size → Stops (nat_lt SYMBOL_LIMIT size) (TooLarge wide) fault (cond (nat_lt IMAGE_LIMIT (body_bytes of_size)) (Err (TooLarge over)) (Ok of_size)) → IsSizeFault of_size fault
      second words (here is same) = subst (IsSizeFault of_size) same (words, inl (record { above = ltb-true _ _ is; is = refl }))
      second words (later is e) = third words (ltb-false _ _ is) (stops _ (TooLarge over) fault (Ok of_size) e)

      first : Stops (size == 0 || not (size % 8 == 0)) (Bad Bytes) fault
          (cond (nat_lt SYMBOL_LIMIT size) (Err (TooLarge wide)) (cond (nat_lt IMAGE_LIMIT (body_bytes of_size)) (Err (TooLarge over)) (Ok of_size)))
          → IsSizeFault of_size fault
      first (here is same) = subst (IsSizeFault of_size) same (no_words of_size is)
      first (later is e) = second (whole_words of_size is) (stops _ (TooLarge wide) fault _ e)

  pub size-within : (l : Layout) → checked_layout d size stripes ≡ Ok l → IsWithinLimits of_size
  size-within l e =
      let third : Result Layout HeadFault = cond (nat_lt IMAGE_LIMIT (body_bytes of_size)) (Err (TooLarge (record { what = ImageBytes; number = body_bytes of_size }))) (Ok of_size) in
      let second : Result Layout HeadFault = cond (nat_lt SYMBOL_LIMIT size) (Err (TooLarge (record { what = SymbolBytes; number = size }))) third in
      let words = guard_ok (size == 0 || not (size % 8 == 0)) (Bad Bytes) second l e in
      let few = guard_ok (nat_lt SYMBOL_LIMIT size) (TooLarge (record { what = SymbolBytes; number = size })) third l words.1 in
      let all = guard_ok (nat_lt IMAGE_LIMIT (body_bytes of_size)) (TooLarge (record { what = ImageBytes; number = body_bytes of_size })) (Ok of_size) l few.1 in
      record { words = whole_words of_size words.0; symbol = ltb-false _ _ few.0; image = ltb-false _ _ all.0 }

-- ---- the head

module _ (bytes : List ℕ) (d : Dimensions) (len : ℕ) where
  with_size : HasMarks bytes → HasShape d bytes → (fault : HeadFault) → IsSizeFault (head_layout d bytes) fault → IsHeadFault bytes d len fault
  with_size marks shape (Bad Head) h = absurd h
  with_size marks shape (Bad Shape) h = absurd h
  with_size marks shape (Bad Bytes) h = (marks, shape, h)
  with_size marks shape (Bad Length) h = absurd h
  with_size marks shape (Bad Planned) h = absurd h
  with_size marks shape (Bad Version) h = absurd h
  with_size marks shape (TooLarge named) h = (marks, shape, h)

  last : HasMarks bytes → HasShape d bytes → (fault : HeadFault) (r : Result Layout HeadFault) → checked_layout d (number_at 16 bytes) (number_at 20 bytes) ≡ r
      → of_length (version_of bytes) len r ≡ Err fault → IsHeadFault bytes d len fault
  last marks shape fault (Err f) is e = with_size marks shape fault (size-fault d (number_at 16 bytes) (number_at 20 bytes) fault (is ∙ e))
  last marks shape fault (Ok l) is e = go (len == file_bytes l) refl e
    where
      go : (b : Bool) → (len == file_bytes l) ≡ b → cond b (Ok (with_version (version_of bytes) l)) (Err (Bad Length)) ≡ Err fault → IsHeadFault bytes d len fault
      go true same e = cc
      go false other e =
          let named : Bad Length ≡ fault = cc in
          let layout_is : head_layout d bytes ≡ l = checked_layout-is d (number_at 16 bytes) (number_at 20 bytes) l is in
          subst (IsHeadFault bytes d len) named
          (marks, shape, size-within d (number_at 16 bytes) (number_at 20 bytes) l is, (λ same. eqb-false _ _ other (same ∙ ap file_bytes layout_is)))

  abbrev rest : Result Layout HeadFault
  rest = of_length (version_of bytes) len (checked_layout d (number_at 16 bytes) (number_at 20 bytes))

  pub head-fault : (fault : HeadFault) → read_head bytes d len ≡ Err fault → IsHeadFault bytes d len fault
  unfolding read_head
  head-fault fault e = first (stops (not (has_marks bytes)) (Bad Head) fault _ e)
    where
      second : HasMarks bytes → Stops (not (is_of_shape d bytes)) (Bad Shape) fault rest → IsHeadFault bytes d len fault
      second marks (here is same) = subst (IsHeadFault bytes d len) same (marks, (λ h. both_ways _ (not-true _ is) (true-shape d bytes h)))
      second marks (later is e) = last marks (shape-true d bytes (not-false _ is)) fault (checked_layout d (number_at 16 bytes) (number_at 20 bytes)) refl e

      first : Stops (not (has_marks bytes)) (Bad Head) fault (cond (not (is_of_shape d bytes)) (Err (Bad Shape)) rest) → IsHeadFault bytes d len fault
      first (here is same) = subst (IsHeadFault bytes d len) same (λ h. both_ways _ (not-true _ is) (true-marks bytes h))
      first (later is e) = second (marks-true bytes (not-false _ is)) (stops (not (is_of_shape d bytes)) (Bad Shape) fault rest e)

  pub if_head_fault : (answer : Result Layout HeadFault) → answer ≡ read_head bytes d len → IfErr answer (IsHeadFault bytes d len)
  if_head_fault (Ok l) is = tt
  if_head_fault (Err fault) is = head-fault fault (sym is)
