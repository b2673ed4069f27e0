-- The broken stripes of an image, found part by part.
use Rattle.std.proofs.Common.{◌≡◌, ℕ, zero, suc, ◌+◌, ◌-◌, ◌*◌, ◌/◌, ◌%◌, ◌^◌, ◌<◌, ◌≤◌, List, [], ◌∷◌, ◌++◌, take, drop, flat_map, map, length, get_or, Option, Some, None, IfSome, refl, sym, ap, ap₂, subst, ◌∙◌, arith, zero-add, add-zero, suc-add, add_assoc, one-add, append_assoc, All, mod-lt, ⊎_elim}
use Rattle.std.specs.List.{range_with_len}
use Rattle.std.specs.Prelude.{IsNone, ◌↔◌}
use Rattle.std.specs.Option.{ForSome}
use Rattle.std.proofs.Math.Nat.{add-mul, mul_assoc, mul-le-mul, mul-le-mul_right, mul-div_cancel, div-mul-le_self}
use Rattle.std.proofs.lemmas.List.{take-take, drop-take, drop-drop, length-take-le, length-drop, get_or_default, get_or_past, append-nil}
use Rattle.std.proofs.lemmas.Bool.{cases_lt}
use Rattle.std.proofs.lemmas.List.Elements.{All-map, All-take, All-drop}
use Rattle.std.proofs.lemmas.Option.{IfSome_then}
use Rattle.std.proofs.lemmas.List.FromFn.{length-map-range_with_len, get_or-map-range_with_len, map-range_with_len_more}
use Rattle.mr_model.specs.Sets.{find_below}
use Rattle.mr_model.specs.Code.{Code}
use Rattle.mr_model.proofs.Lists.{map-range-same}
use Rattle.mr_model.proofs.Finding.{FindsBelow, find_below-finds}
use Rattle.mr_bits.specs.Matrices.{IsMatrixCode}
use Rattle.mr_io.specs.Counts.{counted}
use Rattle.mr_io.specs.Sights.{Sight, sight_with}
use Rattle.mr_image.specs.Images.{Layout, IsLayout, Image, stripe_symbols, body_bytes, image_of, stripe_of}
use Rattle.mr_image.specs.Heads.{file_bytes}
use Rattle.mr_image.specs.Rotated.{FitsCode, codes_by, rotations}
use Rattle.mr_image.proofs.RotatedLaws.{codes-at, codes-count, codes-of, rotations-some, rotations-few}
use Rattle.mr_scrub.specs.declared.broken.Broken.{Broken}
use Rattle.mr_scrub.specs.Stripes.{IsCodeword, symbols_of, checks_of, is_broken, fault}
use Rattle.mr_scrub.specs.Scans.{stripe_bytes, stripe_at, no_code, code_at, fault_of, faults_in}
use Rattle.mr_scrub.specs.Laws.{TellsCodewords}
use Rattle.mr_scrub.proofs.FaultLaws.{fault-codeword}
use Rattle.mr_scrub.specs.Scrubs.{AreFaults, broken_at, broken_stripe, broken_stripes, broken_by, broken_in}

-- ---- lists made over ranges, piece by piece

pub flat-split : {X : Type 0} (f : ℕ → List X) (n k a : ℕ) → flat_map f (range_with_len a (n + k)) ≡ flat_map f (range_with_len a n) ++ flat_map f (range_with_len (a + n) k)
flat-split f zero k a = ap₂ (λ b c. flat_map f (range_with_len b c)) (sym (add-zero a)) (zero-add k)
flat-split f (suc n) k a =
    ap (λ c. flat_map f (range_with_len a c)) (suc-add n k)
    ∙ ap (λ l. f a ++ l) (flat-split f n k (a + 1))
    ∙ ap (λ b. f a ++ (flat_map f (range_with_len (a + 1) n) ++ flat_map f (range_with_len b k))) (add_assoc a 1 n ∙ ap (λ c. a + c) (one-add n))
    ∙ sym (append_assoc (f a) (flat_map f (range_with_len (a + 1) n)) (flat_map f (range_with_len (a + suc n) k)))

pub flat-same : {X : Type 0} (f g : ℕ → List X) (n a b : ℕ) → ((i : ℕ) → i < n → f (a + i) ≡ g (b + i)) → flat_map f (range_with_len a n) ≡ flat_map g (range_with_len b n)
flat-same f g zero a b h = refl
flat-same f g (suc n) a b h =
    let first : f a ≡ g b = ap f (sym (add-zero a)) ∙ h 0 (omega arith) ∙ ap g (add-zero b) in
    ap₂ (λ x l. x ++ l) first (flat-same f g n (a + 1) (b + 1)
    (λ i low. ap f (add_assoc a 1 i) ∙ ap (λ k. f (a + k)) (one-add i) ∙ h (suc i) (omega arith) ∙ ap (λ k. g (b + k)) (sym (one-add i)) ∙ ap g (sym (add_assoc b 1 i))))

-- ---- the symbols of a part

-- bytes within a front
slot : (w d long : ℕ) (bytes : List ℕ) → d + w ≤ long → take w (drop d (take long bytes)) ≡ take w (drop d bytes)
slot w d long bytes fits =
    let whole : long ≡ d + (long - d) = omega arith in
    ap (λ n. take w (drop d (take n bytes))) whole
    ∙ ap (take w) (drop-take d (long - d) bytes)
    ∙ take-take w (long - d) (drop d bytes) (omega arith)

-- where a symbol of stripe s stands in the file
slot_place : (s n i b : ℕ) → 32 + s * (n * b) + i * b ≡ 32 + (s * n + i) * b
slot_place s n i b = omega (arith, add-mul (s * n) i b, mul_assoc s n b)

-- the bytes of a stripe are its symbols, one after another
pub stripe-is : (l : Layout) (file : List ℕ) (s : ℕ)
    → symbols_of (stripe_symbols l) l.symbol_bytes (take (stripe_bytes l) (drop (32 + s * stripe_bytes l) file)) ≡ stripe_of l (image_of l file) s
unfolding symbols_of
stripe-is l file s =
    map-range-same (λ i. take l.symbol_bytes (drop (i * l.symbol_bytes) (take (stripe_bytes l) (drop (32 + s * stripe_bytes l) file)))) (image_of l file s) (stripe_symbols l) 0 0
    (λ i low. symbol (0 + i) (omega (arith, low)))
  where
    symbol : (i : ℕ) → i < stripe_symbols l → take l.symbol_bytes (drop (i * l.symbol_bytes) (take (stripe_bytes l) (drop (32 + s * stripe_bytes l) file))) ≡ image_of l file s i
    symbol i low =
        let next : suc i ≤ stripe_symbols l = omega arith in
        let fits : i * l.symbol_bytes + l.symbol_bytes ≤ stripe_bytes l = omega (arith, mul-le-mul_right l.symbol_bytes next, add-mul i 1 l.symbol_bytes) in
        slot l.symbol_bytes (i * l.symbol_bytes) (stripe_bytes l) (drop (32 + s * stripe_bytes l) file) fits
        ∙ ap (take l.symbol_bytes) (drop-drop (i * l.symbol_bytes) (32 + s * stripe_bytes l) file)
        ∙ ap (λ d. take l.symbol_bytes (drop d file)) (slot_place s (stripe_symbols l) i l.symbol_bytes)

module _ (l : Layout) (file part : List ℕ) (first count : ℕ) (is : part ≡ take (count * stripe_bytes l) (drop (32 + first * stripe_bytes l) file)) where
  -- a stripe of the part is one of the image
  part-stripe : (k : ℕ) → k < count → stripe_at l part k ≡ stripe_of l (image_of l file) (first + k)
  unfolding stripe_at
  part-stripe k here =
      let next : suc k ≤ count = omega arith in
      let fits : k * stripe_bytes l + stripe_bytes l ≤ count * stripe_bytes l = omega (arith, mul-le-mul_right (stripe_bytes l) next, add-mul k 1 (stripe_bytes l)) in
      let place : 32 + first * stripe_bytes l + k * stripe_bytes l ≡ 32 + (first + k) * stripe_bytes l = omega (arith, add-mul first k (stripe_bytes l)) in
      let bytes : take (stripe_bytes l) (drop (k * stripe_bytes l) part) ≡ take (stripe_bytes l) (drop (32 + (first + k) * stripe_bytes l) file) =
      ap (λ b. take (stripe_bytes l) (drop (k * stripe_bytes l) b)) is
      ∙ slot (stripe_bytes l) (k * stripe_bytes l) (count * stripe_bytes l) (drop (32 + first * stripe_bytes l) file) fits
      ∙ ap (take (stripe_bytes l)) (drop-drop (k * stripe_bytes l) (32 + first * stripe_bytes l) file)
      ∙ ap (λ d. take (stripe_bytes l) (drop d file)) place in
      ap (symbols_of (stripe_symbols l) l.symbol_bytes) bytes ∙ stripe-is l file (first + k)

  part-fault : (codes : List Code) (k : ℕ) → k < count → fault_of codes l first part k ≡ fault (code_at codes (first + k)) l.symbol_bytes (stripe_of l (image_of l file) (first + k))
  unfolding fault_of
  part-fault codes k here = ap (fault (code_at codes (first + k)) l.symbol_bytes) (part-stripe k here)

  module _ (fits : first + count ≤ l.stripes) (long : length file ≡ file_bytes l) (some : 0 < stripe_bytes l) where
    part-long : length part ≡ count * stripe_bytes l
    part-long = ap length is ∙ length-take-le (count * stripe_bytes l) (drop (32 + first * stripe_bytes l) file)
        (omega (arith, length-drop (32 + first * stripe_bytes l) file, long, mul-le-mul_right (stripe_bytes l) fits, add-mul first count (stripe_bytes l), mul_assoc l.stripes (stripe_symbols l) l.symbol_bytes))

    part-count : length part / stripe_bytes l ≡ count
    part-count = ap (λ n. n / stripe_bytes l) part-long ∙ mul-div_cancel count some

    -- the broken stripes of the part are those of the image there
    pub part-broken : (codes : List Code) → broken_in codes l first part ≡ flat_map (broken_stripe l (code_at codes) (image_of l file)) (range_with_len first count)
    unfolding broken_by
    part-broken codes =
        let all : length (faults_in codes l first part) ≡ count = length-map-range_with_len (fault_of codes l first part) 0 (length part / stripe_bytes l) ∙ part-count in
        ap (λ n. flat_map (λ k. broken_at (code_at codes (first + k)) (first + k) (get_or (faults_in codes l first part) k None)) (range_with_len 0 n)) all
        ∙ flat-same (λ k. broken_at (code_at codes (first + k)) (first + k) (get_or (faults_in codes l first part) k None)) (broken_stripe l (code_at codes) (image_of l file)) count 0 first
        (λ k low. ap (λ j. broken_at (code_at codes (first + j)) (first + j) (get_or (faults_in codes l first part) j None)) (zero-add k)
        ∙ ap (broken_at (code_at codes (first + k)) (first + k))
        (get_or-map-range_with_len (fault_of codes l first part) 0 (length part / stripe_bytes l) k k None (omega (arith, low, part-count)) (zero-add k) ∙ part-fault codes k low))

-- ---- the faults of several stripes

fault-low : (m : Code) (size : ℕ) (symbols : List (List ℕ)) → IfSome (fault m size symbols) (λ x. x < length (checks_of m))
unfolding fault
fault-low m size symbols = go (find_below (length (checks_of m)) (λ x. is_broken size symbols (get_or (checks_of m) x 0))) (find_below-finds (length (checks_of m)) (λ x. is_broken size symbols (get_or (checks_of m) x 0)))
  where
    go : (o : Option ℕ) → FindsBelow (length (checks_of m)) (λ x. is_broken size symbols (get_or (checks_of m) x 0)) o → IfSome o (λ x. x < length (checks_of m))
    go None h = tt
    go (Some x) h = h.in_range

pub are-faults : (codes : List Code) (l : Layout) (first : ℕ) (bytes : List ℕ) (faults : List (Option ℕ)) → faults ≡ faults_in codes l first bytes → AreFaults codes first faults
unfolding fault_of
are-faults codes l first bytes faults is = record {
  in_range = λ k low.
      let here : k < length bytes / stripe_bytes l = omega (arith, low, ap length is, length-map-range_with_len (fault_of codes l first bytes) 0 (length bytes / stripe_bytes l)) in
      subst (λ o. IfSome o (λ x. x < length (checks_of (code_at codes (first + k)))))
      (sym (ap (λ fs. get_or fs k None) is ∙ get_or-map-range_with_len (fault_of codes l first bytes) 0 (length bytes / stripe_bytes l) k k None here (zero-add k)))
      (fault-low (code_at codes (first + k)) l.symbol_bytes (stripe_at l bytes k));
}

-- the broken ones of the first n of several stripes are appended
abbrev pub AddsFaults : List Code → ℕ → List (Option ℕ) → ℕ → List Broken → List Broken → Type 0
AddsFaults codes first faults n old now =
    now ≡ old ++ flat_map (λ k. broken_at (code_at codes (first + k)) (first + k) (get_or faults k None)) (range_with_len 0 n)

module _ (codes : List Code) (first : ℕ) (faults : List (Option ℕ)) where
  broken_here : ℕ → List Broken
  broken_here k = broken_at (code_at codes (first + k)) (first + k) (get_or faults k None)

  pub adds-fault : (n : ℕ) (old now next : List Broken) (own : Code) (f : Option ℕ) → AddsFaults codes first faults n old now
      → own ≡ get_or codes ((first + n) % length codes) own → (first + n) % length codes < length codes → f ≡ get_or faults n None
      → next ≡ now ++ broken_at own (first + n) f → AddsFaults codes first faults (n + 1) old next
  unfolding broken_here
  adds-fault n old now next own f h here low is added =
      let code : own ≡ code_at codes (first + n) = here ∙ get_or_default codes ((first + n) % length codes) own no_code low in
      let last : flat_map broken_here (range_with_len (0 + n) 1) ≡ broken_here n = append-nil (broken_here (0 + n)) ∙ ap broken_here (zero-add n) in
      added ∙ (λ j. h j ++ broken_at (code j) (first + n) (is j))
      ∙ append_assoc old (flat_map broken_here (range_with_len 0 n)) (broken_here n)
      ∙ ap (λ xs. old ++ (flat_map broken_here (range_with_len 0 n) ++ xs)) (sym last)
      ∙ ap (λ xs. old ++ xs) (sym (flat-split broken_here n 1 0))

  pub adds-faults : (n : ℕ) (old now : List Broken) → AddsFaults codes first faults n old now → n ≡ length faults → now ≡ old ++ broken_by codes first faults
  unfolding broken_by
  adds-faults n old now h all = h ∙ ap (λ m. old ++ flat_map (λ k. broken_at (code_at codes (first + k)) (first + k) (get_or faults k None)) (range_with_len 0 m)) all

-- ---- the parts of an image

-- a stripe has some bytes
pub stripe-some : (l : Layout) → IsLayout l → 1 ≤ stripe_bytes l
stripe-some l is = mul-le-mul (mul-le-mul is.some_devices is.some_symbols) is.some_bytes

-- the stripes of a part have numbers of 32 bits
pub few-stripes : (l : Layout) (first long : ℕ) → IsLayout l → first * stripe_bytes l + long ≤ body_bytes l → first + long / stripe_bytes l < 2 ^ 32
few-stripes l first long is fits =
    let some : 1 ≤ stripe_bytes l = stripe-some l is in
    let whole : (first + long / stripe_bytes l) * stripe_bytes l ≤ body_bytes l = omega (arith, fits, add-mul first (long / stripe_bytes l) (stripe_bytes l), div-mul-le_self long (stripe_bytes l)) in
    let each : (first + long / stripe_bytes l) * 1 ≤ (first + long / stripe_bytes l) * stripe_bytes l = mul-le-mul (le-self (first + long / stripe_bytes l)) some in
    omega (arith, whole, each, is.few_in_all)
  where
    le-self : (n : ℕ) → n ≤ n
    le-self n = omega arith

-- so many stripes of a buffer that has room for them
pub part-size : (count width long : ℕ) (buffer : List ℕ) → length buffer ≡ long → count ≤ long / width → length (take (count * width) buffer) ≡ count * width
part-size count width long buffer e few = length-take-le (count * width) buffer (omega (arith, e, mul-le-mul_right width few, div-mul-le_self long width))

-- they stand within the image
pub part-within : (l : Layout) (first count : ℕ) → first + count ≤ l.stripes → first * stripe_bytes l + count * stripe_bytes l ≤ body_bytes l
part-within l first count fits = omega (arith, mul-le-mul_right (stripe_bytes l) fits, add-mul first count (stripe_bytes l), mul_assoc l.stripes (stripe_symbols l) l.symbol_bytes)

-- the broken stripes of those below n are found: their bytes are taken, and nothing else
pub record IsScrubbed (l : Layout) (codes : List Code) (n : ℕ) (old now : Sight) (before after : ℕ) (broken : List Broken) : Type 0 where
  pub found : ForSome old.bytes (λ bytes. broken ≡ flat_map (broken_stripe l (code_at codes) (image_of l bytes)) (range_with_len 0 n))
  pub taken : now ≡ sight_with old (n * stripe_bytes l)
  pub quiet : after ≡ before
  pub in_range : n ≤ l.stripes

module _ (l : Layout) (codes : List Code) (old : Sight) where
  -- a part more
  pub scrubbed-more : (n count long : ℕ) (now next : Sight) (before after last : ℕ) (broken more : List Broken) (part : List ℕ)
      → IsScrubbed l codes n old now before after broken → 1 ≤ stripe_bytes l → n + count ≤ l.stripes → IfSome old.bytes (λ bytes. length bytes ≡ file_bytes l) → long ≡ count * stripe_bytes l
      → IfSome now.bytes (λ bytes. part ≡ take long (drop (32 + n * stripe_bytes l) bytes)) → next ≡ sight_with now long → last ≡ after
      → more ≡ broken ++ broken_in codes l n part → IsScrubbed l codes (n + count) old next before last more
  scrubbed-more n count long now next before after last broken more part h some fits whole is_long read took quiet added = record {
    found = λ bytes told.
        let same : now.bytes ≡ Some bytes = (λ j. (h.taken j).bytes) ∙ told in
        let is : part ≡ take long (drop (32 + n * stripe_bytes l) bytes) = subst (λ o. IfSome o (λ b. part ≡ take long (drop (32 + n * stripe_bytes l) b))) same read in
        let file : length bytes ≡ file_bytes l = subst (λ o. IfSome o (λ b. length b ≡ file_bytes l)) told whole in
        added
        ∙ ap₂ (λ xs ys. xs ++ ys) (h.found bytes told)
        (part-broken l bytes part n count (is ∙ ap (λ w. take w (drop (32 + n * stripe_bytes l) bytes)) is_long) fits file some codes)
        ∙ sym (flat-split (broken_stripe l (code_at codes) (image_of l bytes)) n count 0 ∙ ap (λ a. flat_map (broken_stripe l (code_at codes) (image_of l bytes)) (range_with_len 0 n) ++ flat_map (broken_stripe l (code_at codes) (image_of l bytes)) (range_with_len a count)) (zero-add n));
    taken =
        let both : counted (counted old.taken (n * stripe_bytes l)) (count * stripe_bytes l) ≡ counted old.taken ((n + count) * stripe_bytes l) = omega (arith, add-mul n count (stripe_bytes l)) in
        took ∙ (λ j. sight_with (h.taken j) (is_long j)) ∙ (λ j. record old { taken = both j });
    quiet = quiet ∙ h.quiet;
    in_range = fits;
  }

  -- all stripes
  pub scrubbed-all : (n : ℕ) (now : Sight) (before after : ℕ) (broken : List Broken) → IsScrubbed l codes n old now before after broken → n ≡ l.stripes
      → IfSome old.bytes (λ bytes. broken ≡ broken_stripes l (code_at codes) (image_of l bytes))
  scrubbed-all n now before after broken h all = go old.bytes (λ bytes told. h.found bytes told ∙ ap (λ k. flat_map (broken_stripe l (code_at codes) (image_of l bytes)) (range_with_len 0 k)) all)
    where
      go : {P : List ℕ → Type 0} (o : Option (List ℕ)) → ForSome o P → IfSome o P
      go None each = tt
      go (Some x) each = each x refl

-- ---- the codes of the stripes

-- the code of one rotation more
pub turns-more : (l : Layout) (m : Code) (n : ℕ) (codes more : List Code) (code : Code) → codes ≡ map (codes_by l m) (range_with_len 0 n)
    → code ≡ codes_by l m n → more ≡ codes ++ code ∷ [] → more ≡ map (codes_by l m) (range_with_len 0 (n + 1))
turns-more l m n codes more code h is added =
    added ∙ (λ j. h j ++ is j ∷ []) ∙ sym (map-range_with_len_more (codes_by l m) 0 n n (zero-add n))

module _ (l : Layout) (m : Code) (is : IsMatrixCode m) (fits : FitsCode l m) where
  -- the codes of the rotations in use
  abbrev pub turns : List Code
  turns = map (codes_by l m) (range_with_len 0 (rotations l))

  count_of : length turns ≡ rotations l
  count_of = length-map-range_with_len (codes_by l m) 0 (rotations l)

  some_devices : 1 ≤ l.devices
  some_devices = omega (arith, fits.devices, is.shape.some_devices)

  pub turns-some : 0 < length turns
  turns-some = omega (arith, count_of, rotations-some l)

  pub turns-low : (r : ℕ) → r < rotations l → r < m.devices
  turns-low r low = omega (arith, low, rotations-few l some_devices, fits.devices)

  pub turns-shape : All (λ (k : Code). length k.rows ≡ stripe_symbols l) turns
  turns-shape = All-map (λ (k : Code). length k.rows ≡ stripe_symbols l) (codes_by l m) (range_with_len 0 (rotations l))
      (λ i d low. codes-count l m (get_or (range_with_len 0 (rotations l)) i d) is.shape.some_devices ∙ is.count ∙ (λ j. sym fits.devices j * sym fits.symbols j))

  turn-at : (s : ℕ) → s < l.stripes → code_at turns s ≡ codes_by l m s
  turn-at s low =
      ap (λ n. get_or turns (s % n) no_code) count_of
      ∙ get_or-map-range_with_len (codes_by l m) 0 (rotations l) (s % rotations l) (s % rotations l) no_code (mod-lt s (rotations-some l)) (zero-add (s % rotations l))
      ∙ sym (codes-at l m s some_devices fits.devices low)

  -- codes that take turns are those of the stripes
  pub turns-broken : (image : Image) → broken_stripes l (code_at turns) image ≡ broken_stripes l (codes_by l m) image
  turns-broken image = flat-same (broken_stripe l (code_at turns) image) (broken_stripe l (codes_by l m) image) l.stripes 0 0 (λ s low.
      let here : 0 + s < l.stripes = omega (arith, low) in
      ap (λ (k : Code). broken_at k (0 + s) (fault k l.symbol_bytes (stripe_of l image (0 + s)))) (turn-at (0 + s) here))

  pub turns-scrubbed : (codes : List Code) (o : Option (List ℕ)) (broken : List Broken) → codes ≡ turns
      → IfSome o (λ bytes. broken ≡ broken_stripes l (code_at codes) (image_of l bytes)) → IfSome o (λ bytes. broken ≡ broken_stripes l (codes_by l m) (image_of l bytes))
  turns-scrubbed codes o broken are h = IfSome_then o h (λ bytes e. e ∙ ap (λ ks. broken_stripes l (code_at ks) (image_of l bytes)) are ∙ turns-broken (image_of l bytes))

  -- ---- the law

  -- a stripe of the image has no fault exactly where it is a codeword
  pub tells-codeword : (bytes : List ℕ) → length bytes ≡ file_bytes l → All (λ b. b < 256) bytes → (s : ℕ) → s < l.stripes
      → IsNone (fault (codes_by l m s) l.symbol_bytes (stripe_of l (image_of l bytes) s)) ↔ IsCodeword (codes_by l m s) l.symbol_bytes (stripe_of l (image_of l bytes) s)
  tells-codeword bytes long small s here =
      subst (λ symbols. IsNone (fault (codes_by l m s) l.symbol_bytes symbols) ↔ IsCodeword (codes_by l m s) l.symbol_bytes symbols)
      ((λ j. symbols_of (rows j) l.symbol_bytes (take (stripe_bytes l) (drop (32 + s * stripe_bytes l) bytes))) ∙ stripe-is l bytes s)
      (fault-codeword (codes_by l m s) l.symbol_bytes (take (stripe_bytes l) (drop (32 + s * stripe_bytes l) bytes)) ((codes-of l m is fits).matrix s here)
      (whole ∙ ap (λ n. n * l.symbol_bytes) (sym rows)) each)
    where
      rows : length (codes_by l m s).rows ≡ stripe_symbols l
      rows = codes-count l m s is.shape.some_devices ∙ is.count ∙ (λ j. sym fits.devices j * sym fits.symbols j)

      whole : length (take (stripe_bytes l) (drop (32 + s * stripe_bytes l) bytes)) ≡ stripe_bytes l
      whole =
          let next : suc s ≤ l.stripes = omega arith in
          length-take-le (stripe_bytes l) (drop (32 + s * stripe_bytes l) bytes)
          (omega (arith, length-drop (32 + s * stripe_bytes l) bytes, long, mul-le-mul_right (stripe_bytes l) next, add-mul s 1 (stripe_bytes l), mul_assoc l.stripes (stripe_symbols l) l.symbol_bytes))

      each : (i : ℕ) → get_or (take (stripe_bytes l) (drop (32 + s * stripe_bytes l) bytes)) i 0 < 256
      each i = ⊎_elim
          (λ (low : i < length (take (stripe_bytes l) (drop (32 + s * stripe_bytes l) bytes))).
          All-take (λ b. b < 256) (stripe_bytes l) (drop (32 + s * stripe_bytes l) bytes) (All-drop (λ b. b < 256) (32 + s * stripe_bytes l) bytes small) i 0 low)
          (λ (high : length (take (stripe_bytes l) (drop (32 + s * stripe_bytes l) bytes)) ≤ i).
          subst (λ v. v < 256) (sym (get_or_past (take (stripe_bytes l) (drop (32 + s * stripe_bytes l) bytes)) i 0 high)) (omega arith))
          (cases_lt i (length (take (stripe_bytes l) (drop (32 + s * stripe_bytes l) bytes))))

pub tells-codewords : (l : Layout) → TellsCodewords l
tells-codewords l = record { stripes = λ m bytes is fits long small s here. tells-codeword l m is fits bytes long small s here }
