-- The right words and the bytes that they are made of.
use Rattle.std.proofs.Common.{◌≡◌, ℕ, zero, suc, ◌+◌, ◌-◌, ◌*◌, ◌^◌, ◌<◌, Bool, true, false, List, [], ◌∷◌, ◌++◌, Option, Some, None, IfSome, take, drop, map, flat_map, length, get_or, sym, refl, ap, subst, ◌∙◌, arith, eq-eqb, zero-add, zero-mul, suc-mul}
use Rattle.std.specs.Prelude.{nat_lt, ◌==◌, ◌&&◌, if◌then◌else◌}
use Rattle.std.specs.Int.{w64, to_le_bytes, from_le_bytes}
use Rattle.std.specs.List.{list_all, range_with_len}
use Rattle.std.proofs.lemmas.Bool.Decides.{nat_tests}
use Rattle.std.proofs.lemmas.List.{length-append, length-take-le, length-drop, take_at, drop_at, drop-drop, get_or-take, get_or-drop, get_or-map}
use Rattle.std.proofs.lemmas.List.FromFn.{get_or-range_with_len, length-range_with_len, length-map-range_with_len, get_or-map-range_with_len}
use Rattle.std.proofs.lemmas.Nat.{le_bytes_8}
use Rattle.mr_model.specs.Plans.{Recipe}
use Rattle.mr_image.specs.Images.{Layout, Image, image_of, mended, rebuilt, equation_of, stripe_of}
use Rattle.mr_image.proofs.SymbolLaws.{length-xor_symbols}
use Rattle.mr_plan.specs.Plans.{PlanParts}
use Rattle.mr_plan.specs.PlanLists.{ArePlans, recipes_at, symbols_of}
use Rattle.mr_plan.proofs.PlanListLaws.{symbols-at, count-at}
use Rattle.mr_board.specs.Terms.{stripe_words, symbol_words}
use Rattle.mr_board.specs.Rights.{lost_bytes, word_of, word_in, rights_of, terms_for, IsRight}
use Rattle.mr_board.proofs.Numbers.{stripe-before}

-- ---- the word of eight bytes

tested : (b : ℕ) (rest : Bool) → (nat_lt b 256 && rest) ≡ true → (b < 256) × (rest ≡ true)
tested b true e = (grind (arith, nat_tests), refl)
tested b false e = grind (arith, nat_tests)

below_all : (bytes : List ℕ) → list_all (λ b. nat_lt b 256) bytes ≡ true → (k : ℕ) → get_or bytes k 0 < 256
below_all [] e k = omega arith
below_all (b ∷ bs) e zero = (tested b (list_all (λ b. nat_lt b 256) bs) e).0
below_all (b ∷ bs) e (suc k) = below_all bs (tested b (list_all (λ b. nat_lt b 256) bs) e).1 k

test_of : (b : ℕ) (rest : Bool) → b < 256 → rest ≡ true → (nat_lt b 256 && rest) ≡ true
test_of b true low e = grind (arith, nat_tests)
test_of b false low e = absurd (cc)

all_below : (bytes : List ℕ) → ((k : ℕ) → get_or bytes k 0 < 256) → list_all (λ b. nat_lt b 256) bytes ≡ true
all_below [] low = refl
all_below (b ∷ bs) low = test_of b (list_all (λ b. nat_lt b 256) bs) (low 0) (all_below bs (λ k. low (suc k)))

-- bytes have the word that they spell
pub word_of-bytes : (bytes : List ℕ) → ((k : ℕ) → get_or bytes k 0 < 256) → word_of bytes ≡ from_le_bytes w64 bytes
unfolding word_of
word_of-bytes bytes low = ap (λ (t : Bool). if t then from_le_bytes w64 bytes else 2 ^ 64) (all_below bytes low)

-- and a word has the bytes that it is the word of
pub word_of-spells : (bytes : List ℕ) (word : ℕ) → length bytes ≡ 8 → word < 2 ^ 64 → word_of bytes ≡ word → to_le_bytes w64 word ≡ bytes
unfolding word_of
word_of-spells bytes word size low is = go (list_all (λ b. nat_lt b 256) bytes) refl is
  where
    go : (t : Bool) → list_all (λ b. nat_lt b 256) bytes ≡ t → (if t then from_le_bytes w64 bytes else 2 ^ 64) ≡ word → to_le_bytes w64 word ≡ bytes
    go true e same = le_bytes_8 bytes word size (below_all bytes e) (sym same)
    go false e same = absurd (omega (arith, same, low))

-- ---- pieces of one size

module _ {X : Type 0} (f : X → List ℕ) (m : ℕ) where
  -- each piece has this size
  pub AreOfSize : List X → Type 0
  AreOfSize xs = (k : ℕ) (d : X) → k < length xs → length (f (get_or xs k d)) ≡ m

  pub length-pieces : (xs : List X) → AreOfSize xs → length (flat_map f xs) ≡ length xs * m
  unfolding AreOfSize
  length-pieces [] sizes = sym (zero-mul m)
  length-pieces (x ∷ xs) sizes = length-append (f x) (flat_map f xs)
      ∙ omega (arith, sizes 0 x (omega arith), length-pieces xs (λ k d low. sizes (suc k) d (omega (arith, low))), suc-mul (length xs) m)

  pub piece-at : (xs : List X) (k : ℕ) (d : X) → AreOfSize xs → k < length xs → take m (drop (k * m) (flat_map f xs)) ≡ f (get_or xs k d)
  unfolding AreOfSize
  piece-at [] k d sizes low = absurd (omega (arith, low))
  piece-at (x ∷ xs) zero d sizes low =
      ap (λ n. take m (drop n (f x ++ flat_map f xs))) (zero-mul m) ∙ take_at (f x) (flat_map f xs) m (sizes 0 x (omega arith))
  piece-at (x ∷ xs) (suc k) d sizes low =
      let next : suc k * m ≡ m + k * m = omega (arith, suc-mul k m) in
      ap (λ n. take m (drop n (f x ++ flat_map f xs))) next
      ∙ ap (take m) (sym (drop-drop (k * m) m (f x ++ flat_map f xs)))
      ∙ ap (λ ys. take m (drop (k * m) ys)) (drop_at (f x) (flat_map f xs) m (sizes 0 x (omega arith)))
      ∙ piece-at xs k d (λ j e lower. sizes (suc j) e (omega (arith, lower))) (omega (arith, low))

pub eight-times : (a b : ℕ) → a * (8 * b) ≡ 8 * (a * b)
eight-times zero b = omega (arith, zero-mul (8 * b), zero-mul b)
eight-times (suc a) b = suc-mul a (8 * b) ∙ omega (arith, eight-times a b, suc-mul a b)

-- ---- the rebuilt symbols of a stripe

-- each recipe's symbol has an equation
equation-here : (rs : List Recipe) (k : ℕ) (d : Recipe) → k < length rs → (e : ℕ) × (equation_of rs (get_or rs k d).symbol ≡ Some e)
unfolding equation_of
equation-here [] k d low = absurd (omega (arith, low))
equation-here (r ∷ rs) zero d low = (
  r.equation,
  ap (λ (t : Bool). if t then Some r.equation else equation_of rs r.symbol) (eq-eqb r.symbol r.symbol refl),
)
equation-here (r ∷ rs) (suc k) d low = go (r.symbol == (get_or rs k d).symbol) (equation-here rs k d (omega (arith, low)))
  where
    go : (t : Bool) → (e : ℕ) × (equation_of rs (get_or rs k d).symbol ≡ Some e)
        → (e : ℕ) × ((if t then Some r.equation else equation_of rs (get_or rs k d).symbol) ≡ Some e)
    go true there = (r.equation, refl)
    go false there = there

module _ (l : Layout) (plans : List PlanParts) (image : Image) (s : ℕ) where
  abbrev symbol_of : Recipe → List ℕ
  symbol_of r = mended l (recipes_at plans) image s r.symbol

  abbrev lost : List ℕ
  lost = lost_bytes l (recipes_at plans) image s

  length-symbol : (i e : ℕ) → equation_of (recipes_at plans s) i ≡ Some e → length (mended l (recipes_at plans) image s i) ≡ l.symbol_bytes
  unfolding mended
  length-symbol i e is = ap (λ (o : Option ℕ). length (rebuilt l.symbol_bytes (stripe_of l image s) (image s i) o)) is
      ∙ length-xor_symbols l.symbol_bytes (stripe_of l image s) e

  symbols-sized : AreOfSize symbol_of l.symbol_bytes (recipes_at plans s)
  unfolding AreOfSize
  symbols-sized k d low = let e = equation-here (recipes_at plans s) k d low in length-symbol (get_or (recipes_at plans s) k d).symbol e.0 e.1

  -- they have the words of a stripe
  pub length-lost : ArePlans plans → 8 * symbol_words l ≡ l.symbol_bytes → length lost ≡ 8 * stripe_words l plans
  unfolding stripe_words
  length-lost are whole = length-pieces symbol_of l.symbol_bytes (recipes_at plans s) symbols-sized
      ∙ ap (λ n. n * l.symbol_bytes) (count-at plans s 0 are)
      ∙ ap (λ n. length (recipes_at plans 0) * n) (sym whole)
      ∙ eight-times (length (recipes_at plans 0)) (symbol_words l)

  -- the symbol of a level
  pub lost-level : (p : ℕ) → ArePlans plans → p < length (recipes_at plans 0)
      → take l.symbol_bytes (drop (p * l.symbol_bytes) lost)
      ≡ mended l (recipes_at plans) image s (get_or (symbols_of (recipes_at plans 0)) p 0)
  lost-level p are low =
      let d : Recipe = record { symbol = 0; equation = 0 } in
      let here : p < length (recipes_at plans s) = omega (arith, low, count-at plans s 0 are) in
      piece-at symbol_of l.symbol_bytes (recipes_at plans s) p d symbols-sized here
      ∙ ap (mended l (recipes_at plans) image s)
      (sym (get_or-map (λ (r : Recipe). r.symbol) (recipes_at plans s) p d 0 here) ∙ ap (λ (ns : List ℕ). get_or ns p 0) (symbols-at plans s 0 are))

-- ---- the list of right words

module _ (l : Layout) (plans : List PlanParts) (bytes : List ℕ) where
  abbrev lost_of : ℕ → List ℕ
  lost_of s = lost_bytes l (recipes_at plans) (image_of l bytes) s

  abbrev words_in : ℕ → List ℕ
  words_in s = map (word_in (lost_of s)) (range_with_len 0 (stripe_words l plans))

  stripes-sized : AreOfSize words_in (stripe_words l plans) (range_with_len 0 l.stripes)
  unfolding AreOfSize
  stripes-sized k d low = length-map-range_with_len (word_in (lost_of (get_or (range_with_len 0 l.stripes) k d))) 0 (stripe_words l plans)

  -- word i of stripe s
  pub rights-at : (s i : ℕ) → s < l.stripes → i < stripe_words l plans
      → get_or (rights_of l plans (Some bytes)) (s * stripe_words l plans + i) 0 ≡ word_in (lost_of s) i
  unfolding rights_of
  rights-at s i low inside =
      let W : ℕ = stripe_words l plans in
      let all : List ℕ = flat_map words_in (range_with_len 0 l.stripes) in
      sym (get_or-drop (s * W) all i 0)
      ∙ sym (get_or-take W (drop (s * W) all) i 0 inside)
      ∙ ap (λ (ws : List ℕ). get_or ws i 0) (piece-at words_in W (range_with_len 0 l.stripes) s 0 stripes-sized (omega (arith, low, length-range_with_len 0 l.stripes)))
      ∙ ap (λ t. get_or (words_in t) i 0) (get_or-range_with_len 0 l.stripes s 0 low ∙ zero-add s)
      ∙ get_or-map-range_with_len (word_in (lost_of s)) 0 W i i 0 inside (omega arith)

  -- some word is told where a stripe has one
  pub rights-some : (s i : ℕ) → s < l.stripes → i < stripe_words l plans → 0 < length (rights_of l plans (Some bytes))
  unfolding rights_of
  rights-some s i low inside =
      let W : ℕ = stripe_words l plans in
      let all : length (flat_map words_in (range_with_len 0 l.stripes)) ≡ length (range_with_len 0 l.stripes) * W = length-pieces words_in W (range_with_len 0 l.stripes) stripes-sized in
      let size : length (range_with_len 0 l.stripes) * W ≡ l.stripes * W = ap (λ n. n * W) (length-range_with_len 0 l.stripes) in
      omega (arith, all, size, stripe-before s l.stripes W low, inside)

  -- a right word spells the eight bytes there
  pub right-spells : (s i word : ℕ) → ArePlans plans → 8 * symbol_words l ≡ l.symbol_bytes → s < l.stripes → i < stripe_words l plans → word < 2 ^ 64
      → IsRight (terms_for l plans (Some bytes)) s i word → to_le_bytes w64 word ≡ take 8 (drop (8 * i) (lost_of s))
  right-spells s i word are whole low inside fits right =
      let eight : List ℕ = take 8 (drop (8 * i) (lost_of s)) in
      let room : length (drop (8 * i) (lost_of s)) ≡ length (lost_of s) - 8 * i = length-drop (8 * i) (lost_of s) in
      let size : length eight ≡ 8 = length-take-le 8 (drop (8 * i) (lost_of s)) (omega (arith, room, length-lost l plans (image_of l bytes) s are whole, inside)) in
      word_of-spells eight word size fits (sym (rights-at s i low inside) ∙ right (rights-some s i low inside))

-- the words of the rebuilt symbols are right
pub right-told : (l : Layout) (plans : List PlanParts) (told : Option (List ℕ)) (s i : ℕ) (lost : List ℕ)
    → IfSome told (λ bytes. lost ≡ lost_bytes l (recipes_at plans) (image_of l bytes) s)
    → ((k : ℕ) → get_or lost k 0 < 256) → s < l.stripes → i < stripe_words l plans
    → IsRight (terms_for l plans told) s i (from_le_bytes w64 (take 8 (drop (8 * i) lost)))
unfolding rights_of
right-told l plans None s i lost h low inner inside some_told = absurd (omega (arith, some_told))
right-told l plans (Some bytes) s i lost h low inner inside some_told =
    rights-at l plans bytes s i inner inside
    ∙ ap (λ (bs : List ℕ). word_in bs i) (sym h)
    ∙ word_of-bytes (take 8 (drop (8 * i) lost)) (taken (drop (8 * i) lost) 8 (λ k. subst (λ n. n < 256) (sym (get_or-drop (8 * i) lost k 0)) (low (8 * i + k))))
  where
    taken : (xs : List ℕ) (n : ℕ) → ((k : ℕ) → get_or xs k 0 < 256) → (k : ℕ) → get_or (take n xs) k 0 < 256
    taken [] zero below k = omega arith
    taken [] (suc n) below k = omega arith
    taken (x ∷ xs) zero below k = omega arith
    taken (x ∷ xs) (suc n) below zero = below 0
    taken (x ∷ xs) (suc n) below (suc k) = taken xs n (λ j. below (suc j)) k
