-- The grammar takes words with one number of places at most: the number of the words that are places.
use Rattle.std.proofs.Common.{◌≡◌, ◌∙◌, ◌+◌, ◌-◌, ◌<◌, ◌≤◌, ◌&&◌, ℕ, Bool, true, false, zero, suc, cond, nat_le, List, [], ◌∷◌, ◌++◌, length, find, is_some, Option, Some, None, refl, sym, ap, arith, inl, inr, decimal, codes}
use Rattle.std.specs.List.{range_with_len}
use Rattle.std.proofs.lemmas.Bool.{and_from, and_parts, both_ways, cases_lt, le-leb, leb-true}
use Rattle.std.proofs.lemmas.List.FromFn.{length-map-range_with_len}
use Rattle.mr_words.specs.Grammar.{Given, Reading, Syntax, Text, Word, at_end, dashes, give, text_in, given_at_end, given_of, has_name, is_among, next_place, nothing_read, option, plain, read_free, read_from, read_next, read_value, read_word, strange, word_of, ◌>>=◌}
use Rattle.mr_array_words.specs.Counting.{behind, count_between, is_place, is_plain, places_from, turn_after}
use Rattle.mr_array_words.specs.Devices.{asked_with, count_in, device_names}
use Rattle.mr_array_words.specs.declared.counting.TheConstants.{DEVICE_LIMIT}
use Rattle.mr_array_words.specs.declared.counting.Turn.{Turn}
use Rattle.mr_array_words.specs.declared.counting.Turn.TheVariants.{Any, Place, Value}

-- what the next word may be, by where the reading stands
abbrev turn_by : Bool → Option Text → Turn
turn_by true wants = Place
turn_by false (Some name) = Value
turn_by false None = Any

abbrev turn_of : Reading → Turn
turn_of r = turn_by r.is_past r.wants

some_same : {X : Type 0} {x y : X} → ◌≡◌ {A = Option X} (Some x) (Some y) → x ≡ y
some_same e = cc

-- a name that is given
record Gave (r after : Reading) : Type 0 where
  pub left : after.left ≡ r.left
  pub wants : after.wants ≡ None
  pub past : after.is_past ≡ r.is_past

gave : (name text : Text) (r after : Reading) → give name text r ≡ Some after → Gave r after
gave name text r after = go (has_name name r.given)
  where
    go : (b : Bool) → cond b None (Some (record r { given = r.given ++ (name, text) ∷ []; wants = None })) ≡ Some after → Gave r after
    go true e = cc
    go false e = let same : record r { given = r.given ++ (name, text) ∷ []; wants = None } ≡ after = some_same e in record {
      left = sym (ap (λ (x : Reading). x.left) same);
      wants = sym (ap (λ (x : Reading). x.wants) same);
      past = sym (ap (λ (x : Reading). x.is_past) same);
    }

-- a word that goes to the next place
record Placed (left : List Text) (r after : Reading) : Type 0 where
  pub left_are : length left ≡ 1 + length after.left
  pub wants : after.wants ≡ None
  pub past : after.is_past ≡ r.is_past

placed : (word : Text) (left : List Text) (r after : Reading) → next_place left word r ≡ Some after → Placed left r after
placed word [] r after e = cc
placed word (name ∷ left) r after e = let g = gave name word (record r { left = left }) after e in
    record { left_are = (let same : length after.left ≡ length left = ap length g.left in omega (arith, same)); wants = g.wants; past = g.past }

unplaced : (r after : Reading) → length r.left ≡ length after.left → length r.left ≡ 0 + length after.left
unplaced r after e = omega (arith, e)

-- what one word does to the places that are to come, and to what the next word may be
abbrev Steps : Turn → Text → Reading → Reading → Type 0
Steps turn word r after = (length r.left ≡ cond (is_place turn word) 1 0 + length after.left) × (turn_of after ≡ turn_after turn word)

module _ (s : Syntax) (no_flags : (name : Text) → is_among name s.flags ≡ false) where
  module _ (word : Text) (r after : Reading) where
    as_value : (name : Text) → r.is_past ≡ false → (w : Word) → read_value name word w r ≡ Some after → Steps Value word r after
    as_value name past plain e = let g = gave name word r after e in
        (unplaced r after (ap length (sym g.left)), (λ i. turn_by ((g.past ∙ past) i) (g.wants i)))
    as_value name past dashes e = cc
    as_value name past (option n v) e = cc
    as_value name past strange e = cc

    with_value : (name value : Text) → r.is_past ≡ false → (b : Bool) → cond b (give name value r) None ≡ Some after
        → (length r.left ≡ length after.left) × (turn_of after ≡ Any)
    with_value name value past true e = let g = gave name value r after e in
        (ap length (sym g.left), (λ i. turn_by ((g.past ∙ past) i) (g.wants i)))
    with_value name value past false e = cc

    no_flag : (b : Bool) (given : Option Reading) → b ≡ false → cond b given None ≡ Some after → ⊥
    no_flag true given f e = cc
    no_flag false given f e = cc

    without_value : (name : Text) (flag : Option Reading) → r.is_past ≡ false → (b : Bool)
        → cond b (Some (record r { wants = Some name })) (cond (is_among name s.flags) flag None) ≡ Some after
        → (length r.left ≡ length after.left) × (turn_of after ≡ Value)
    without_value name flag past true e = let same : record r { wants = Some name } ≡ after = some_same e in
        (ap (λ (x : Reading). length x.left) same, ap turn_of (sym same) ∙ ap (λ b. turn_by b (Some name)) past)
    without_value name flag past false e = absurd (no_flag (is_among name s.flags) flag (no_flags name) e)

    as_free : r.is_past ≡ false → (w : Word) → read_free s word w r ≡ Some after
        → (length r.left ≡ cond (is_plain w) 1 0 + length after.left) × (turn_of after ≡ behind w)
    as_free past dashes e = let same : record r { is_past = true } ≡ after = some_same e in
        (unplaced r after (ap (λ (x : Reading). length x.left) same), ap turn_of (sym same))
    as_free past (option name (Some value)) e = let p = with_value name value past (is_among name s.valued) e in (unplaced r after p.0, p.1)
    as_free past (option name None) e = let p = without_value name (give name (codes "true") r) past (is_among name s.valued) e in (unplaced r after p.0, p.1)
    as_free past strange e = cc
    as_free past plain e = let p = placed word r.left r after e in
        (p.left_are, (λ i. turn_by ((p.past ∙ past) i) (p.wants i)))

    by_turn : (past : Bool) (wants : Option Text) → r.is_past ≡ past → read_word s word past wants r ≡ Some after
        → Steps (turn_by past wants) word r after
    by_turn true wants past e = let p = placed word r.left r after e in
        (p.left_are, ap (λ b. turn_by b after.wants) (p.past ∙ past))
    by_turn false (Some name) past e = as_value name past (word_of word) e
    by_turn false None past e = as_free past (word_of word) e

  -- the places that are to come are so many as the words that are places, and those that are left at the end
  counted : (words : List Text) (r end : Reading) → read_from s words r ≡ Some end
      → length r.left ≡ places_from (turn_of r) words + length end.left
  unfolding read_from places_from
  counted [] r end e = unplaced r end (ap (λ (x : Reading). length x.left) (some_same e))
  counted (word ∷ words) r end e = go (read_next s r word) refl e (λ next is. counted words next end is)
    where
      go : (o : Option Reading) → read_next s r word ≡ o → (o >>= read_from s words) ≡ Some end
          → ((next : Reading) → read_from s words next ≡ Some end → length next.left ≡ places_from (turn_of next) words + length end.left)
          → length r.left ≡ (cond (is_place (turn_of r) word) 1 0 + places_from (turn_after (turn_of r) word) words) + length end.left
      go None is e rest = cc
      go (Some next) is e rest =
          let p = by_turn word r next r.is_past r.wants refl is in
          let more : length next.left ≡ places_from (turn_after (turn_of r) word) words + length end.left = rest next e
          ∙ ap (λ t. places_from t words + length end.left) p.1 in
          omega (arith, p.0, more)

  none_at_end : (wants : Option Text) (left : List Text) (given : Given) (all : Given) → at_end wants left all ≡ Some given → length left ≡ 0
  none_at_end None [] given all e = refl
  none_at_end None (x ∷ xs) given all e = cc
  none_at_end (Some w) [] given all e = cc
  none_at_end (Some w) (x ∷ xs) given all e = cc

  pub places_are : (words : List Text) (given : Given) → given_of s words ≡ Some given → places_from Any words ≡ length s.places
  places_are words given = go (read_from s words (nothing_read s)) refl
    where
      go : (o : Option Reading) → read_from s words (nothing_read s) ≡ o → (o >>= given_at_end) ≡ Some given → places_from Any words ≡ length s.places
      go None is e = cc
      go (Some end) is e = omega (arith, counted words (nothing_read s) end is, none_at_end end.wants end.left given end.given e)

-- ---- the number of devices

module _ (syntax : List Text → Syntax) (before : ℕ) (long : (names : List Text) → length (syntax names).places ≡ before + length names)
    (no_flags : (names : List Text) (name : Text) → is_among name (syntax names).flags ≡ false) (words : List Text) where
  -- the grammar takes the words with so many devices
  abbrev takes : ℕ → Bool
  takes count = is_some (given_of (syntax (device_names count)) words)

  pub count_is : (count : ℕ) → takes count ≡ true → places_from Any words ≡ before + count
  count_is count e = go (given_of (syntax (device_names count)) words) refl e
    where
      go : (o : Option Given) → given_of (syntax (device_names count)) words ≡ o → is_some o ≡ true → places_from Any words ≡ before + count
      go None is e = cc
      go (Some given) is e = places_are (syntax (device_names count)) (no_flags (device_names count)) words given is
          ∙ long (device_names count) ∙ ap (λ n. before + n) (length-map-range_with_len decimal 0 count)

  -- it takes them with one number of devices at most
  pub only_one : (j k : ℕ) → takes j ≡ true → takes k ≡ true → j ≡ k
  only_one j k e f = omega (arith, count_is j e, count_is k f)

  none_taken : (least numbers : ℕ) → ((j : ℕ) → least ≤ j → j < least + numbers → takes j ≡ false) → find takes (range_with_len least numbers) ≡ None
  none_taken least zero h = refl
  none_taken least (suc n) h = ap (λ b. cond b (Some least) (find takes (range_with_len (least + 1) n))) (h least (omega arith) (omega arith))
      ∙ none_taken (least + 1) n (λ j low high. h j (omega (arith, low)) (omega (arith, high)))

  one_taken : (least numbers count : ℕ) → least ≤ count → count < least + numbers → ((j : ℕ) → takes j ≡ true → j ≡ count) → takes count ≡ true
      → find takes (range_with_len least numbers) ≡ Some count
  one_taken least zero count low high only is = absurd (omega (arith, low, high))
  one_taken least (suc n) count low high only is = go (takes least) refl (λ past. one_taken (least + 1) n count past (omega (arith, high)) only is)
    where
      go : (b : Bool) → takes least ≡ b → (least + 1 ≤ count → find takes (range_with_len (least + 1) n) ≡ Some count)
          → cond b (Some least) (find takes (range_with_len (least + 1) n)) ≡ Some count
      go true e rest = ap Some (only least e)
      go false e rest = elim (cases_lt least count) [
        | inl past ↦ rest (omega (arith, past))
        | inr here ↦ let same : count ≡ least = omega (arith, here, low) in absurd (both_ways _ e (sym (ap takes same) ∙ is))
      ]

  module _ {X : Type 0} (from : List Text → (Text → Option Text) → Option X) (least numbers : ℕ) (limit : least + numbers ≡ DEVICE_LIMIT + 1) where
    abbrev asked : Option X
    asked = count_in syntax least numbers words >>= (λ count. asked_with syntax from count words)

    abbrev fits : Bool
    fits = nat_le (before + least) (places_from Any words) && nat_le (places_from Any words) (before + DEVICE_LIMIT)

    within : (j : ℕ) → takes j ≡ true → least ≤ j → j < least + numbers → fits ≡ true
    within j e low high = let is = count_is j e in
        and_from _ _ (le-leb (before + least) (places_from Any words) (omega (arith, is, low)))
        (le-leb (places_from Any words) (before + DEVICE_LIMIT) (omega (arith, is, high, limit)))

    pub none_between : count_between before least (places_from Any words) ≡ None → asked ≡ None
    none_between e = go fits refl e
      where
        not_taken : fits ≡ false → (j : ℕ) → least ≤ j → j < least + numbers → takes j ≡ false
        not_taken unfit j low high = by (takes j) refl
          where
            by : (b : Bool) → takes j ≡ b → b ≡ false
            by true t = absurd (both_ways _ unfit (within j t low high))
            by false t = refl

        go : (b : Bool) → fits ≡ b → cond b (Some (places_from Any words - before)) None ≡ None → asked ≡ None
        go true is e = cc
        go false is e = ap (λ o. o >>= (λ count. asked_with syntax from count words)) (none_taken least numbers (not_taken is))

    pub one_between : (count : ℕ) → count_between before least (places_from Any words) ≡ Some count → asked ≡ asked_with syntax from count words
    one_between count e = go fits refl e
      where
        only : (j : ℕ) → places_from Any words - before ≡ count → before ≤ places_from Any words → takes j ≡ true → j ≡ count
        only j is enough t = omega (arith, count_is j t, is, enough)

        parts : fits ≡ true → (nat_le (before + least) (places_from Any words) ≡ true) × (nat_le (places_from Any words) (before + DEVICE_LIMIT) ≡ true)
        parts f = and_parts (nat_le (before + least) (places_from Any words)) (nat_le (places_from Any words) (before + DEVICE_LIMIT)) f

        low : fits ≡ true → before ≤ places_from Any words
        low f = let enough : before + least ≤ places_from Any words = leb-true (before + least) (places_from Any words) (parts f).0 in omega (arith, enough)

        taken : (o : Option Given) → given_of (syntax (device_names count)) words ≡ o → fits ≡ true → places_from Any words - before ≡ count
            → asked ≡ asked_with syntax from count words
        taken None o f is =
            let none : (j : ℕ) → takes j ≡ true → ⊥ = λ j t.
            let there : takes count ≡ true = sym (ap takes (only j is (low f) t)) ∙ t in
            both_ways (takes count) (ap is_some o) there in
            ap (λ v. v >>= (λ n. asked_with syntax from n words)) (none_taken least numbers (λ j l h. by j (takes j) refl none))
            ∙ sym (ap (λ v. v >>= (λ given. from (device_names count) (text_in given))) o)
          where
            by : (j : ℕ) (b : Bool) → takes j ≡ b → ((k : ℕ) → takes k ≡ true → ⊥) → b ≡ false
            by j true t none = absurd (none j t)
            by j false t none = refl
        taken (Some given) o f is =
            let there : takes count ≡ true = ap is_some o in
            let enough : before + least ≤ places_from Any words = leb-true (before + least) (places_from Any words) (parts f).0 in
            let few : places_from Any words ≤ before + DEVICE_LIMIT = leb-true (places_from Any words) (before + DEVICE_LIMIT) (parts f).1 in
            ap (λ v. v >>= (λ n. asked_with syntax from n words))
            (one_taken least numbers count (omega (arith, enough, is)) (omega (arith, enough, few, is, limit)) (λ j t. only j is (low f) t) there)

        go : (b : Bool) → fits ≡ b → cond b (Some (places_from Any words - before)) None ≡ Some count → asked ≡ asked_with syntax from count words
        go true is e = taken (given_of (syntax (device_names count)) words) refl is (some_same e)
        go false is e = cc
