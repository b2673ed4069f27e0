-- Numbers strictly upwards, read a part at a time with the least that the next may be.
use Rattle.std.proofs.Common.{◌≡◌, ◌∙◌, ◌+◌, ◌≤◌, ◌<◌, ◌&&◌, ℕ, Bool, true, false, cond, suc, nat_le, nat_lt, List, [], ◌∷◌, map, drop, length, Some, None, refl, sym, ap, arith}
use Rattle.std.specs.List.{list_all, slice_index_or}
use Rattle.std.specs.Str.Parse.{digits_value}
use Rattle.std.proofs.lemmas.Bool.{and_from, and_left, and_parts, and_right, le-leb, leb-true, lt-leb, ltb-true}
use Rattle.std.proofs.lemmas.List.{at_drop_all, at_drop_more}
use Rattle.mr_text.specs.Numbers.{is_number, number_of}
use Rattle.mr_words.specs.Grammar.{Text}
use Rattle.mr_words.specs.Lost.{are_upwards, is_upwards, part_numbers, parts}

-- the parts are numbers, each above the one before it, the first at least `least`
abbrev pub rises_from : ℕ → List Text → Bool
rises_from least [] = true
rises_from least (p ∷ ps) = is_number p && (nat_le least (digits_value 10 p) && rises_from (digits_value 10 p + 1) ps)

same_test : (a b : Bool) → (a ≡ true → b ≡ true) → (b ≡ true → a ≡ true) → a ≡ b
same_test true true f g = refl
same_test true false f g = sym (f refl)
same_test false true f g = g refl
same_test false false f g = refl

-- what rises from v + 1 is above v, and from v on is from any lower number on
above_next : (v : ℕ) (ns : List ℕ) → list_all (nat_le (v + 1)) ns ≡ list_all (nat_lt v) ns
above_next v ns = let e : v + 1 ≡ suc v = omega arith in ap (λ k. list_all (nat_le k) ns) e

lower : (k v : ℕ) (ns : List ℕ) → k ≤ v → list_all (nat_lt v) ns ≡ true → list_all (nat_le k) ns ≡ true
lower k v [] le h = refl
lower k v (n ∷ ns) le h = let p = and_parts _ _ h in
    let lt : v < n = ltb-true v n p.0 in
    and_from _ _ (le-leb k n (omega arith)) (lower k v ns le p.1)

record Rises (least : ℕ) (ps : List Text) : Type 0 where
  numbers : list_all is_number ps ≡ true
  above : list_all (nat_le least) (map (digits_value 10) ps) ≡ true
  upwards : is_upwards (map (digits_value 10) ps) ≡ true

rises : (least : ℕ) (ps : List Text) → rises_from least ps ≡ true → Rises least ps
rises least [] h = record { numbers = refl; above = refl; upwards = refl }
rises least (p ∷ ps) h =
    let a = and_parts (is_number p) _ h in
    let b = and_parts (nat_le least (digits_value 10 p)) _ a.1 in
    let r = rises (digits_value 10 p + 1) ps b.1 in
    let over : list_all (nat_lt (digits_value 10 p)) (map (digits_value 10) ps) ≡ true = sym (above_next (digits_value 10 p) (map (digits_value 10) ps)) ∙ r.above in
    record {
      numbers = and_from _ _ a.0 r.numbers;
      above = and_from _ _ b.0 (lower least (digits_value 10 p) (map (digits_value 10) ps) (leb-true _ _ b.0) over);
      upwards = and_from _ _ over r.upwards;
    }

risen : (least : ℕ) (ps : List Text) → Rises least ps → rises_from least ps ≡ true
risen least [] r = refl
risen least (p ∷ ps) r =
    let a = and_parts (is_number p) _ r.numbers in
    let b = and_parts (nat_le least (digits_value 10 p)) _ r.above in
    let u = and_parts (list_all (nat_lt (digits_value 10 p)) (map (digits_value 10) ps)) _ r.upwards in
    and_from _ _ a.0 (and_from _ _ b.0 (risen (digits_value 10 p + 1) ps
    (record { numbers = a.1; above = above_next (digits_value 10 p) (map (digits_value 10) ps) ∙ u.0; upwards = u.1 })))

at_least_zero : (ns : List ℕ) → list_all (nat_le 0) ns ≡ true
at_least_zero [] = refl
at_least_zero (n ∷ ns) = and_from _ _ (le-leb 0 n (omega arith)) (at_least_zero ns)

pub rises_is : (word : Text) → rises_from 0 (parts word) ≡ are_upwards word
rises_is word = same_test _ _
    (λ h. let r = rises 0 (parts word) h in and_from _ _ r.numbers r.upwards)
    (λ h. let p = and_parts _ _ h in risen 0 (parts word) (record { numbers = p.0; above = at_least_zero (part_numbers word); upwards = p.1 }))

-- a number that is read
number_parts : (text : Text) (n : ℕ) → number_of text ≡ Some n → (is_number text ≡ true) × (digits_value 10 text ≡ n)
unfolding number_of
number_parts text n h = go (is_number text) refl h
  where
    go : (b : Bool) → is_number text ≡ b → cond b (Some (digits_value 10 text)) None ≡ Some n → (is_number text ≡ true) × (digits_value 10 text ≡ n)
    go true is e = (is, cc)
    go false is e = cc

no_number : (text : Text) → number_of text ≡ None → is_number text ≡ false
unfolding number_of
no_number text h = go (is_number text) refl h
  where
    go : (b : Bool) → is_number text ≡ b → cond b (Some (digits_value 10 text)) None ≡ None → is_number text ≡ false
    go true is e = cc
    go false is e = is

-- ---- the loop over the parts

module _ (ps : List Text) (i least : ℕ) (text : Text) (lt : i < length ps) (at : text ≡ slice_index_or ps i text) where
  one_part : rises_from least (drop i ps) ≡ rises_from least (text ∷ drop (i + 1) ps)
  one_part = at_drop_more (rises_from least) ps i text lt ∙ ap (λ t. rises_from least (t ∷ drop (i + 1) ps)) (sym at)

  -- the part is a number that may stand here
  pub part_rises : (n : ℕ) → number_of text ≡ Some n → least ≤ n → rises_from least (drop i ps) ≡ rises_from (n + 1) (drop (i + 1) ps)
  part_rises n is le = let p = number_parts text n is in
      one_part ∙ ap (λ b. b && (nat_le least (digits_value 10 text) && rises_from (digits_value 10 text + 1) (drop (i + 1) ps))) p.0
      ∙ ap (λ v. nat_le least v && rises_from (v + 1) (drop (i + 1) ps)) p.1
      ∙ ap (λ b. b && rises_from (n + 1) (drop (i + 1) ps)) (le-leb least n le)

  -- the part is too low, or no number
  pub part_falls : (n : ℕ) → number_of text ≡ Some n → n < least → rises_from least (drop i ps) ≡ false
  part_falls n is low = let p = number_parts text n is in
      one_part ∙ and_right (is_number text) _ (and_left _ _ (ap (nat_le least) p.1 ∙ lt-leb least n low))

  pub part_is_none : number_of text ≡ None → rises_from least (drop i ps) ≡ false
  part_is_none none = one_part ∙ and_left _ _ (no_number text none)

pub parts_end : (ps : List Text) (i least : ℕ) → length ps ≤ i → rises_from least (drop i ps) ≡ true
parts_end ps i least past = at_drop_all (rises_from least) ps i past
