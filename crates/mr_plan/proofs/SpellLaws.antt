-- Reading and printing are inverse: what is printed reads as the same, and what is read is so printed.
use Rattle.std.proofs.Common.{◌≡◌, ℕ, ◌+◌, ◌-◌, ◌^◌, ◌<◌, ◌≤◌, ◌&&◌, Bool, true, false, cond, nat_lt, nat_le, List, [], ◌∷◌, length, map, ◌⊎◌, Option, Some, None, bit_or, inl, inr, ⊎_elim, refl, sym, ap, ap₂, subst, ◌∙◌, arith}
use mir.Syntax.{w128}
use Rattle.std.specs.Prelude.{option_and_then}
use Rattle.std.specs.Option.{option_map}
use Rattle.std.specs.Fmt.{decimal}
use Rattle.std.specs.Int.{bit_at, trailing_zeros}
use Rattle.std.proofs.lemmas.Bool.{and_parts, and_from, leb-true, ltb-true, le-leb, lt-ltb, cases_lt, cases_eq}
use Rattle.std.proofs.lemmas.Nat.Bits.{bit_at-zero, bit_at_or, bit_at-lt, bit_at-pow_same, same_from_bits}
use Rattle.std.proofs.lemmas.Nat.{or_lt, pow_below}
use Rattle.mr_model.specs.Members.{members, IsLeastMember, TakesLeast}
use Rattle.mr_model.proofs.SetLaws.{bit_at_pow_cases}
use Rattle.mr_model.proofs.Loops.{members-first, members-next, members-none, bit_at_without}
use Rattle.mr_text.specs.Numbers.{number_of}
use Rattle.mr_text.proofs.NumberLaws.{number_of-decimal, decimal-number_of}
use Rattle.mr_plan.specs.Readings.{symbol_of, set_of_words}

-- ---- a symbol

pub record IsSymbol (least : ℕ) (word : List ℕ) (n : ℕ) : Type 0 where
  pub later : least ≤ n
  pub low : n < 128
  pub spelled : word ≡ decimal n

pub symbol-read : (least : ℕ) (word : List ℕ) (n : ℕ) → symbol_of least word ≡ Some n → IsSymbol least word n
unfolding symbol_of
symbol-read least word n e = go (number_of word) refl e
  where
    test : (m : ℕ) (b : Bool) → (nat_le least m && nat_lt m 128) ≡ b → number_of word ≡ Some m → cond b (Some m) None ≡ Some n → IsSymbol least word n
    test m true is num e =
        let same : m ≡ n = cc in
        let parts = and_parts (nat_le least m) (nat_lt m 128) is in
        subst (IsSymbol least word) same (record { later = leb-true _ _ parts.0; low = ltb-true _ _ parts.1; spelled = sym (decimal-number_of word m num).0 })
    test m false is num e = cc

    go : (o : Option ℕ) → number_of word ≡ o → option_and_then (λ m. cond (nat_le least m && nat_lt m 128) (Some m) None) o ≡ Some n → IsSymbol least word n
    go None is e = cc
    go (Some m) is e = test m (nat_le least m && nat_lt m 128) refl is e

pub symbol-printed : (least n : ℕ) → least ≤ n → n < 128 → symbol_of least (decimal n) ≡ Some n
unfolding symbol_of
symbol-printed least n later low =
    ap (option_and_then (λ m. cond (nat_le least m && nat_lt m 128) (Some m) None)) (number_of-decimal n (omega arith))
    ∙ ap (λ b. cond b (Some n) None) (and_from _ _ (le-leb _ _ later) (lt-ltb _ _ low))

-- ---- the symbols of a set

-- what the words of a set say of it: they are those of its members, which begin at `least`
pub record IsSetOf (least : ℕ) (words : List (List ℕ)) (set : ℕ) : Type 0 where
  pub spelled : words ≡ map decimal (members set)
  pub none_before : (i : ℕ) → i < least → bit_at set i ≡ 0
  pub low : set < 2 ^ 128

-- a member in front of those of a set that begins behind it
set_with : (n s : ℕ) → n < 128 → ((i : ℕ) → i < n + 1 → bit_at s i ≡ 0) → s < 2 ^ 128 → TakesLeast (bit_or (2 ^ n) s) n s
set_with n s low none below = record {
  in_range = low;
  least = least;
  left = sym rest;
  first = members-first (bit_or (2 ^ n) s) n low least ∙ ap (λ x. n ∷ members x) rest;
}
  where
    least : IsLeastMember (bit_or (2 ^ n) s) n
    least = record {
      member = omega (arith, bit_at_or (2 ^ n) s n, bit_at-pow_same n, bit_at-lt s n);
      below_it = λ j lt. omega (arith, bit_at_or (2 ^ n) s j, bit_at_pow_cases n j, none j (omega arith), lt);
    }

    rest : bit_or (2 ^ n) s - 2 ^ n ≡ s
    rest = same_from_bits _ _ (λ i. ⊎_elim
        (λ here. subst (λ j. bit_at (bit_or (2 ^ n) s - 2 ^ n) j ≡ bit_at s j) (sym here)
        (omega (arith, bit_at_without (bit_or (2 ^ n) s) n n least.member, least.member, bit_at-pow_same n, none n (omega arith))))
        (λ apart. omega (arith, bit_at_without (bit_or (2 ^ n) s) n i least.member, bit_at_or (2 ^ n) s i, bit_at_pow_cases n i, apart, bit_at-lt s i))
        (cases_eq i n))

set_word : (least n s : ℕ) (word : List ℕ) (words : List (List ℕ)) → IsSymbol least word n → IsSetOf (n + 1) words s → IsSetOf least (word ∷ words) (bit_or (2 ^ n) s)
set_word least n s word words symbol rest =
    let first = set_with n s symbol.low rest.none_before rest.low in
    record {
      spelled = ap₂ (λ w ws. w ∷ ws) symbol.spelled rest.spelled ∙ ap (map decimal) (sym first.first);
      none_before = λ i lt. omega (arith, bit_at_or (2 ^ n) s i, bit_at_pow_cases n i, rest.none_before i (omega (arith, lt, symbol.later)), symbol.later, lt);
      low = or_lt 128 (2 ^ n) s (pow_below n 128 symbol.low) rest.low;
    }

set_words : (least n set : ℕ) (word : List ℕ) (words : List (List ℕ)) (o : Option ℕ) → IsSymbol least word n → ((s : ℕ) → o ≡ Some s → IsSetOf (n + 1) words s)
    → option_map (bit_or (2 ^ n)) o ≡ Some set → IsSetOf least (word ∷ words) set
set_words least n set word words None symbol rest e = cc
set_words least n set word words (Some s) symbol rest e =
    let same : bit_or (2 ^ n) s ≡ set = cc in
    subst (IsSetOf least (word ∷ words)) same (set_word least n s word words symbol (rest s refl))

set_symbol : (least set : ℕ) (word : List ℕ) (words : List (List ℕ)) (rest : ℕ → Option ℕ) (o : Option ℕ) → symbol_of least word ≡ o
    → ((n s : ℕ) → rest n ≡ Some s → IsSetOf (n + 1) words s) → option_and_then (λ n. option_map (bit_or (2 ^ n)) (rest n)) o ≡ Some set → IsSetOf least (word ∷ words) set
set_symbol least set word words rest None is ih e = cc
set_symbol least set word words rest (Some n) is ih e = set_words least n set word words (rest n) (symbol-read least word n is) (ih n) e

-- what is read as a set is spelled so
pub set-read : (least : ℕ) (words : List (List ℕ)) (set : ℕ) → set_of_words least words ≡ Some set → IsSetOf least words set
unfolding set_of_words
set-read least [] set e = let same : 0 ≡ set = cc in
    subst (IsSetOf least []) same (record { spelled = ap (map decimal) (sym members-none); none_before = λ i lt. bit_at-zero i; low = omega arith })
set-read least (word ∷ words) set e = set_symbol least set word words (λ n. set_of_words (n + 1) words) (symbol_of least word) refl (λ n s. set-read (n + 1) words s) e

-- a set below 2 ^ 128 that has members has a least one
first_member : (x : ℕ) → x < 2 ^ 128 → (x ≡ 0) ⊎ ((t : ℕ) × TakesLeast x t (x - 2 ^ t))
first_member x low = ⊎_elim (λ none. inl none) (λ apart. inr (some (omega arith))) (cases_eq x 0)
  where
    some : 0 < x → (t : ℕ) × TakesLeast x t (x - 2 ^ t)
    some more = let h = members-next x more low in (trailing_zeros w128 x, subst (TakesLeast x (trailing_zeros w128 x)) h.left h)

tail_same : {t : ℕ} {ts us : List ℕ} → t ∷ ts ≡ t ∷ us → ts ≡ us
tail_same h = cc

-- the first of the members is the least
record IsFirst (x : ℕ) (xs : List ℕ) (least set : ℕ) : Type 0 where
  takes : TakesLeast set x (set - 2 ^ x)
  rest : members (set - 2 ^ x) ≡ xs
  later : least ≤ x

first_is : (x : ℕ) (xs : List ℕ) (least set : ℕ) → members set ≡ x ∷ xs → set < 2 ^ 128 → ((i : ℕ) → i < least → bit_at set i ≡ 0) → IsFirst x xs least set
first_is x xs least set e low none = ⊎_elim
    (λ empty. absurd (omega (arith, ap length (sym (ap members empty ∙ members-none) ∙ e))))
    (λ first. at (first.0) first.1)
    (first_member set low)
  where
    at : (t : ℕ) → TakesLeast set t (set - 2 ^ t) → IsFirst x xs least set
    at t takes =
        let same : t ≡ x = cc (takes.first, e) in
        let here : TakesLeast set x (set - 2 ^ x) = subst (λ i. TakesLeast set i (set - 2 ^ i)) same takes in
        record {
          takes = here;
          rest = tail_same (sym here.first ∙ e);
          later = ⊎_elim (λ lt. absurd (omega (arith, none x lt, here.least.member))) (λ ge. ge) (cases_lt x least);
        }

-- a member taken away and put back
joined : (x set : ℕ) → bit_at set x ≡ 1 → bit_or (2 ^ x) (set - 2 ^ x) ≡ set
joined x set member = same_from_bits _ _ (λ i. ⊎_elim
    (λ here. subst (λ j. bit_at (bit_or (2 ^ x) (set - 2 ^ x)) j ≡ bit_at set j) (sym here)
    (omega (arith, bit_at_or (2 ^ x) (set - 2 ^ x) x, bit_at-pow_same x, bit_at-lt (set - 2 ^ x) x, member)))
    (λ apart. omega (arith, bit_at_or (2 ^ x) (set - 2 ^ x) i, bit_at_without set x i member, bit_at_pow_cases x i, apart, bit_at-lt set i))
    (cases_eq i x))

-- nothing is left up to the least member
none_left : (x set : ℕ) → IsLeastMember set x → (i : ℕ) → i < x + 1 → bit_at (set - 2 ^ x) i ≡ 0
none_left x set least i lt = ⊎_elim
    (λ here. subst (λ j. bit_at (set - 2 ^ x) j ≡ 0) (sym here) (omega (arith, bit_at_without set x x least.member, bit_at-pow_same x, least.member)))
    (λ apart. omega (arith, bit_at_without set x i least.member, least.below_it i (omega arith)))
    (cases_eq i x)

-- what is spelled so is read as the set
pub set-printed : (xs : List ℕ) (least set : ℕ) → members set ≡ xs → set < 2 ^ 128 → ((i : ℕ) → i < least → bit_at set i ≡ 0) → set_of_words least (map decimal xs) ≡ Some set
unfolding set_of_words
set-printed [] least set e low none = ⊎_elim
    (λ empty. ap Some (sym empty))
    (λ first. absurd (omega (arith, ap length (sym e ∙ first.1.first))))
    (first_member set low)
set-printed (x ∷ xs) least set e low none =
    let first = first_is x xs least set e low none in
    let less : set - 2 ^ x < 2 ^ 128 = omega (arith, low) in
    ap (option_and_then (λ n. option_map (bit_or (2 ^ n)) (set_of_words (n + 1) (map decimal xs)))) (symbol-printed least x first.later first.takes.in_range)
    ∙ ap (option_map (bit_or (2 ^ x))) (set-printed xs (x + 1) (set - 2 ^ x) first.rest less
    (none_left x set first.takes.least))
    ∙ ap Some (joined x set first.takes.least.member)
