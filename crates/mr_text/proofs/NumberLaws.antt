-- Number texts and the decimals that `itoa` prints are the same texts.
use Rattle.std.proofs.Common.{rules, arith, ◌≡◌, ℕ, ◌+◌, ◌-◌, ◌*◌, ◌^◌, ◌<◌, ◌≤◌, ◌==◌, true, false, Bool, ◌||◌, not, nat_lt, nat_le, List, Option, length, get_or, take, Some, None, codes, refl, sym, lit≤, lit<, ◌≢◌, inl, inr, cond, ap, subst, ◌∙◌}
use Rattle.std.specs.Char.{is_ascii_digit}
use Rattle.std.specs.Fmt.{decimal}
use Rattle.std.specs.Int.{IsInRange}
use Rattle.std.specs.List.{list_all}
use Rattle.std.specs.Str.{bytes_eq}
use Rattle.std.specs.Str.Parse.{digits_value}
use Rattle.std.proofs.lemmas.Bool.{and_parts, or_cases, and_from, leb-true, ltb-true, not-true, both_ways, eq-eqb, cases_eq, lt-ltb, le-leb, ne_eqb}
use Rattle.std.proofs.lemmas.Slice.Eq.{bytes_eq-Decides}
use Rattle.std.proofs.lemmas.Fmt.{digits_value-decimal, decimal-digits_value, decimal_digit, first_decimal, decimal_nonempty, length-decimal-le, digits_decimal}
use Rattle.std.proofs.lemmas.Int.Digits.{digits_value_more}
use Rattle.std.proofs.lemmas.Str.{digit_value_digit}
use Rattle.std.proofs.lemmas.Str.Parse.{IsNumeralModel, IsDigitsTest, numerals_by_value, digit_at, digits_value_short, digits_value-take-le}
use Rattle.mr_text.specs.Numbers.{is_number, is_long_number, number_of, greatest_number}

-- `list_all is_ascii_digit` is true of just the texts of digits
pub tells_digits_list : IsDigitsTest (λ ds. list_all is_ascii_digit ds ≡ true)
tells_digits_list = search rules

pub digits_model : IsNumeralModel (λ ds. list_all is_ascii_digit ds ≡ true) (digits_value 10)
digits_model = numerals_by_value _ tells_digits_list

-- What the next digit does to the number read so far.
pub record ReadsDigit (ds : List ℕ) (i n : ℕ) : Type 0 where
  pub digit : 48 ≤ get_or ds i 0
  pub fits : n * 10 + (get_or ds i 0 - 48) < 1000000000
  pub next : n * 10 + (get_or ds i 0 - 48) ≡ digits_value 10 (take (i + 1) ds)

pub reads_digit : (ds : List ℕ) (i n : ℕ) → length ds ≤ 9 → list_all is_ascii_digit ds ≡ true → i < length ds
    → n ≡ digits_value 10 (take i ds) → ReadsDigit ds i n
reads_digit ds i n few all lt so_far = record { digit = in_range.0; fits = omega (arith, whole, part, next); next = next }
  where
    in_range : IsInRange 48 57 (get_or ds i 0)
    in_range = digit_at ds i (digits_model.to ds all) lt

    whole : digits_value 10 ds < 10 ^ 9
    whole = digits_value_short digits_model ds 9 all few

    part : digits_value 10 (take (i + 1) ds) ≤ digits_value 10 ds
    part = digits_value-take-le 10 ds (i + 1) (lit≤ tt)

    next : n * 10 + (get_or ds i 0 - 48) ≡ digits_value 10 (take (i + 1) ds)
    next = omega (arith, so_far, digits_value_more 10 ds i lt, digit_value_digit (get_or ds i 0) in_range)

-- What a number text is.
pub record IsNumberText (text : List ℕ) : Type 0 where
  pub few : length text ≤ 9
  pub digits : list_all is_ascii_digit text ≡ true
  pub some : 0 < length text
  pub zero : get_or text 0 0 ≡ 48 → length text ≡ 1

-- two texts that `bytes_eq` takes for one are one
pub bytes_eq_true : (xs ys : List ℕ) → bytes_eq xs ys ≡ true → xs ≡ ys
bytes_eq_true xs ys h = (bytes_eq-Decides xs ys).0 h

long_number : (text : List ℕ) → is_long_number text ≡ true → IsNumberText text
long_number text h = record {
  few = leb-true _ _ parts.1;
  digits = parts.3;
  some = ltb-true _ _ parts.0;
  zero = λ e. absurd (both_ways _ (not-true _ parts.2) (eq-eqb _ _ e));
}
  where
    parts : (nat_lt 0 (length text) ≡ true) × (nat_le (length text) 9 ≡ true) × (not (get_or text 0 0 == 48) ≡ true) × (list_all is_ascii_digit text ≡ true)
    parts = let p = and_parts _ _ h in let q = and_parts _ _ p.1 in let r = and_parts _ _ q.1 in (p.0, q.0, r.0, r.1)

-- a number text has at most nine digits, and more than one only where the first is not 0
pub number_text : (text : List ℕ) → is_number text ≡ true → IsNumberText text
unfolding is_number
number_text text h = elim (or_cases _ _ h) [
  | inl zero ↦ subst IsNumberText (sym (bytes_eq_true text (codes "0") zero)) (record { few = lit≤ tt; digits = refl; some = lit< tt; zero = λ _. refl })
  | inr long ↦ long_number text long
]

-- a value of a number text is below a thousand millions
pub number_lt : (text : List ℕ) → IsNumberText text → digits_value 10 text < 1000000000
number_lt text h = digits_value_short digits_model text 9 h.digits h.few

-- what reads as n is what is printed of n, and n is below a thousand millions
pub decimal-number_of : (text : List ℕ) (n : ℕ) → number_of text ≡ Some n → (decimal n ≡ text) × (n < 1000000000)
unfolding number_of
decimal-number_of text n h = by_test (is_number text) refl h
  where
    printed : IsNumberText text → decimal (digits_value 10 text) ≡ text
    printed t = decimal-digits_value digits_model text t.digits t.some t.zero (omega (arith, number_lt text t))

    by_test : (b : Bool) → is_number text ≡ b → cond b (Some (digits_value 10 text)) None ≡ Some n → (decimal n ≡ text) × (n < 1000000000)
    by_test true is e = let same : digits_value 10 text ≡ n = cc in
        subst (λ m. (decimal m ≡ text) × (m < 1000000000)) same (printed (number_text text is), number_lt text (number_text text is))
    by_test false is e = cc

-- what is printed of a number of at most nine digits is a number text
pub is_number-decimal : (n : ℕ) → n < 1000000000 → is_number (decimal n) ≡ true
unfolding is_number
is_number-decimal n lt = elim (cases_eq n 0) [
  | inl zero ↦ subst (λ m. (bytes_eq (decimal m) (codes "0") || is_long_number (decimal m)) ≡ true) (sym zero) (rw (decimal_digit 0 (lit< tt)) refl)
  | inr more ↦ or_right (bytes_eq (decimal n) (codes "0")) _ (long more)
]
  where
    or_right : (a b : Bool) → b ≡ true → (a || b) ≡ true
    or_right true b h = refl
    or_right false b h = h

    first : n ≢ 0 → 48 < get_or (decimal n) 0 0
    first more = first_decimal n (omega arith) (omega arith)

    long : n ≢ 0 → is_long_number (decimal n) ≡ true
    long more = and_from _ _ (lt-ltb _ _ (decimal_nonempty n (omega arith)))
        (and_from _ _ (le-leb _ _ (length-decimal-le 9 n (lit< tt) lt (omega arith)))
        (and_from _ _ (ap not (ne_eqb _ _ (λ e. omega (arith, e, first more)))) (digits_decimal digits_model n (omega arith))))

-- and it reads as that number
pub number_of-decimal : (n : ℕ) → n < 1000000000 → number_of (decimal n) ≡ Some n
unfolding number_of
number_of-decimal n lt = rw (is_number-decimal n lt) (ap Some (digits_value-decimal digits_model n (omega arith)))

-- what `number_of` answers of a text that is a number, and of one that is not
pub number_of-some : (text : List ℕ) → is_number text ≡ true → number_of text ≡ Some (digits_value 10 text)
unfolding number_of
number_of-some text h = rw h refl

pub number_of-none : (text : List ℕ) → is_number text ≡ false → number_of text ≡ None
unfolding number_of
number_of-none text h = rw h refl

-- an answer of `number_of` is n where the text is what is printed of n
pub spelled : (text : List ℕ) (answer : Option ℕ) → number_of text ≡ answer → (n : ℕ) → n ≤ greatest_number → text ≡ decimal n → answer ≡ Some n
spelled text answer is n le e = sym is ∙ ap number_of e ∙ number_of-decimal n (omega arith)

-- the text is what is printed of the number that it names
pub read : (text : List ℕ) (n : ℕ) → number_of text ≡ Some n → (n ≤ greatest_number) × (text ≡ decimal n)
read text n is = let p = decimal-number_of text n is in (omega (arith, p.1), sym p.0)
