-- Budgets and the decimals that are printed of them.
use Rattle.std.proofs.Common.{arith, ◌≡◌, ◌≤◌, ◌&&◌, ℕ, Bool, true, false, cond, nat_le, List, Option, Some, None, Result, Ok, Err, refl, sym, ◌∙◌, ap, subst}
use Rattle.std.specs.Fmt.{decimal}
use Rattle.std.specs.Str.{bytes_eq}
use Rattle.std.specs.Str.Parse.{ParsesUnsigned, digits_value}
use Rattle.std.proofs.lemmas.Bool.{and_from, and_parts, both_ways, le-leb, leb-true}
use Rattle.std.proofs.lemmas.Fmt.{digits_value-decimal, parse-decimal}
use Rattle.std.proofs.lemmas.Slice.Eq.{bytes_eq-Decides}
use Rattle.mr_text.proofs.NumberLaws.{bytes_eq_true, digits_model}
use Rattle.mr_least_words.specs.Budgets.{budget_number}
use Rattle.mr_least_words.specs.declared.budgets.TheConstants.{GREATEST_BUDGET}

-- what is printed of a budget reads as it
pub printed : (text : List ℕ) (n : ℕ) → n ≤ GREATEST_BUDGET → text ≡ decimal n → budget_number text ≡ Some n
unfolding budget_number
printed text n low e =
    ap (λ t. cond (bytes_eq (decimal (digits_value 10 t)) t && nat_le (digits_value 10 t) GREATEST_BUDGET) (Some (digits_value 10 t)) None) e
    ∙ ap (λ k. cond (bytes_eq (decimal k) (decimal n) && nat_le k GREATEST_BUDGET) (Some k) None) (digits_value-decimal digits_model n (omega (arith, low)))
    ∙ ap (λ b. cond b (Some n) None) (and_from _ _ ((bytes_eq-Decides (decimal n) (decimal n)).1 refl) (le-leb n GREATEST_BUDGET low))

-- and what reads as a budget is what is printed of it
pub named : (text : List ℕ) (n : ℕ) → budget_number text ≡ Some n → (n ≤ GREATEST_BUDGET) × (text ≡ decimal n)
unfolding budget_number
named text n h = by_test (bytes_eq (decimal (digits_value 10 text)) text && nat_le (digits_value 10 text) GREATEST_BUDGET) refl h
  where
    by_test : (b : Bool) → (bytes_eq (decimal (digits_value 10 text)) text && nat_le (digits_value 10 text) GREATEST_BUDGET) ≡ b
        → cond b (Some (digits_value 10 text)) None ≡ Some n → (n ≤ GREATEST_BUDGET) × (text ≡ decimal n)
    by_test true is e =
        let same : digits_value 10 text ≡ n = cc in
        let parts = and_parts _ _ is in
        subst (λ k. (k ≤ GREATEST_BUDGET) × (text ≡ decimal k)) same
        (leb-true (digits_value 10 text) GREATEST_BUDGET parts.1, sym (bytes_eq_true (decimal (digits_value 10 text)) text parts.0))
    by_test false is e = cc

-- the text is what is printed of the number that was parsed
pub is-printed : (text : List ℕ) (n : ℕ) → n ≤ GREATEST_BUDGET → bytes_eq (decimal n) text ≡ true → budget_number text ≡ Some n
is-printed text n low same = printed text n low (sym (bytes_eq_true (decimal n) text same))

-- a text that is not what is printed of the number that was parsed, or of which none was, is no budget
pub not-printed : {E : Type 0} (text : List ℕ) (parsed : Result ℕ E) → ParsesUnsigned 32 10 text parsed
    → ((n : ℕ) → parsed ≡ Ok n → bytes_eq (decimal n) text ≡ false) → budget_number text ≡ None
not-printed {E} text parsed parses other = go (budget_number text) refl
  where
    go : (o : Option ℕ) → budget_number text ≡ o → o ≡ None
    go None e = refl
    go (Some n) e =
        let is = named text n e in
        let found : parsed ≡ Ok n = parse-decimal 32 n text parsed (omega (arith, is.0)) (omega (arith, is.0)) is.1 parses in
        absurd (both_ways _ (other n found) ((bytes_eq-Decides (decimal n) text).1 (sym is.1)))

ok-same : {E : Type 0} {a b : ℕ} → ◌≡◌ {A = Result ℕ E} (Ok a) (Ok b) → a ≡ b
ok-same e = cc

-- a text that is not what is printed of the number that was parsed
pub other-text : {E : Type 0} (text : List ℕ) (parsed : Result ℕ E) (number : ℕ) → ParsesUnsigned 32 10 text parsed → parsed ≡ Ok number
    → bytes_eq (decimal number) text ≡ false → budget_number text ≡ None
other-text text parsed number parses is other =
    not-printed text parsed parses (λ n found. subst (λ k. bytes_eq (decimal k) text ≡ false) (ok-same (sym is ∙ found)) other)

-- a text of which no number was parsed
pub no-number : {E : Type 0} (text : List ℕ) (parsed : Result ℕ E) (error : E) → ParsesUnsigned 32 10 text parsed → parsed ≡ Err error → budget_number text ≡ None
no-number {E} text parsed error parses is =
    not-printed text parsed parses (λ n found. let clash : ◌≡◌ {A = Result ℕ E} (Err error) (Ok n) = sym is ∙ found in cc)
