-- The words of each line of a plan's text, and that each line is read as what it spells.
use Rattle.std.proofs.Common.{◌≡◌, ℕ, ◌^◌, ◌<◌, ◌==◌, Bool, true, false, cond, List, [], ◌∷◌, ◌++◌, All, map, flat_map, Option, Some, None, codes, refl, sym, ap, ap₂, subst, ◌∙◌, arith}
use Rattle.std.specs.Prelude.{option_and_then}
use Rattle.std.specs.Option.{option_map}
use Rattle.std.specs.Fmt.{decimal}
use Rattle.std.specs.Str.{bytes_eq}
use Rattle.std.proofs.lemmas.Bool.{ne_eqb}
use Rattle.std.proofs.lemmas.List.{append_assoc, append-nil}
use Rattle.std.proofs.lemmas.List.Elements.{All-nil, All-cons, All-head, All-tail, All-append, All-from_get_or, All-from_recursion}
use Rattle.std.proofs.lemmas.List.Splits.{slice_split_none, slice_split_at}
use Rattle.std.proofs.lemmas.Fmt.{digits_decimal}
use Rattle.std.proofs.lemmas.Slice.Eq.{bytes_eq-Decides}
use Rattle.std.proofs.lemmas.Str.Parse.{not_in_digits}
use Rattle.mr_model.specs.Members.{members}
use Rattle.mr_model.specs.Plans.{Recipe}
use Rattle.mr_model.proofs.SetLaws.{member-below}
use Rattle.mr_text.proofs.NumberLaws.{digits_model, bytes_eq_true}
use Rattle.mr_plan.specs.declared.kinds.Kind.{Kind}
use Rattle.mr_plan.specs.declared.kinds.Kind.TheVariants.{Least, Spent, Given}
use Rattle.mr_plan.specs.Plans.{IsNext}
use Rattle.mr_plan.specs.PlanText.{member_text, members_text, head_text, set_text, recipe_text}
use Rattle.mr_text.specs.Lines.{pieces}
use Rattle.mr_plan.specs.Readings.{symbol_of, set_of_words, set_after, recipe_of_words, kind_of, set_of, recipe_of}
use Rattle.mr_plan.proofs.MemberLists.{members-All}
use Rattle.mr_text.proofs.LineLaws.{pieces-same}
use Rattle.mr_plan.proofs.SpellLaws.{IsSymbol, symbol-read, symbol-printed, set-read, set-printed}
use Rattle.mr_plan.proofs.ReadLaws.{recipe_by}

-- ---- bytes that do not occur

-- c does not occur
abbrev pub Without : ℕ → List ℕ → Type 0
Without c bytes = All (λ b. (b == c) ≡ false) bytes

-- below the digits
pub decimal-without : (c n : ℕ) → c < 48 → n < 128 → Without c (decimal n)
decimal-without c n low small = All-from_get_or (λ b. (b == c) ≡ false) (decimal n) 0
    (λ i lt. ne_eqb _ _ (not_in_digits digits_model (decimal n) c (digits_decimal digits_model n (omega arith)) (λ h. omega (arith, h)) i lt))

pub members-without : (c : ℕ) (xs : List ℕ) → c < 32 → All (λ t. t < 128) xs → Without c (flat_map member_text xs)
members-without c [] low h = All-nil (λ b. (b == c) ≡ false)
members-without c (x ∷ xs) low h =
    All-append (λ b. (b == c) ≡ false) (member_text x) (flat_map member_text xs)
    (All-cons (λ b. (b == c) ≡ false) 32 (decimal x) (ne_eqb 32 c (λ e. absurd (omega (arith, e)))) (decimal-without c x (omega arith) (All-head (λ t. t < 128) x xs h)))
    (members-without c xs low (All-tail (λ t. t < 128) x xs h))

-- the members of a set below 2 ^ 128
pub members-low : (set : ℕ) → set < 2 ^ 128 → All (λ t. t < 128) (members set)
members-low set low = members-All (λ t. t < 128) set (λ t member. member-below 128 set t low member)

-- ---- words

-- a word, and then numbers
pub words-text : (word : List ℕ) (xs : List ℕ) → Without 32 word → All (λ t. t < 128) xs → pieces 32 (word ++ flat_map member_text xs) ≡ word ∷ map decimal xs
words-text word [] plain h = ap (pieces 32) (append-nil word) ∙ slice_split_none (λ b. b == 32) word plain
words-text word (x ∷ xs) plain h =
    slice_split_at (λ b. b == 32) word 32 (decimal x ++ flat_map member_text xs) plain refl
    ∙ ap (λ ws. word ∷ ws) (words-text (decimal x) xs (decimal-without 32 x (omega arith) (All-head (λ t. t < 128) x xs h)) (All-tail (λ t. t < 128) x xs h))

pub set_words : (set : ℕ) → set < 2 ^ 128 → pieces 32 (set_text set) ≡ codes "set" ∷ map decimal (members set)
set_words set low = words-text (codes "set") (members set) (All-from_recursion (λ b. (b == 32) ≡ false) (codes "set") (refl, (refl, (refl, tt)))) (members-low set low)

pub recipe_words : (r : Recipe) → r.symbol < 128 → r.equation < 2 ^ 128 → pieces 32 (recipe_text r) ≡ decimal r.symbol ∷ codes "=" ∷ map decimal (members r.equation)
recipe_words r small low =
    ap (pieces 32) (append_assoc (decimal r.symbol) (codes " =") (members_text r.equation))
    ∙ slice_split_at (λ b. b == 32) (decimal r.symbol) 32 (codes "=" ++ members_text r.equation) (decimal-without 32 r.symbol (omega arith) small) refl
    ∙ ap (λ ws. decimal r.symbol ∷ ws) (words-text (codes "=") (members r.equation) (All-from_recursion (λ b. (b == 32) ≡ false) (codes "=") (refl, tt)) (members-low r.equation low))

-- ---- a set behind a word

-- a text compares as itself
pub same_bytes : (xs : List ℕ) → bytes_eq xs xs ≡ true
same_bytes xs = (bytes_eq-Decides xs xs).1 refl

-- what the words say of the set
record IsSetAfter (word : List ℕ) (words : List (List ℕ)) (set : ℕ) : Type 0 where
  spelled : words ≡ word ∷ map decimal (members set)
  low : set < 2 ^ 128

set_after-read : (word : List ℕ) (words : List (List ℕ)) (set : ℕ) → set_after word words ≡ Some set → IsSetAfter word words set
set_after-read word [] set e = cc
set_after-read word (first ∷ words) set e = go (bytes_eq first word) refl e
  where
    go : (b : Bool) → bytes_eq first word ≡ b → cond b (set_of_words 0 words) None ≡ Some set → IsSetAfter word (first ∷ words) set
    go true is e = let h = set-read 0 words set e in record { spelled = ap₂ (λ w ws. w ∷ ws) (bytes_eq_true first word is) h.spelled; low = h.low }
    go false is e = cc

set_after-printed : (word : List ℕ) (set : ℕ) → set < 2 ^ 128 → set_after word (word ∷ map decimal (members set)) ≡ Some set
set_after-printed word set low =
    ap (λ b. cond b (set_of_words 0 (map decimal (members set))) None) (same_bytes word)
    ∙ set-printed (members set) 0 set refl low (λ i lt. absurd (omega arith))

-- ---- the line of the set

pub record IsSetLine (line : List ℕ) (set : ℕ) : Type 0 where
  pub spelled : line ≡ set_text set
  pub low : set < 2 ^ 128

pub set_of-read : (line : List ℕ) (set : ℕ) → set_of line ≡ Some set → IsSetLine line set
unfolding set_of
set_of-read line set e =
    let h = set_after-read (codes "set") (pieces 32 line) set e in
    record { spelled = pieces-same 32 line (set_text set) (h.spelled ∙ sym (set_words set h.low)); low = h.low }

pub set_of-printed : (set : ℕ) → set < 2 ^ 128 → set_of (set_text set) ≡ Some set
unfolding set_of
set_of-printed set low = ap (set_after (codes "set")) (set_words set low) ∙ set_after-printed (codes "set") set low

-- ---- the line of a recipe

pub record IsRecipeLine (least : ℕ) (line : List ℕ) (r : Recipe) : Type 0 where
  pub spelled : line ≡ recipe_text r
  pub next : IsNext least r

recipe_line : (least n s : ℕ) (line first : List ℕ) (words : List (List ℕ)) → pieces 32 line ≡ first ∷ words → IsSymbol least first n → IsSetAfter (codes "=") words s → IsRecipeLine least line (recipe_by n s)
recipe_line least n s line first words cut symbol after = record {
  spelled = pieces-same 32 line (recipe_text (recipe_by n s)) (cut ∙ ap₂ (λ w ws. w ∷ ws) symbol.spelled after.spelled ∙ sym (recipe_words (recipe_by n s) symbol.low after.low));
  next = record { later = symbol.later; symbol = symbol.low; sources = after.low };
}

recipe_sources : (least n : ℕ) (line first : List ℕ) (words : List (List ℕ)) (o : Option ℕ) (r : Recipe) → pieces 32 line ≡ first ∷ words → IsSymbol least first n → set_after (codes "=") words ≡ o
    → option_map (recipe_by n) o ≡ Some r → IsRecipeLine least line r
recipe_sources least n line first words None r cut symbol is e = cc
recipe_sources least n line first words (Some s) r cut symbol is e =
    let same : recipe_by n s ≡ r = cc in
    subst (IsRecipeLine least line) same (recipe_line least n s line first words cut symbol (set_after-read (codes "=") words s is))

recipe_symbol : (least : ℕ) (line first : List ℕ) (words : List (List ℕ)) (o : Option ℕ) (r : Recipe) → pieces 32 line ≡ first ∷ words → symbol_of least first ≡ o
    → option_and_then (λ n. option_map (recipe_by n) (set_after (codes "=") words)) o ≡ Some r → IsRecipeLine least line r
recipe_symbol least line first words None r cut is e = cc
recipe_symbol least line first words (Some n) r cut is e = recipe_sources least n line first words (set_after (codes "=") words) r cut (symbol-read least first n is) refl e

recipe_first : (least : ℕ) (line : List ℕ) (words : List (List ℕ)) (r : Recipe) → pieces 32 line ≡ words → recipe_of_words least words ≡ Some r → IsRecipeLine least line r
recipe_first least line [] r cut e = cc
recipe_first least line (first ∷ words) r cut e = recipe_symbol least line first words (symbol_of least first) r cut refl e

pub recipe_of-read : (least : ℕ) (line : List ℕ) (r : Recipe) → recipe_of least line ≡ Some r → IsRecipeLine least line r
unfolding recipe_of
recipe_of-read least line r e = recipe_first least line (pieces 32 line) r refl e

pub recipe_of-printed : (least : ℕ) (r : Recipe) → IsNext least r → recipe_of least (recipe_text r) ≡ Some r
unfolding recipe_of
recipe_of-printed least r next =
    ap (recipe_of_words least) (recipe_words r next.symbol next.sources)
    ∙ ap (option_and_then (λ n. option_map (recipe_by n) (set_after (codes "=") (codes "=" ∷ map decimal (members r.equation))))) (symbol-printed least r.symbol next.later next.symbol)
    ∙ ap (option_map (recipe_by r.symbol)) (set_after-printed (codes "=") r.equation next.sources)

-- ---- the first line

pub kind_of-read : (line : List ℕ) (kind : Kind) → kind_of line ≡ Some kind → line ≡ head_text kind
unfolding kind_of
kind_of-read line kind e = least (bytes_eq line (head_text Least)) refl e
  where
    given : (b : Bool) → bytes_eq line (head_text Given) ≡ b → cond b (Some Given) None ≡ Some kind → line ≡ head_text kind
    given true is e = let same : Given ≡ kind = cc in bytes_eq_true line (head_text Given) is ∙ ap head_text same
    given false is e = cc

    spent : (b : Bool) → bytes_eq line (head_text Spent) ≡ b → cond b (Some Spent) (cond (bytes_eq line (head_text Given)) (Some Given) None) ≡ Some kind → line ≡ head_text kind
    spent true is e = let same : Spent ≡ kind = cc in bytes_eq_true line (head_text Spent) is ∙ ap head_text same
    spent false is e = given (bytes_eq line (head_text Given)) refl e

    least : (b : Bool) → bytes_eq line (head_text Least) ≡ b
        → cond b (Some Least) (cond (bytes_eq line (head_text Spent)) (Some Spent) (cond (bytes_eq line (head_text Given)) (Some Given) None)) ≡ Some kind → line ≡ head_text kind
    least true is e = let same : Least ≡ kind = cc in bytes_eq_true line (head_text Least) is ∙ ap head_text same
    least false is e = spent (bytes_eq line (head_text Spent)) refl e

pub kind_of-printed : (kind : Kind) → kind_of (head_text kind) ≡ Some kind
unfolding kind_of
kind_of-printed Least = refl
kind_of-printed Spent = refl
kind_of-printed Given = refl
