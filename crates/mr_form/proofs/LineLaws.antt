-- Lines that are expected, and the lines that there are.
use Rattle.std.proofs.Common.{◌≡◌, ℕ, ◌<◌, Bool, true, false, cond, List, [], ◌∷◌, length, Option, Some, None, refl, sym, ap, ◌∙◌, arith, eqb}
use Rattle.std.proofs.lemmas.Bool.{ne_eqb}
use Rattle.std.specs.List.{onto_first}
use Rattle.mr_form.specs.declared.faults.LineKind.{LineKind}
use Rattle.mr_form.specs.declared.faults.LineKind.TheVariants.{Missing, NoEnd}
use Rattle.mr_form.specs.MatrixText.{lines, line_at, line_fault, is_end}

-- ---- a text has a line

pub record HasLine (text : List (List ℕ)) : Type 0 where
  pub first : List ℕ
  pub more : List (List ℕ)
  pub is : text ≡ first ∷ more

onto-some : (b : ℕ) (text : List (List ℕ)) → HasLine (onto_first b text)
onto-some b [] = record { first = b ∷ []; more = []; is = refl }
onto-some b (line ∷ more) = record { first = b ∷ line; more = more; is = refl }

pub lines-some : (bytes : List ℕ) → HasLine (lines bytes)
lines-some [] = record { first = []; more = []; is = refl }
lines-some (b ∷ bytes) = go (eqb b 10)
  where
    go : (t : Bool) → HasLine (cond t ([] ∷ lines bytes) (onto_first b (lines bytes)))
    go true = record { first = []; more = lines bytes; is = refl }
    go false = onto-some b (lines bytes)

-- ---- the end of a text

two_lines : (line : List ℕ) (text : List (List ℕ)) → HasLine text → is_end (line ∷ text) ≡ false
unfolding is_end
two_lines line text h = ap (λ l. is_end (line ∷ l)) h.is

onto-end : (b : ℕ) (text : List (List ℕ)) → is_end (onto_first b text) ≡ false
unfolding is_end
onto-end b [] = refl
onto-end b (line ∷ []) = ne_eqb _ _ (λ e. omega (arith, e))
onto-end b (line ∷ next ∷ more) = refl

-- no byte is left where the lines are those of no byte
pub end-nil : is_end (lines []) ≡ true
unfolding is_end
end-nil = refl

pub end-cons : (b : ℕ) (bytes : List ℕ) → is_end (lines (b ∷ bytes)) ≡ false
end-cons b bytes = go (eqb b 10)
  where
    go : (t : Bool) → is_end (cond t ([] ∷ lines bytes) (onto_first b (lines bytes))) ≡ false
    go true = two_lines [] (lines bytes) (lines-some bytes)
    go false = onto-end b (lines bytes)

pub end-lines : (bytes : List ℕ) → is_end (lines bytes) ≡ eqb (length bytes) 0
end-lines [] = end-nil
end-lines (b ∷ bytes) = end-cons b bytes ∙ sym (ne_eqb _ _ (λ e. omega (arith, e)))

-- ---- what is wrong with a line

-- a line with its line feed
pub fault-ended : (form : List ℕ → Bool) (kind : LineKind) (text : List (List ℕ)) (line rest : List ℕ)
    → text ≡ line ∷ lines rest → line_fault form kind text ≡ cond (form line) None (Some kind)
unfolding line_fault
fault-ended form kind text line rest e =
    let h = lines-some rest in
    ap (line_fault form kind) (e ∙ ap (λ l. line ∷ l) h.is)

-- a last line
pub fault-last : (form : List ℕ → Bool) (kind : LineKind) (text : List (List ℕ)) (line : List ℕ)
    → text ≡ line ∷ [] → line_fault form kind text ≡ Some (cond (eqb (length line) 0) Missing NoEnd)
unfolding line_fault
fault-last form kind text line e = ap (line_fault form kind) e

-- What a line is that nothing is wrong with: it has its form, and another line stands behind it.
pub record IsGood (form : List ℕ → Bool) (text : List (List ℕ)) : Type 0 where
  pub formed : form (line_at text 0) ≡ true
  pub more : 1 < length text

pub some_none : {X : Type 0} (x : X) → ◌≡◌ {A = Option X} (Some x) None → ⊥
some_none x e = cc

pub good-line : (form : List ℕ → Bool) (kind : LineKind) (text : List (List ℕ)) → line_fault form kind text ≡ None → IsGood form text
unfolding line_fault
good-line form kind [] e = absurd (some_none _ e)
good-line form kind (line ∷ []) e = absurd (some_none _ e)
good-line form kind (line ∷ next ∷ more) e = record { formed = go (form line) e; more = omega arith }
  where
    go : (t : Bool) → cond t None (Some kind) ≡ None → t ≡ true
    go true h = refl
    go false h = absurd (some_none _ h)

-- a line with its line feed that has its form
pub good-fault : (form : List ℕ → Bool) (kind : LineKind) (text : List (List ℕ)) → 1 < length text → form (line_at text 0) ≡ true
    → line_fault form kind text ≡ None
unfolding line_fault
good-fault form kind [] more h = absurd (omega (arith, more))
good-fault form kind (line ∷ []) more h = absurd (omega (arith, more))
good-fault form kind (line ∷ next ∷ rest) more h = ap (λ t. cond t None (Some kind)) h
