-- A call that is among those that were made stands in the history, behind the calls that it had before it.
use Rattle.std.proofs.Common.{◌≡◌, ℕ, ◌<◌, ◌≤◌, ◌==◌, ◌&&◌, Bool, true, false, if◌then◌else◌, List, [], ◌∷◌, ◌++◌, eq-eqb, sym, refl, ap, ◌∙◌, arith}
use Rattle.std.proofs.lemmas.Bool.{eqb-true}
use Rattle.mr_history.specs.declared.entry.Entry.{Entry}
use Rattle.mr_history.specs.declared.entry.Entry.TheVariants.{Ask, Mend}
use Rattle.mr_locks.specs.Calls.{calls}

abbrev same_entry : Entry → Entry → Bool
same_entry (Ask j) (Ask k) = j == k
same_entry (Ask j) Mend = false
same_entry Mend (Ask k) = false
same_entry Mend Mend = true

abbrev same_log : List Entry → List Entry → Bool
same_log [] [] = true
same_log [] (y ∷ ys) = false
same_log (x ∷ xs) [] = false
same_log (x ∷ xs) (y ∷ ys) = same_entry x y && same_log xs ys

and_left : (p q : Bool) → (p && q) ≡ true → p ≡ true
and_left true q h = refl
and_left false q h = absurd (cc)

and_right : (p q : Bool) → (p && q) ≡ true → q ≡ true
and_right true q h = h
and_right false q h = absurd (cc)

both : (p q : Bool) → p ≡ true → q ≡ true → (p && q) ≡ true
both true q a b = b
both false q a b = absurd (cc)

entry_self : (x : Entry) → same_entry x x ≡ true
entry_self (Ask k) = eq-eqb k k refl
entry_self Mend = refl

entry_is : (x y : Entry) → same_entry x y ≡ true → x ≡ y
entry_is (Ask j) (Ask k) h = ap (λ (z : ℕ). Ask z) (eqb-true j k h)
entry_is (Ask j) Mend h = absurd (cc)
entry_is Mend (Ask k) h = absurd (cc)
entry_is Mend Mend h = refl

log_self : (xs : List Entry) → same_log xs xs ≡ true
log_self [] = refl
log_self (x ∷ xs) = both (same_entry x x) (same_log xs xs) (entry_self x) (log_self xs)

log_is : (xs ys : List Entry) → same_log xs ys ≡ true → xs ≡ ys
log_is [] [] h = refl
log_is [] (y ∷ ys) h = absurd (cc)
log_is (x ∷ xs) [] h = absurd (cc)
log_is (x ∷ xs) (y ∷ ys) h =
    let a = entry_is x y (and_left (same_entry x y) (same_log xs ys) h) in
    let b = log_is xs ys (and_right (same_entry x y) (same_log xs ys) h) in
    ap (λ (z : Entry). z ∷ xs) a ∙ ap (λ (l : List Entry). y ∷ l) b

-- 1 for this call, and else 0
abbrev at_call : List Entry → Entry → List Entry → Entry → ℕ
at_call before e log x = if same_log before log && same_entry e x then 1 else 0

at_self : (before : List Entry) (e : Entry) → at_call before e before e ≡ 1
at_self before e = ap (λ (b : Bool). if b then 1 else 0) (both (same_log before before) (same_entry e e) (log_self before) (entry_self e))

append_at : (a : List Entry) (x : Entry) (b : List Entry) → (a ++ x ∷ []) ++ b ≡ a ++ x ∷ b
append_at [] x b = refl
append_at (y ∷ a) x b = ap (λ (l : List Entry). y ∷ l) (append_at a x b)

split : (before : List Entry) (e : Entry) (seen es : List Entry) (x : Entry) (b : Bool) → (same_log before seen && same_entry e x) ≡ b → (at_call before e seen x ≡ 0 → (post : List Entry) × ((seen ++ x ∷ []) ++ es ≡ before ++ e ∷ post))
    → (post : List Entry) × (seen ++ x ∷ es ≡ before ++ e ∷ post)
split before e seen es x true is rest =
    let a = log_is before seen (and_left (same_log before seen) (same_entry e x) is) in
    let b = entry_is e x (and_right (same_log before seen) (same_entry e x) is) in
    (es, ap (λ (l : List Entry). l ++ x ∷ es) (sym a) ∙ ap (λ (z : Entry). before ++ z ∷ es) (sym b))
split before e seen es x false is rest =
    let none : at_call before e seen x ≡ 0 = ap (λ (b : Bool). if b then 1 else 0) is in
    let r = rest none in
    (r.0, sym (append_at seen x es) ∙ r.1)

found : (before : List Entry) (e : Entry) (seen es : List Entry) → 0 < calls (at_call before e) seen es → (post : List Entry) × (seen ++ es ≡ before ++ e ∷ post)
found before e seen [] h = absurd (omega arith)
found before e seen (x ∷ es) h = split before e seen es x (same_log before seen && same_entry e x) refl (λ none. found before e (seen ++ x ∷ []) es (omega arith))

-- where the calls made weigh what those of the history do, and the call e with this history before it is among them
pub stands : (made : (List Entry → Entry → ℕ) → ℕ) (history before : List Entry) (e : Entry) → ((h : List Entry → Entry → ℕ) → made h ≡ calls h [] history) → ((h : List Entry → Entry → ℕ) → h before e ≤ made h)
    → (post : List Entry) × (history ≡ before ++ e ∷ post)
stands made history before e all has =
    let a = all (at_call before e) in
    let b = has (at_call before e) in
    let c = at_self before e in
    found before e [] history (omega arith)
