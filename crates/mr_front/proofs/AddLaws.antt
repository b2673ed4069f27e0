-- Masks of a level added to the lists, run by run, and taken back from the last on.
use Rattle.std.proofs.Common.{◌≡◌, ℕ, suc, ◌+◌, ◌-◌, ◌<◌, ◌≤◌, List, [], ◌∷◌, ◌++◌, length, get_or, take, drop, sym, ◌∙◌, arith, ap, subst, append_assoc, append-nil}
use Rattle.std.specs.Prelude.{filter, slice_range}
use Rattle.std.specs.List.{All}
use Rattle.std.proofs.Math.Seq.{take-add, take-suc, drop-cons}
use Rattle.std.proofs.lemmas.List.{append_cancel_right, take-append-drop, length-take, length-drop}
use Rattle.std.proofs.lemmas.List.Elements.{filter-append}
use Rattle.mr_eq.specs.Problems.{Loss}
use Rattle.mr_front.specs.Waiting.{mask_cost}
use Rattle.mr_front.specs.Lists.{Lists, masks_at, belongs, HasAdded, HasSame, EndsWith}

pub added-none : (p : Loss) (m : Lists) (level : ℕ) → HasAdded p m m level []
added-none p m level q = sym (append-nil (masks_at m q))

pub added-trans : (p : Loss) (a b c : Lists) (level : ℕ) (xs ys : List ℕ) → HasAdded p a b level xs → HasAdded p b c level ys → HasAdded p a c level (xs ++ ys)
added-trans p a b c level xs ys h k q =
    k q ∙ ap (λ (vs : List ℕ). vs ++ filter (belongs p level q) ys) (h q)
    ∙ append_assoc (masks_at a q) (filter (belongs p level q) xs) (filter (belongs p level q) ys)
    ∙ ap (λ (vs : List ℕ). masks_at a q ++ vs) (sym (filter-append (belongs p level q) xs ys))

-- the list up to the end of a run: the list up to its start, and the run
pub take-run : (us : List ℕ) (start «end» : ℕ) → start ≤ «end» → take «end» us ≡ take start us ++ slice_range us start «end»
take-run us start «end» le = ap (λ n. take n us) (rest) ∙ take-add start («end» - start) us
  where
    rest : «end» ≡ start + («end» - start)
    rest = omega (arith, le)

pub run-some : (us : List ℕ) (start «end» : ℕ) → start < «end» → «end» ≤ length us → 0 < length (slice_range us start «end»)
run-some us start «end» after inside = omega (arith, length-take («end» - start) (drop start us), length-drop start us)

pub run-cost : (p : Loss) (run : List ℕ) (c : ℕ) → 0 < length run → All (λ u. mask_cost p u ≡ c) run → All (λ u. mask_cost p u ≡ mask_cost p (get_or run 0 0)) run
run-cost p run c some h k d low = h k d low ∙ sym (h 0 0 some)

-- what was added last stands at the end
pub added-ends : (p : Loss) (a b : Lists) (level : ℕ) (xs : List ℕ) → HasAdded p a b level xs → EndsWith p b level xs
added-ends p a b level xs h q = (masks_at a q, h q)

pub same-ends : (p : Loss) (a b : Lists) (level : ℕ) (xs : List ℕ) → HasSame a b → EndsWith p a level xs → EndsWith p b level xs
same-ends p a b level xs same h q = ((h q).0, same q ∙ (h q).1)

-- what was added and taken back leaves the lists as they were
pub taken-back : (p : Loss) (entry now tried left : Lists) (level : ℕ) (xs : List ℕ) → HasAdded p entry now level xs → HasSame now tried → HasAdded p left tried level xs → HasSame entry left
taken-back p entry now tried left level xs added same back q =
    append_cancel_right (masks_at left q) (masks_at entry q) (filter (belongs p level q) xs) (sym (back q) ∙ same q ∙ added q)

-- where masks were taken back from the place `left` on, the mask before it stands at the end of its list
pub ends-before : (p : Loss) (old now : Lists) (level : ℕ) (us : List ℕ) (left : ℕ) (u : ℕ) → EndsWith p old level us → suc left ≤ length us → u ≡ get_or us left u
    → HasAdded p now old level (drop (suc left) us) → EndsWith p now level (u ∷ [])
ends-before p old now level us left u ends low is back q =
    let test = belongs p level q in
    let rest = (ends q).0 in
    let parts : us ≡ (take left us ++ u ∷ []) ++ drop (suc left) us =
    sym (take-append-drop (suc left) us) ∙ ap (λ (vs : List ℕ). vs ++ drop (suc left) us) (take-suc us left u (omega (arith, low)) ∙ ap (λ v. take left us ++ v ∷ []) (sym is)) in
    let all : masks_at now q ++ filter test (drop (suc left) us) ≡ (rest ++ filter test (take left us ++ u ∷ [])) ++ filter test (drop (suc left) us) =
    sym (back q) ∙ (ends q).1 ∙ ap (λ (vs : List ℕ). rest ++ filter test vs) parts
    ∙ ap (λ (vs : List ℕ). rest ++ vs) (filter-append test (take left us ++ u ∷ []) (drop (suc left) us))
    ∙ sym (append_assoc rest (filter test (take left us ++ u ∷ [])) (filter test (drop (suc left) us))) in
    let here : masks_at now q ≡ rest ++ filter test (take left us ++ u ∷ []) =
    append_cancel_right (masks_at now q) (rest ++ filter test (take left us ++ u ∷ [])) (filter test (drop (suc left) us)) all in (
      rest ++ filter test (take left us),
      here ∙ ap (λ (vs : List ℕ). rest ++ vs) (filter-append test (take left us) (u ∷ [])) ∙ sym (append_assoc rest (filter test (take left us)) (filter test (u ∷ []))),
    )

pub back-more : (p : Loss) (old now new : Lists) (level : ℕ) (us : List ℕ) (left u : ℕ) → suc left ≤ length us → u ≡ get_or us left u
    → HasAdded p now old level (drop (suc left) us) → HasAdded p new now level (u ∷ []) → HasAdded p new old level (drop left us)
back-more p old now new level us left u low is back one =
    subst (λ (vs : List ℕ). HasAdded p new old level vs)
    (ap (λ v. v ∷ drop (suc left) us) is ∙ sym (drop-cons us left u (omega (arith, low))))
    (added-trans p new now old level (u ∷ []) (drop (suc left) us) one back)
