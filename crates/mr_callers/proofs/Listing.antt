-- Items that go from one list to another, one after another.
use Rattle.std.proofs.Common.{◌≡◌, ◌<◌, List, [], ◌∷◌, ◌++◌, length, map, All, sym, refl, ap, subst, arith}
use Rattle.std.proofs.lemmas.List.{get_or-map}

-- what f makes of the items is that of those taken, and then of those left
pub gained : {A B : Type 0} (f : A → B) (ws : List A) (w : A) (xs rest : List B) → xs ≡ f w ∷ rest → map f (ws ++ w ∷ []) ++ rest ≡ map f ws ++ xs
gained f [] w xs rest e = sym e
gained {A} {B} f (y ∷ ws) w xs rest e = ap (λ (l : List B). f y ∷ l) (gained f ws w xs rest e)

pub length_all : {A B : Type 0} (f : A → B) (l : List A) → length (map f l) ≡ length l
length_all f [] = refl
length_all f (x ∷ l) = omega (arith, length_all f l)

-- an item of a list that has some
pub some_in : {A : Type 0} (l : List A) → 0 < length l → A
some_in [] h = absurd (omega arith)
some_in (x ∷ l) h = x

pub all_mapped : {A B : Type 0} (f : A → B) (P : B → Type 0) (l : List A) → All (λ a. P (f a)) l → All P (map f l)
all_mapped f P l a k d low =
    let long = length_all f l in
    let low' : k < length l = omega (arith, low, long) in
    let some : 0 < length l = omega (arith, low') in
    let x = some_in l some in subst P (sym (get_or-map f l k x d low')) (a k x low')
