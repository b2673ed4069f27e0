-- Device files that are opened one after another.
use Rattle.std.proofs.Common.{◌≡◌, ◌∙◌, ◌+◌, ◌<◌, ◌≤◌, ℕ, List, [], ◌∷◌, ◌++◌, length, map, take, get_or, option_map, Option, Some, None, refl, sym, ap, append_assoc}
use Rattle.std.proofs.lemmas.List.{append-nil, map-append, take_all, take_more}
use Rattle.mr_devices.specs.Writing.{Shelf, opening}
use Rattle.mr_scatter_run.specs.Tasks.{opening_all}

-- no file
pub opening-none : (shelf : Shelf) → opening_all [] shelf ≡ shelf
opening-none shelf = λ j. record shelf { opened = append-nil shelf.opened j }

-- one file more
pub opening-more : (names : List (List ℕ)) (name : List ℕ) (shelf : Shelf) → opening name (opening_all names shelf) ≡ opening_all (names ++ name ∷ []) shelf
opening-more names name shelf =
    λ j. record shelf { opened = (append_assoc shelf.opened (map shelf.contents names) (shelf.contents name ∷ []) ∙ ap (λ xs. shelf.opened ++ xs) (sym (map-append shelf.contents names (name ∷ [])))) j }

pub told-none : (told : Option Shelf) → told ≡ option_map (opening_all []) told
told-none None = refl
told-none (Some shelf) = ap Some (sym (opening-none shelf))

-- the next name is opened
pub told-more : (old now next : Option Shelf) (names : List (List ℕ)) (k : ℕ) (name : List ℕ) → k < length names → name ≡ get_or names k [] → now ≡ option_map (opening_all (take k names)) old
    → next ≡ option_map (opening name) now → next ≡ option_map (opening_all (take (k + 1) names)) old
told-more old now next names k name low is so_far opens =
    opens ∙ ap (option_map (opening name)) so_far ∙ go old
    ∙ ap (λ xs. option_map (opening_all xs) old) (ap (λ n. take k names ++ n ∷ []) is ∙ sym (take_more names k [] low))
  where
    go : (old : Option Shelf) → option_map (opening name) (option_map (opening_all (take k names)) old) ≡ option_map (opening_all (take k names ++ name ∷ [])) old
    go None = refl
    go (Some shelf) = ap Some (opening-more (take k names) name shelf)

pub told-all : (old now : Option Shelf) (names : List (List ℕ)) (k : ℕ) → length names ≤ k → now ≡ option_map (opening_all (take k names)) old → now ≡ option_map (opening_all names) old
told-all old now names k past so_far = so_far ∙ ap (λ xs. option_map (opening_all xs) old) (take_all k names past)
