-- Slots of equal size in a buffer: the first of them hold one thing, and the others another.
use Rattle.std.proofs.Common.{◌≡◌, ℕ, ◌+◌, ◌*◌, ◌<◌, ◌≤◌, List, [], ◌∷◌, ◌++◌, take, drop, flat_map, length, get_or, sym, ap, ap₂, ◌∙◌, arith, add-one, zero-mul}
use Rattle.std.proofs.Math.Nat.{suc-mul}
use Rattle.std.proofs.Math.Seq.{drop-cons}
use Rattle.std.proofs.lemmas.Grind.{flat_map-append}
use Rattle.std.proofs.lemmas.List.{drop_all, take_all, take_at, drop_at, take_more, take-append-drop, append-nil, append_assoc, length-append, length-take-le}
use borrow.Rule.Slice.PartMut.{put_mid}

-- the slots of the first k items hold what g says, and the others what f says
abbrev pub filled : {X : Type 0} → (X → List ℕ) → (X → List ℕ) → ℕ → List X → List ℕ
filled g f k xs = flat_map g (take k xs) ++ flat_map f (drop k xs)

pub length-slots : {X : Type 0} (f : X → List ℕ) (m : ℕ) (xs : List X) → ((x : X) → length (f x) ≡ m) → length (flat_map f xs) ≡ length xs * m
length-slots f m [] sizes = sym (zero-mul m)
length-slots f m (x ∷ xs) sizes = length-append (f x) (flat_map f xs) ∙ omega (arith, sizes x, length-slots f m xs sizes, suc-mul (length xs) m)

module _ {X : Type 0} (g f : X → List ℕ) (m : ℕ) (xs : List X) (sizes_g : (x : X) → length (g x) ≡ m) (sizes_f : (x : X) → length (f x) ≡ m) where
  -- one slot more
  filled-more : (k : ℕ) (x : X) → k < length xs → filled g f (k + 1) xs ≡ flat_map g (take k xs) ++ (g (get_or xs k x) ++ flat_map f (drop (k + 1) xs))
  filled-more k x h =
      ap (λ ys. flat_map g ys ++ flat_map f (drop (k + 1) xs)) (take_more xs k x h)
      ∙ ap (λ ys. ys ++ flat_map f (drop (k + 1) xs)) (flat_map-append g (take k xs) (get_or xs k x ∷ []) ∙ ap (λ ys. flat_map g (take k xs) ++ ys) (append-nil (g (get_or xs k x))))
      ∙ append_assoc (flat_map g (take k xs)) (g (get_or xs k x)) (flat_map f (drop (k + 1) xs))

  filled-here : (k : ℕ) (x : X) → k < length xs → filled g f k xs ≡ flat_map g (take k xs) ++ (f (get_or xs k x) ++ flat_map f (drop (k + 1) xs))
  filled-here k x h =
      ap (λ ys. flat_map g (take k xs) ++ flat_map f ys) (drop-cons xs k x h)
      ∙ ap (λ n. flat_map g (take k xs) ++ (f (get_or xs k x) ++ flat_map f (drop n xs))) (sym (add-one k))

  length-done : (k : ℕ) → k < length xs → length (flat_map g (take k xs)) ≡ k * m
  length-done k h = length-slots g m (take k xs) sizes_g ∙ ap (λ n. n * m) (length-take-le k xs (omega arith))

  -- what stands in slot k
  pub filled-slot : (k : ℕ) (x : X) → k < length xs → take m (drop (k * m) (filled g f k xs)) ≡ f (get_or xs k x)
  filled-slot k x h =
      let front : List ℕ = flat_map g (take k xs) in
      let rest : List ℕ = flat_map f (drop (k + 1) xs) in
      (λ j. take m (drop (k * m) (filled-here k x h j)))
      ∙ ap (take m) (drop_at front (f (get_or xs k x) ++ rest) (k * m) (length-done k h))
      ∙ take_at (f (get_or xs k x)) rest m (sizes_f (get_or xs k x))

  -- what g says is written into slot k
  pub filled-put : (k size : ℕ) (x : X) (now y : List ℕ) → k < length xs → size ≡ m → now ≡ filled g f k xs → y ≡ g (get_or xs k x)
      → put_mid (k * m) size now y ≡ filled g f (k + 1) xs
  filled-put k size x now y h s e written =
      let front : List ℕ = flat_map g (take k xs) in
      let here : List ℕ = f (get_or xs k x) in
      let rest : List ℕ = flat_map f (drop (k + 1) xs) in
      let long : length front ≡ k * m = length-done k h in
      let behind : drop m (here ++ rest) ≡ rest = drop_at here rest m (sizes_f (get_or xs k x)) in
      (λ j. put_mid (k * m) (s j) ((e ∙ filled-here k x h) j) (written j))
      ∙ (λ j. take_at front (here ++ rest) (k * m) long j ++ (g (get_or xs k x) ++ drop m (drop_at front (here ++ rest) (k * m) long j)))
      ∙ ap (λ ys. front ++ (g (get_or xs k x) ++ ys)) behind
      ∙ sym (filled-more k x h)

  -- slot k holds already what g says
  pub filled-keep : (k : ℕ) (x : X) → k < length xs → f (get_or xs k x) ≡ g (get_or xs k x) → filled g f k xs ≡ filled g f (k + 1) xs
  filled-keep k x h same =
      filled-here k x h ∙ ap (λ ys. flat_map g (take k xs) ++ (ys ++ flat_map f (drop (k + 1) xs))) same ∙ sym (filled-more k x h)

-- all slots hold what g says
pub filled-all : {X : Type 0} (g f : X → List ℕ) (k : ℕ) (xs : List X) → length xs ≤ k → filled g f k xs ≡ flat_map g xs
filled-all g f k xs h =
    ap₂ (λ ys zs. flat_map g ys ++ flat_map f zs) (take_all k xs h) (drop_all k xs h)
    ∙ append-nil (flat_map g xs)

-- what stands in slot k
pub slot-at : {X : Type 0} (f : X → List ℕ) (m : ℕ) (xs : List X) → ((x : X) → length (f x) ≡ m) → (k : ℕ) (x : X) → k < length xs
    → take m (drop (k * m) (flat_map f xs)) ≡ f (get_or xs k x)
slot-at f m xs sizes k x h =
    ap (λ ys. take m (drop (k * m) ys)) (ap (flat_map f) (sym (take-append-drop k xs)) ∙ flat_map-append f (take k xs) (drop k xs))
    ∙ filled-slot f f m xs sizes sizes k x h
