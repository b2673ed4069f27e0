-- A look-up that goes through a list from the front.
use Rattle.std.proofs.Common.{◌≡◌, ℕ, ◌+◌, ◌<◌, List, ◌∷◌, add-one, ap, cond, drop, suc, false, get_or, length, map, sym, true, ◌∙◌}
use Rattle.std.specs.Prelude.{Bool, Some}
use Rattle.std.specs.Map.{lookup}
use Rattle.std.proofs.Math.Seq.{drop-cons}

module _ {X K V : Type 0} (entry : X → K × V) (test : K → Bool) where
  -- The look-up from an index on looks at that element, and then from the next index on.
  lookup_at : (xs : List X) (i : ℕ) (x : X) → i < length xs → x ≡ get_or xs i x
      → lookup test (map entry (drop i xs)) ≡ cond (test (entry x).0) (Some (entry x).1) (lookup test (map entry (drop (i + 1) xs)))
  lookup_at xs i x h e =
      ap (λ ys. lookup test (map entry ys)) (drop-cons xs i x h ∙ ap (λ y. y ∷ drop (suc i) xs) (sym e))
      ∙ ap (λ n. cond (test (entry x).0) (Some (entry x).1) (lookup test (map entry (drop n xs)))) (sym (add-one i))

  -- Past an element that does not pass the test.
  pub lookup_past : (xs : List X) (i : ℕ) (x : X) → i < length xs → x ≡ get_or xs i x → test (entry x).0 ≡ false
      → lookup test (map entry (drop i xs)) ≡ lookup test (map entry (drop (i + 1) xs))
  lookup_past xs i x h e f =
      lookup_at xs i x h e ∙ ap (λ b. cond b (Some (entry x).1) (lookup test (map entry (drop (i + 1) xs)))) f

  -- At an element that passes it.
  pub lookup_here : (xs : List X) (i : ℕ) (x : X) → i < length xs → x ≡ get_or xs i x → test (entry x).0 ≡ true
      → lookup test (map entry (drop i xs)) ≡ Some (entry x).1
  lookup_here xs i x h e f =
      lookup_at xs i x h e ∙ ap (λ b. cond b (Some (entry x).1) (lookup test (map entry (drop (i + 1) xs)))) f
