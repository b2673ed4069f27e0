-- The least equation where pieces of the equations were looked through apart.
use Rattle.std.proofs.Common.{◌≡◌, ℕ, zero, suc, ◌<◌, List, [], ◌∷◌, ◌++◌, length, get_or, map, refl, sym, ◌∙◌, arith, ap, subst, ◌⊎◌, inl, inr, ⊎_elim}
use Rattle.std.specs.List.{Contains, range_with_len}
use Rattle.std.proofs.lemmas.List.{length-map}
use Rattle.std.proofs.lemmas.List.FromFn.{get_or-map-range_with_len, length-range_with_len}
use Rattle.std.proofs.lemmas.List.Elements.{Contains-append_left, Contains-append_right, Contains-append_cases, Contains-get_or}
use Rattle.rayon.specs.Lists.{Reduces}
use Rattle.rayon.proofs.Reducing.{Reduces-elim}
use Rattle.mr_model.specs.Code.{cost}
use Rattle.mr_eq.specs.Problems.{Loss}
use Rattle.mr_eq.specs.Equations.{IsEarlier, IsUpTo, equations_at, priced_at}
use Rattle.mr_eq.proofs.LeastLaws.{IsLeastOf}

-- r is the start or an item, and none of these comes before it
record IsEarliest (start : ℕ × ℕ) (xs : List (ℕ × ℕ)) (r : ℕ × ℕ) : Type 0 where
  among : (r ≡ start) ⊎ Contains xs r
  from_start : IsUpTo r start
  from_item : (y : ℕ × ℕ) → Contains xs y → IsUpTo r y

up_to-trans : (x y z : ℕ × ℕ) → IsUpTo x y → IsUpTo y z → IsUpTo x z
up_to-trans x y z h k = record {
  dearer = omega (arith, h.dearer, k.dearer);
  greater = λ same. omega (arith, same, h.dearer, k.dearer, h.greater, k.greater);
}

up_to-same : (x y : ℕ × ℕ) → x ≡ y → IsUpTo x y
up_to-same x y e = subst (λ z. IsUpTo x z) e (record { dearer = omega arith; greater = λ _. omega arith })

lone : (x y : ℕ × ℕ) (k : ℕ) → k < 1 → get_or (x ∷ []) k y ≡ y → IsUpTo x y
lone x y zero low e = up_to-same x y e
lone x y (suc k) low e = absurd (omega arith)

module _ (start : ℕ × ℕ) where
  earliest-start : (e : ℕ × ℕ) → e ≡ start → IsEarliest start [] e
  earliest-start e same = record {
    among = inl same;
    from_start = up_to-same e start same;
    from_item = λ y c. absurd (omega (arith, c.1));
  }

  module _ (xs ys : List (ℕ × ℕ)) (a b r : ℕ × ℕ) (left : IsEarliest start xs a) (one : IsEarlier a b r) where
    beside : (b ≡ start) ⊎ Contains ys b → ((y : ℕ × ℕ) → Contains ys y → IsUpTo b y) → IsEarliest start (xs ++ ys) r
    beside among from_item = record {
      among = ⊎_elim
          (λ (e : r ≡ a). ⊎_elim
          (λ (s : a ≡ start). inl (e ∙ s))
          (λ (c : Contains xs a). inr (Contains-append_left xs ys r (subst (Contains xs) (sym e) c)))
          left.among)
          (λ (e : r ≡ b). ⊎_elim
          (λ (s : b ≡ start). inl (e ∙ s))
          (λ (c : Contains ys b). inr (Contains-append_right xs ys r (subst (Contains ys) (sym e) c)))
          among)
          one.one;
      from_start = up_to-trans r a start one.first left.from_start;
      from_item = λ y c. ⊎_elim
          (λ (l : Contains xs y). up_to-trans r a y one.first (left.from_item y l))
          (λ (l : Contains ys y). up_to-trans r b y one.second (from_item y l))
          (Contains-append_cases xs ys y c);
    }

  earliest-more : (xs : List (ℕ × ℕ)) (a x r : ℕ × ℕ) → IsEarliest start xs a → IsEarlier a x r → IsEarliest start (xs ++ x ∷ []) r
  earliest-more xs a x r left one = beside xs (x ∷ []) a x r left one (inr (0, omega arith, refl)) (λ y c. lone x y c.0 c.1 c.2)

  earliest-join : (xs ys : List (ℕ × ℕ)) (a b r : ℕ × ℕ) → IsEarliest start xs a → IsEarliest start ys b → IsEarlier a b r
      → IsEarliest start (xs ++ ys) r
  earliest-join xs ys a b r left right one = beside xs ys a b r left one right.among right.from_item

  reduced-earliest : (xs : List (ℕ × ℕ)) (r : ℕ × ℕ) → Reduces (λ e. e ≡ start) IsEarlier xs r → IsEarliest start xs r
  reduced-earliest xs r = Reduces-elim (λ e. e ≡ start) IsEarlier (IsEarliest start) earliest-start earliest-more earliest-join xs r

-- of the first n equations of a target, each behind its cost, what is left is the least
module _ (p : Loss) (level n : ℕ) (some : 0 < n) where
  least_at : (j : ℕ) → j < n → ((k : ℕ) → k < n → IsUpTo (priced_at p level j) (priced_at p level k))
      → IsLeastOf (cost p.code) (equations_at p level) n (get_or (equations_at p level) j 0)
  least_at j low h = record {
    place = j;
    in_range = low;
    item = refl;
    least = λ k under. record { dearer = (h k under).dearer; greater = (h k under).greater };
  }

  module _ (xs : List (ℕ × ℕ)) (all : xs ≡ map (priced_at p level) (range_with_len 0 n)) where
    many : length xs ≡ n
    many = ap length all ∙ length-map (range_with_len 0 n) (priced_at p level) ∙ length-range_with_len 0 n

    item_at : (k : ℕ) (d : ℕ × ℕ) → k < n → get_or xs k d ≡ priced_at p level k
    item_at k d low = ap (λ l. get_or l k d) all ∙ get_or-map-range_with_len (priced_at p level) 0 n k k d low (omega arith)

    pub split-least : (r : ℕ × ℕ) → Reduces (λ e. e ≡ priced_at p level 0) IsEarlier xs r
        → IsLeastOf (cost p.code) (equations_at p level) n r.1
    split-least r reduced = ⊎_elim
        (λ (e : r ≡ priced_at p level 0). at 0 some e)
        (λ (c : Contains xs r). at c.0 (omega (arith, c.1, many)) (sym c.2 ∙ item_at c.0 r (omega (arith, c.1, many))))
        found.among
      where
        found : IsEarliest (priced_at p level 0) xs r
        found = reduced-earliest (priced_at p level 0) xs r reduced

        before : (k : ℕ) → k < n → IsUpTo r (priced_at p level k)
        before k low = found.from_item (priced_at p level k)
            (subst (Contains xs) (item_at k r low) (Contains-get_or xs k r (omega (arith, low, many))))

        at : (j : ℕ) → j < n → r ≡ priced_at p level j → IsLeastOf (cost p.code) (equations_at p level) n r.1
        at j low e = subst (λ (x : ℕ). IsLeastOf (cost p.code) (equations_at p level) n x) (sym (ap (λ (q : ℕ × ℕ). q.1) e))
            (least_at j low (λ k under. subst (λ (q : ℕ × ℕ). IsUpTo q (priced_at p level k)) e (before k under)))
