-- The children of the masks that were drawn.
use Rattle.std.proofs.Common.{◌≡◌, ℕ, zero, suc, ◌<◌, ◌≤◌, List, [], ◌∷◌, ◌++◌, length, get_or, refl, sym, arith, ap, subst, ⊎_elim}
use Rattle.std.specs.Prelude.{slice_index}
use Rattle.std.specs.List.{Contains}
use Rattle.std.proofs.lemmas.List.Elements.{Contains-append_right, Contains-append_cases}
use Rattle.mr_eq.specs.Problems.{Loss}
use Rattle.mr_counts.specs.Numbers.{AreEachBelow}
use Rattle.mr_counts.proofs.NumberLaws.{AreEachBelow-below, AreEachBelow-Contains}
use Rattle.mr_front.specs.declared.layers.Layer.{Layer}
use Rattle.mr_front.specs.Children.{children_of, children}
use Rattle.mr_front.proofs.JoinLaws.{child-place}
use Rattle.mr_search.specs.Layers.{Covers}

only-one : (n m : ℕ) → Contains (n ∷ []) m → n ≡ m
only-one n m h = go h.0 h.1 h.2
  where
    go : (k : ℕ) → k < length (n ∷ []) → get_or (n ∷ []) k m ≡ m → n ≡ m
    go zero low e = e
    go (suc k) low e = absurd (omega (arith, low))

pub cover-none : (p : Loss) (l : Layer) (most : ℕ) (draws : List ℕ) (there : ℕ → Type 0) → draws ≡ [] → Covers p l most draws there
cover-none p l most draws there e n u drawn low h = let none : length draws ≡ 0 = ap length e in absurd (omega (arith, drawn.1))

pub cover-one : (p : Loss) (l : Layer) (most n : ℕ) (there : ℕ → Type 0) → ((u : ℕ) → Contains (children_of p l.level most (slice_index l.masks n)) u → there u) → Covers p l most (n ∷ []) there
cover-one p l most n there h m u drawn low child =
    h u (subst (λ k. Contains (children_of p l.level most (slice_index l.masks k)) u) (sym (only-one n m drawn)) child)

pub cover-join : (p : Loss) (l : Layer) (most : ℕ) (ds es : List ℕ) (there : ℕ → Type 0) → Covers p l most ds there → Covers p l most es there → Covers p l most (ds ++ es) there
cover-join p l most ds es there h k n u drawn low child = ⊎_elim (λ (left : Contains ds n). h n u left low child) (λ (right : Contains es n). k n u right low child) (Contains-append_cases ds es n drawn)

pub cover-more : (p : Loss) (l : Layer) (most : ℕ) (ds : List ℕ) (there later : ℕ → Type 0) → ((u : ℕ) → there u → later u) → Covers p l most ds there → Covers p l most ds later
cover-more p l most ds there later more h n u drawn low child = more u (h n u drawn low child)

pub cover-past : (p : Loss) (l : Layer) (most n : ℕ) (there : ℕ → Type 0) → length l.masks ≤ n → Covers p l most (n ∷ []) there
cover-past p l most n there past m u drawn low child = absurd (omega (arith, only-one n m drawn, past, low))

pub drawn-last : (ds : List ℕ) (n : ℕ) → Contains (ds ++ n ∷ []) n
drawn-last ds n = Contains-append_right ds (n ∷ []) n (0, omega arith, refl)

-- where every mask was drawn, all children are there
pub cover-whole : (p : Loss) (l : Layer) (most chunks : ℕ) (draws : List ℕ) (there : ℕ → Type 0) → length l.masks ≤ chunks → AreEachBelow draws (length draws)
    → ((n : ℕ) × (chunks ≤ n) × Contains draws n) → Covers p l most draws there → (u : ℕ) → Contains (children p l.level most l.masks) u → there u
cover-whole p l most chunks draws there few all last h u child =
    let t = child-place p l most u child in
    let top = AreEachBelow-below draws (length draws) last.0 all last.2 in
    h t.0 u (AreEachBelow-Contains draws (length draws) t.0 all (omega (arith, last.1, top, t.1, few))) t.1 t.2
