-- The rule after a step of one pass, which changes the words and what that pass knows.
use Rattle.std.proofs.Common.{◌≡◌, ◌≢◌, ℕ, ◌+◌, ◌<◌, ◌≤◌, List, cond, length, set, get_or, sum_by, sym, refl, ap, subst, ◌∙◌, ⊎_elim, arith}
use Rattle.std.specs.Prelude.{nat_le, nat_lt, if◌then◌else◌}
use Rattle.std.specs.List.{range_with_len}
use Rattle.std.proofs.lemmas.Bool.Decides.{nat_tests}
use Rattle.std.proofs.lemmas.List.FromFn.{length-range_with_len}
use mathlib.Core.Option.{some}
use lib.ListN.{get_elem?}
use lib.Seq.{set-get_or}
use Rattle.atomic_table.proofs.Lists.{at_set}
use Rattle.mr_counts.specs.Numbers.{times, next_above, AreEachBelow}
use Rattle.mr_counts.specs.Shares.{whole_share}
use Rattle.mr_counts.proofs.Sums.{sum_by-set_at, at-le-sum_by, sum_by-only, sum_by-le-at}
use Rattle.mr_counts.proofs.NumberLaws.{sum_by-one, beyond-range, times-range, next_above-le}
use Rattle.mr_board.specs.Terms.{BoardTerms, stripes_of, words_of}
use Rattle.mr_board.specs.Rights.{IsRight}
use Rattle.mr_board.specs.Rule.{drawn, state, word_at, IsOpen, Fits, IsKept}
use Rattle.mr_board.specs.declared.view.PassView.{PassView}
use Rattle.mr_board.proofs.Numbers.{is_at, two-le-sum_by}

-- the parts that a pass has or may split off, and what its draws weigh
abbrev pub share : PassView → ℕ
share v = v.parts + v.left

abbrev pub weight : (ℕ → ℕ) → PassView → ℕ
weight h v = sum_by h v.draws

-- 1 at a number of no stripe
abbrev pub past : ℕ → ℕ → ℕ
past stripes n = cond (nat_le stripes n) 1 0

-- the view stands in the list at this place
abbrev pub IsAt : List PassView → ℕ → PassView → Type 0
IsAt views id v = get_elem? views id ≡ some v

-- what holds of each view holds of each after a change of one
pub each_set : (P : PassView → Type 0) (views : List PassView) (id : ℕ) (w : PassView) → P w
    → ((j : ℕ) (u : PassView) → j ≢ id → IsAt views j u → P u)
    → (j : ℕ) (u : PassView) → IsAt (set views id w) j u → P u
each_set P views id w mine others j u e = ⊎_elim
    (λ (x : (j ≡ id) × (w ≡ u)). subst P x.1 mine)
    (λ (x : (j ≢ id) × IsAt views j u). others j u x.0 x.1)
    (at_set views id j w u e)

module _ (terms : BoardTerms) where
  pub right_along : (t i x y : ℕ) → y ≡ x → IsRight terms t i x → IsRight terms t i y
  right_along t i x y e = subst (IsRight terms t i) (sym e)

  -- stripe t is as it was
  pub record IsSame (words words' : List ℕ) (t : ℕ) : Type 0 where
    pub state_same : state words' t ≡ state words t
    pub words_same : (i : ℕ) → i < words_of terms → word_at terms words' t i ≡ word_at terms words t i

  open_along : (words words' : List ℕ) (v : PassView) (t : ℕ) → IsSame words words' t → IsOpen terms words v t → IsOpen terms words' v t
  open_along words words' v t same o = record {
    stripe = o.stripe;
    drew = o.drew;
    kept = o.kept;
    undone = same.state_same ∙ o.undone;
    few_filled = o.few_filled;
    right = λ i l. right_along t i _ _ (same.words_same i (omega (arith, l, o.few_filled))) (o.right i l);
  }

  -- A pass's knowledge stands on the stripes that it drew, and on those that are done.
  fits_along : (words words' : List ℕ) (v : PassView)
      → ((t : ℕ) → t < stripes_of terms → state words t ≡ 1 → state words' t ≡ 1)
      → ((t : ℕ) → t < stripes_of terms → 0 < times t v.draws → IsSame words words' t)
      → Fits terms words v → Fits terms words' v
  fits_along words words' v rise same f = record {
    names_terms = f.names_terms;
    spent = f.spent;
    few_beyond = f.few_beyond;
    works = λ t is. let o = f.works t is in open_along words words' v t (same t o.stripe o.drew) o;
    saw = λ t h. let d = f.saw t h in record { stripe = d.stripe; is_done = rise t d.stripe d.is_done };
    gave = λ t h. let g = f.gave t h in
        record { stripe = g.stripe; drew = g.drew; undone = (same t g.stripe g.drew).state_same ∙ g.undone };
    settled = f.settled;
  }

  -- what a step of one pass owes, which changes the words and what the pass knows from v to w
  pub record Change (words : List ℕ) (v w : PassView) (words' : List ℕ) : Type 0 where
    pub size : length words' ≡ length words
    pub draws : (h : ℕ → ℕ) → weight h w + sum_by h (range_with_len 0 (drawn words))
        ≡ weight h v + sum_by h (range_with_len 0 (drawn words'))
    pub parts : share w ≡ share v
    pub states : (t : ℕ) → t < stripes_of terms → state words' t < 2
    pub fresh : (t : ℕ) → t < stripes_of terms → drawn words' ≤ t → state words' t ≡ 0
    pub done : (t i : ℕ) → t < stripes_of terms → state words' t ≡ 1 → i < words_of terms
        → IsRight terms t i (word_at terms words' t i)
    pub rise : (t : ℕ) → t < stripes_of terms → state words t ≡ 1 → state words' t ≡ 1
    pub others : (t : ℕ) → t < stripes_of terms → times t v.draws ≡ 0 → IsSame words words' t
    pub fits : Fits terms words' w

  module _ (words : List ℕ) (views : List PassView) (k : IsKept terms words views) where
    -- each pass draws at most one number of no stripe for each of its parts
    pub drawn-le : drawn words ≤ stripes_of terms + whole_share
    drawn-le =
        let most = sum_by-le-at share (weight (past (stripes_of terms))) views (λ j u at. omega (arith, (k.each_fits j u at).few_beyond)) in
        omega (arith, most, k.all_parts, k.all_draws (past (stripes_of terms)), beyond-range (stripes_of terms) (drawn words))

    module _ (id : ℕ) (v : PassView) (at : IsAt views id v) where
      -- no number is drawn by two passes
      alone : (j : ℕ) (u : PassView) (t : ℕ) → j ≢ id → IsAt views j u → 0 < times t u.draws → times t v.draws ≡ 0
      alone j u t ne at' drew = let once : (if nat_lt t (drawn words) then 1 else 0) ≤ 1 = grind (arith, nat_tests) in omega (
        arith,
        two-le-sum_by (weight (is_at t)) views id j v u ne at at',
        k.all_draws (is_at t),
        times-range t (drawn words),
        once,
        drew,
      )

      -- what a pass drew is below the count
      pub drawn_below : next_above v.draws ≤ drawn words
      drawn_below = next_above-le (drawn words) v.draws
          (omega (arith, at-le-sum_by (weight (past (drawn words))) views id v at, k.all_draws (past (drawn words)), beyond-range (drawn words) (drawn words)))

      -- where one pass has all parts, it has all draws
      pub whole : share v ≡ whole_share → AreEachBelow v.draws (length v.draws)
      whole all x = sym (own (is_at x)) ∙ k.all_draws (is_at x) ∙ times-range x (drawn words) ∙ ap (λ n. once n) size
        where
          once : ℕ → ℕ
          once n = if nat_lt x n then 1 else 0

          own : (h : ℕ → ℕ) → sum_by (weight h) views ≡ weight h v
          own h = sum_by-only share (weight h) views id v at (k.all_parts ∙ sym all)
              (λ j u e none. ap (sum_by h) ((k.each_fits j u e).spent (omega (arith, none))))

          size : drawn words ≡ length v.draws
          size = omega (
            arith,
            own (λ _. 1),
            k.all_draws (λ _. 1),
            sum_by-one v.draws,
            sum_by-one (range_with_len 0 (drawn words)),
            length-range_with_len 0 (drawn words),
          )

      -- the step of one pass keeps the rule
      pub changed : (w : PassView) (words' : List ℕ) → Change words v w words' → IsKept terms words' (set views id w)
      changed w words' c = record {
        few_stripes = k.few_stripes;
        size = c.size ∙ k.size;
        all_draws = λ h. omega (arith, sum_by-set_at (weight h) views id v w at, k.all_draws h, c.draws h);
        all_parts = omega (arith, sum_by-set_at share views id v w at, k.all_parts, c.parts);
        states = c.states;
        fresh = c.fresh;
        done = c.done;
        each_fits = each_set (Fits terms words') views id w c.fits
            (λ j u ne e. fits_along words words' u c.rise (λ t l drew. c.others t l (alone j u t ne e drew)) (k.each_fits j u e));
      }

      -- a step that leaves the words as they are
      calm : (w : PassView) → w.draws ≡ v.draws → share w ≡ share v → Fits terms words w → Change words v w words
      calm w same parts fits = record {
        size = refl;
        draws = λ h. ap (λ (ns : List ℕ). sum_by h ns + sum_by h (range_with_len 0 (drawn words))) same;
        parts = parts;
        states = k.states;
        fresh = k.fresh;
        done = k.done;
        rise = λ t l e. e;
        others = λ t l none. record { state_same = refl; words_same = λ i m. refl };
        fits = fits;
      }

      -- a load of the word at some place
      pub loaded : (place : ℕ) (w : PassView) → w.draws ≡ v.draws → share w ≡ share v → Fits terms words w
          → IsKept terms (set words place (get_or words place 0)) (set views id w)
      loaded place w same parts fits = subst (λ (ws : List ℕ). IsKept terms ws (set views id w))
          (sym (set-get_or words place 0)) (changed w words (calm w same parts fits))
