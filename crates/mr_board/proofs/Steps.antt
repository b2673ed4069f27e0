-- Each step of a pass on a word keeps the rule.
use Rattle.std.proofs.Common.{◌≡◌, ◌≢◌, ℕ, suc, ◌+◌, ◌-◌, ◌%◌, ◌^◌, ◌<◌, ◌≤◌, List, [], ◌∷◌, cond, length, set, get_or, sum_by, Some, None, sym, refl, ap, subst, ◌∙◌, arith, add-one, length-set, get_or-set_same, get_or-set_other}
use Rattle.std.specs.Prelude.{nat_le}
use Rattle.std.specs.List.{range_with_len}
use Rattle.std.proofs.lemmas.Bool.Decides.{nat_tests}
use Rattle.std.proofs.lemmas.List.Sums.{sum_by-cons, sum_by_push}
use mathlib.Core.Logic.{dite}
use native.Mathlib.Decide.{ℕ_discrete}
use Rattle.atomic_table.specs.Table.{Me, keeps, Allows}
use Rattle.mr_counts.specs.Numbers.{times, next_above, AreEachBelow}
use Rattle.mr_counts.specs.Shares.{whole_share}
use Rattle.mr_counts.proofs.NumberLaws.{sum_by-one_more, beyond-none}
use Rattle.mr_board.specs.Terms.{BoardTerms, stripes_of, words_of}
use Rattle.mr_board.specs.Rights.{IsRight}
use Rattle.mr_board.specs.Views.{with_draw, with_word, with_done, with_given_up, with_look}
use Rattle.mr_board.specs.Rule.{Kept, IsKept, Fits, IsOpen, IsDone, state_place, word_place, drawn, state, word_at, opens}
use Rattle.mr_board.specs.declared.view.PassView.{PassView}
use Rattle.mr_board.proofs.Numbers.{is_at, is_at-same, is_at-else, times-push, zero_of, claimed-is, opens-drawn, same-some, push_if, stripe-before, places-apart}
use Rattle.mr_board.proofs.Changes.{past, right_along, IsSame, Change, drawn-le, drawn_below, whole, changed, loaded}

-- a number that stands in a list is below the least number above it
below_next : (x n : ℕ) (ns : List ℕ) → next_above ns ≤ n → 0 < times x ns → x < n
below_next x n [] h t = absurd (omega arith)
below_next x n (m ∷ ms) h t = dite (ℕ_discrete m x)
    (λ e. omega (arith, h, e))
    (λ ne. below_next x n ms (omega (arith, h)) (omega (arith, t, sum_by-cons (is_at x) m ms, is_at-else x m ne)))

-- the stripe of a state's place
pub state_word : (t : ℕ) → t ≡ state_place t - 1
state_word t = omega arith

module _ (terms : BoardTerms) where
  abbrev S : ℕ
  S = stripes_of terms

  abbrev W : ℕ
  W = words_of terms

  -- a view that says the same of its open stripe
  open_like : (words : List ℕ) (v w : PassView) (t : ℕ) → w.draws ≡ v.draws → w.gave ≡ v.gave → w.filled ≡ v.filled
      → IsOpen terms words v t → IsOpen terms words w t
  open_like words v w t drew gave filled o = record {
    stripe = o.stripe;
    drew = subst (λ (ns : List ℕ). 0 < times t ns) (sym drew) o.drew;
    kept = ap (times t) gave ∙ o.kept;
    undone = o.undone;
    few_filled = omega (arith, o.few_filled, filled);
    right = λ i l. o.right i (omega (arith, l, filled));
  }

  module _ {T : Type 0} (slots id : ℕ) (me : Me T PassView) where
    -- ---- a draw

    -- the stripes are as they were after a write of word 0
    count_same : (words : List ℕ) (n t : ℕ) → IsSame terms words (set words 0 n) t
    count_same words n t = record {
      state_same = get_or-set_other words 0 (state_place t) n 0 (λ h. omega arith);
      words_same = λ i l. get_or-set_other words 0 (word_place terms t i) n 0 (λ h. omega arith);
    }

    pub draws : me.0.terms ≡ terms → 0 < me.0.parts → next_above me.0.draws ≤ S → me.0.claimed ≡ None
        → Allows (Kept {S = T} terms) slots id me 0 (λ n. (n + 1) % 2 ^ 64)
        (λ n after. (next_above me.0.draws ≤ n) × (after ≡ (with_draw me.0 n, me.1)))
    draws named part few idle s k _ here _ =
        let v = me.0 in
        let n : ℕ = drawn s.words in
        let w = with_draw v n in
        let most = drawn-le terms s.words s.views k in
        let small = k.few_stripes in
        let next : (n + 1) % 2 ^ 64 ≡ n + 1 = omega (arith, most, small) in
        let words' = set s.words 0 (n + 1) in
        let now : drawn words' ≡ suc n = get_or-set_same s.words 0 (n + 1) 0 (omega (arith, k.size)) ∙ add-one n in
        let same : (t : ℕ) → IsSame terms s.words words' t = count_same s.words (n + 1) in
        let f = k.each_fits id v here in
        let stripes : stripes_of v.terms ≡ S = ap stripes_of named in
        let top : next_above v.draws ≤ n = drawn_below terms s.words s.views k id v here in
        let before : (y : ℕ) → 0 < times y v.draws → y < n = λ y. below_next y n v.draws top in
        let step : Change terms s.words v w words' = record {
          size = length-set s.words 0 (n + 1);
          draws = λ h. omega (arith, sum_by_push h v.draws n, ap (λ m. sum_by h (range_with_len 0 m)) now, sum_by-one_more h n);
          parts = refl;
          states = λ t l. omega (arith, (same t).state_same, k.states t l);
          fresh = λ t l o. (same t).state_same ∙ k.fresh t l (omega (arith, o, now));
          done = λ t i l e m. right_along terms t i _ _ ((same t).words_same i m) (k.done t i l (sym (same t).state_same ∙ e) m);
          rise = λ t l e. (same t).state_same ∙ e;
          others = λ t l none. same t;
          fits = record {
            names_terms = f.names_terms;
            spent = λ none. absurd (omega (arith, none, part));
            few_beyond = let one : cond (nat_le S n) 1 0 ≤ 1 = grind (arith, nat_tests) in omega (arith, sum_by_push (past S) v.draws n, beyond-none S v.draws few, one, part);
            works = λ t e. let is = claimed-is n (stripes_of v.terms) t e in record {
              stripe = omega (arith, is.0, is.1, stripes);
              drew = omega (arith, times-push t v.draws n, is_at-same t n is.0);
              kept = zero_of (times t v.gave) (λ g. absurd (omega (arith, before t (f.gave t g).drew, is.0)));
              undone = (same t).state_same ∙ k.fresh t (omega (arith, is.0, is.1, stripes)) (omega (arith, is.0));
              few_filled = omega arith;
              right = λ i l. absurd (omega (arith, l));
            };
            saw = λ t h. let d = f.saw t h in record { stripe = d.stripe; is_done = (same t).state_same ∙ d.is_done };
            gave = λ t h. let g = f.gave t h in record {
              stripe = g.stripe;
              drew = omega (arith, times-push t v.draws n, g.drew);
              undone = (same t).state_same ∙ g.undone;
            };
            settled = λ t l drew. dite (ℕ_discrete n t)
                (λ e. omega (arith, opens-drawn n (stripes_of v.terms) t e (omega (arith, e, l, stripes))))
                (λ ne. omega (
                  arith,
                  f.settled t l (omega (arith, times-push t v.draws n, is_at-else t n ne, drew)),
                  ap (opens t) idle,
                ));
          };
        } in (
          w,
          keeps,
          tt,
          subst (λ (m : ℕ). IsKept terms (set s.words 0 m) (set s.views id w)) (sym next) (changed terms s.words s.views k id v here w words' step),
          (top, refl),
        )

    -- ---- the state of the open stripe

    pub publishes : (t : ℕ) → me.0.claimed ≡ Some t → me.0.filled ≡ W
        → Allows (Kept {S = T} terms) slots id me (state_place t) (λ _. 1)
        (λ _ after. after ≡ (with_done me.0 (state_place t - 1), me.1))
    publishes t is full s k _ here _ =
        let v = me.0 in
        let w = with_done v t in
        let words' = set s.words (state_place t) 1 in
        let f = k.each_fits id v here in
        let o = f.works t is in
        let low = o.stripe in
        let count : drawn words' ≡ drawn s.words = get_or-set_other s.words (state_place t) 0 1 0 (λ h. omega arith) in
        let now : state words' t ≡ 1 = get_or-set_same s.words (state_place t) 1 0 (omega (arith, k.size, low)) in
        let word : (t' i : ℕ) → word_at terms words' t' i ≡ word_at terms s.words t' i =
        λ t' i. get_or-set_other s.words (state_place t) (word_place terms t' i) 1 0 (λ h. omega (arith, h, low)) in
        let other : (t' : ℕ) → t' ≢ t → state words' t' ≡ state s.words t' =
        λ t' ne. get_or-set_other s.words (state_place t) (state_place t') 1 0 (λ h. ne (omega (arith, h))) in
        let top : next_above v.draws ≤ drawn s.words = drawn_below terms s.words s.views k id v here in
        let step : Change terms s.words v w words' = record {
          size = length-set s.words (state_place t) 1;
          draws = λ h. ap (λ m. sum_by h v.draws + sum_by h (range_with_len 0 m)) (sym count);
          parts = refl;
          states = λ t' l. dite (ℕ_discrete t' t)
              (λ e. omega (arith, ap (state words') e, now))
              (λ ne. omega (arith, other t' ne, k.states t' l));
          fresh = λ t' l above. dite (ℕ_discrete t' t)
              (λ e. absurd (omega (arith, below_next t (drawn s.words) v.draws top o.drew, above, count, e)))
              (λ ne. other t' ne ∙ k.fresh t' l (omega (arith, above, count)));
          done = λ t' i l e m. right_along terms t' i _ _ (word t' i) (dite (ℕ_discrete t' t)
              (λ same. subst (λ (x : ℕ). IsRight terms x i (word_at terms s.words x i)) (sym same) (o.right i (omega (arith, m, full))))
              (λ ne. k.done t' i l (sym (other t' ne) ∙ e) m));
          rise = λ t' l e. dite (ℕ_discrete t' t) (λ same. ap (state words') same ∙ now) (λ ne. other t' ne ∙ e);
          others = λ t' l none. record {
            state_same = other t' (λ e. absurd (omega (arith, o.drew, none, ap (λ (x : ℕ). times x v.draws) e)));
            words_same = λ i m. word t' i;
          };
          fits = record {
            names_terms = f.names_terms;
            spent = f.spent;
            few_beyond = f.few_beyond;
            works = λ t' e. absurd (cc);
            saw = λ t' h. dite (ℕ_discrete t' t)
                (λ e. record { stripe = omega (arith, e, low); is_done = ap (state words') e ∙ now })
                (λ ne. let d = f.saw t' (omega (arith, times-push t' v.seen t, is_at-else t' t (λ q. ne (sym q)), h)) in
                record { stripe = d.stripe; is_done = other t' ne ∙ d.is_done });
            gave = λ t' h. let g = f.gave t' h in record {
              stripe = g.stripe;
              drew = g.drew;
              undone = other t' (λ e. absurd (omega (arith, o.kept, h, ap (λ (x : ℕ). times x v.gave) e))) ∙ g.undone;
            };
            settled = λ t' l drew. omega (arith, times-push t' v.seen t, f.settled t' l drew, ap (opens t') is);
          };
        } in (
          w,
          keeps,
          tt,
          changed terms s.words s.views k id v here w words' step,
          ap (λ (x : ℕ). (with_done me.0 x, me.1)) (state_word t),
        )

    pub gives_up : (t : ℕ) → me.0.claimed ≡ Some t
        → Allows (Kept {S = T} terms) slots id me (state_place t) (λ x. x)
        (λ _ after. after ≡ (with_given_up me.0 (state_place t - 1), me.1))
    gives_up t is s k _ here _ =
        let v = me.0 in
        let w = with_given_up v t in
        let f = k.each_fits id v here in
        let o = f.works t is in
        let fits : Fits terms s.words w = record {
          names_terms = f.names_terms;
          spent = f.spent;
          few_beyond = f.few_beyond;
          works = λ t' e. absurd (cc);
          saw = f.saw;
          gave = λ t' h. dite (ℕ_discrete t' t)
              (λ e. record {
                stripe = omega (arith, e, o.stripe);
                drew = subst (λ (x : ℕ). 0 < times x v.draws) (sym e) o.drew;
                undone = ap (state s.words) e ∙ o.undone;
              })
              (λ ne. let g = f.gave t' (omega (arith, times-push t' v.gave t, is_at-else t' t (λ q. ne (sym q)), h)) in
              record { stripe = g.stripe; drew = g.drew; undone = g.undone });
          settled = λ t' l drew. omega (arith, times-push t' v.gave t, f.settled t' l drew, ap (opens t') is);
        } in (
          w,
          keeps,
          tt,
          loaded terms s.words s.views k id v here (state_place t) w refl refl fits,
          ap (λ (x : ℕ). (with_given_up me.0 x, me.1)) (state_word t),
        )

    -- ---- a store of a word

    pub stores : (t i new : ℕ) → me.0.terms ≡ terms → me.0.claimed ≡ Some t → i ≤ me.0.filled → i < W → IsRight terms t i new
        → Allows (Kept {S = T} terms) slots id me (word_place terms t i) (λ _. new)
        (λ _ after. (u j : ℕ) × (me.0.claimed ≡ Some u) × (word_place terms t i ≡ word_place me.0.terms u j) × (after ≡ (with_word me.0 j, me.1)))
    stores t i new named is next inside right s k _ here _ =
        let v = me.0 in
        let w = with_word v i in
        let place : ℕ = word_place terms t i in
        let words' = set s.words place new in
        let f = k.each_fits id v here in
        let o = f.works t is in
        let count : drawn words' ≡ drawn s.words = get_or-set_other s.words place 0 new 0 (λ h. omega (arith, h)) in
        let states : (u : ℕ) → u < S → state words' u ≡ state s.words u =
        λ u l. get_or-set_other s.words place (state_place u) new 0 (λ h. omega (arith, h, l)) in
        let room : place < length s.words = omega (arith, k.size, stripe-before t S W o.stripe, inside) in
        let now : word_at terms words' t i ≡ new = get_or-set_same s.words place new 0 room in
        let beside : (j : ℕ) → j ≢ i → word_at terms words' t j ≡ word_at terms s.words t j =
        λ j ne. get_or-set_other s.words place (word_place terms t j) new 0 (λ h. ne (omega (arith, h))) in
        let other : (u j : ℕ) → u ≢ t → j < W → word_at terms words' u j ≡ word_at terms s.words u j =
        λ u j ne l. get_or-set_other s.words place (word_place terms u j) new 0 (λ h. places-apart t u i j W ne inside l (omega (arith, h))) in
        let step : Change terms s.words v w words' = record {
          size = length-set s.words place new;
          draws = λ h. ap (λ m. sum_by h v.draws + sum_by h (range_with_len 0 m)) (sym count);
          parts = refl;
          states = λ u l. omega (arith, states u l, k.states u l);
          fresh = λ u l above. states u l ∙ k.fresh u l (omega (arith, above, count));
          done = λ u j l e m. let old : state s.words u ≡ 1 = sym (states u l) ∙ e in
              right_along terms u j _ _ (other u j (λ q. absurd (omega (arith, o.undone, ap (state s.words) q, old))) m) (k.done u j l old m);
          rise = λ u l e. states u l ∙ e;
          others = λ u l none. record {
            state_same = states u l;
            words_same = λ j m. other u j (λ e. absurd (omega (arith, o.drew, none, ap (λ (x : ℕ). times x v.draws) e))) m;
          };
          fits = record {
            names_terms = f.names_terms;
            spent = f.spent;
            few_beyond = f.few_beyond;
            works = λ u e. let q = f.works u e in let same : u ≡ t = same-some u t (sym e ∙ is) in record {
              stripe = q.stripe;
              drew = q.drew;
              kept = q.kept;
              undone = states u q.stripe ∙ q.undone;
              few_filled = omega (arith, q.few_filled, inside);
              right = λ j l. subst (λ (x : ℕ). IsRight terms x j (word_at terms words' x j)) (sym same) (dite (ℕ_discrete j i)
                  (λ e'. subst (λ (x : ℕ). IsRight terms t x (word_at terms words' t x)) (sym e') (right_along terms t i _ _ now right))
                  (λ ne. right_along terms t j _ _ (beside j ne) (o.right j (omega (arith, l, next, ne)))));
            };
            saw = λ u h. let d = f.saw u h in record { stripe = d.stripe; is_done = states u d.stripe ∙ d.is_done };
            gave = λ u h. let g = f.gave u h in
                record { stripe = g.stripe; drew = g.drew; undone = states u g.stripe ∙ g.undone };
            settled = f.settled;
          };
        } in (
          w,
          keeps,
          tt,
          changed terms s.words s.views k id v here w words' step,
          (t, i, is, ap (λ (x : BoardTerms). word_place x t i) (sym named), refl),
        )

    -- the same at a place that is that of the word
    pub stores_at : (place t i new : ℕ) → place ≡ word_place terms t i → me.0.terms ≡ terms → me.0.claimed ≡ Some t → i ≤ me.0.filled → i < W → IsRight terms t i new
        → Allows (Kept {S = T} terms) slots id me place (λ _. new)
        (λ _ after. (u j : ℕ) × (me.0.claimed ≡ Some u) × (place ≡ word_place me.0.terms u j) × (after ≡ (with_word me.0 j, me.1)))
    stores_at place t i new e named is next inside right =
        subst (λ (x : ℕ). Allows (Kept {S = T} terms) slots id me x (λ _. new) (λ _ after. (u j : ℕ) × (me.0.claimed ≡ Some u) × (x ≡ word_place me.0.terms u j) × (after ≡ (with_word me.0 j, me.1))))
        (sym e) (stores t i new named is next inside right)

    -- ---- loads

    pub looks : (t : ℕ) → t < S
        → Allows (Kept {S = T} terms) slots id me (state_place t) (λ x. x)
        (λ x after. (x < 2) × (0 < times (state_place t - 1) me.0.seen → x ≡ 1) × (after ≡ (with_look me.0 (state_place t - 1) x, me.1)))
    looks t low s k _ here _ =
        let v = me.0 in
        let x : ℕ = state s.words t in
        let w = with_look v t x in
        let f = k.each_fits id v here in
        let fits : Fits terms s.words w = record {
          names_terms = f.names_terms;
          spent = f.spent;
          few_beyond = f.few_beyond;
          works = λ u e. open_like s.words v w u refl refl refl (f.works u e);
          saw = λ u. push_if (λ (ns : List ℕ). 0 < times u ns → IsDone terms s.words u) x t v.seen
              (λ hit h. dite (ℕ_discrete u t)
              (λ e. record { stripe = omega (arith, e, low); is_done = ap (state s.words) e ∙ hit })
              (λ ne. f.saw u (omega (arith, times-push u v.seen t, is_at-else u t (λ q. ne (sym q)), h))))
              (λ miss h. f.saw u h);
          gave = λ u h. let g = f.gave u h in record { stripe = g.stripe; drew = g.drew; undone = g.undone };
          settled = λ u l drew. push_if (λ (ns : List ℕ). 0 < times u ns + times u v.gave + opens u v.claimed) x t v.seen
              (λ hit. omega (arith, times-push u v.seen t, f.settled u l drew))
              (λ miss. f.settled u l drew);
        } in (
          w,
          keeps,
          tt,
          loaded terms s.words s.views k id v here (state_place t) w refl refl fits,
          (k.states t low, (λ h. (f.saw t (subst (λ (y : ℕ). 0 < times y v.seen) (sym (state_word t)) h)).is_done), ap (λ (y : ℕ). (with_look me.0 y x, me.1)) (state_word t)),
        )

    pub reads : (place : ℕ) → me.0.terms ≡ terms
        → Allows (Kept {S = T} terms) slots id me place (λ x. x)
        (λ x after. (after ≡ me) × ((t i : ℕ) → 0 < times t me.0.seen → i < words_of me.0.terms → place ≡ word_place me.0.terms t i → IsRight me.0.terms t i x))
    reads place named s k _ here _ =
        let v = me.0 in
        let f = k.each_fits id v here in (
          v,
          keeps,
          tt,
          loaded terms s.words s.views k id v here place v refl refl f,
          (
            refl,
            λ t i h. subst (λ (q : BoardTerms). i < words_of q → place ≡ word_place q t i → IsRight q t i (get_or s.words place 0)) (sym named)
                (λ l e. right_along terms t i _ _ (ap (λ (y : ℕ). get_or s.words y 0) e) (let d = f.saw t h in k.done t i d.stripe d.is_done l)),
          ),
        )

    pub reviews : Allows (Kept {S = T} terms) slots id me 0 (λ x. x)
        (λ _ after. (after ≡ me) × (me.0.parts + me.0.left ≡ whole_share → AreEachBelow me.0.draws (length me.0.draws)))
    reviews s k _ here _ =
        let v = me.0 in (
          v,
          keeps,
          tt,
          loaded terms s.words s.views k id v here 0 v refl refl (k.each_fits id v here),
          (refl, whole terms s.words s.views k id v here),
        )
