-- A split and a join keep the rule.
use Rattle.std.proofs.Common.{◌≡◌, ℕ, ◌<◌, List, [], ◌∷◌, ◌++◌, set, None, sym, refl, ap, subst, ◌∙◌, ⊎_elim, arith}
use Rattle.std.proofs.lemmas.List.Sums.{sum_by_push, sum_by-append}
use mathlib.Core.Logic.{dite}
use native.Mathlib.Decide.{dec_le}
use Rattle.atomic_table.specs.Table.{Splits, Joins}
use Rattle.atomic_table.proofs.Lists.{at_snoc, set_else}
use Rattle.mr_counts.specs.Numbers.{times}
use Rattle.mr_counts.proofs.Sums.{sum_by-set_at}
use Rattle.mr_board.specs.Terms.{BoardTerms, stripes_of}
use Rattle.mr_board.specs.Views.{kept_view, split_view, joined_view, spent_view}
use Rattle.mr_board.specs.Rule.{Kept, Fits, opens}
use Rattle.mr_board.specs.declared.view.PassView.{PassView}
use Rattle.mr_board.proofs.Numbers.{is_at}
use Rattle.mr_board.proofs.Changes.{share, weight, past, IsAt, each_set}

module _ (terms : BoardTerms) where
  -- what holds of each view holds of each of one view more
  each_push : (P : PassView → Type 0) (views : List PassView) (w : PassView) → P w
      → ((j : ℕ) (u : PassView) → IsAt views j u → P u)
      → (j : ℕ) (u : PassView) → IsAt (views ++ w ∷ []) j u → P u
  each_push P views w mine others j u e = ⊎_elim
      (λ (x : IsAt views j u). others j u x)
      (λ (x : w ≡ u). subst P x mine)
      (at_snoc views w u j e)

  -- of a pass without a part nothing is asked
  spent-fits : (words : List ℕ) → Fits terms words spent_view
  spent-fits words = record {
    names_terms = λ part. absurd (omega (arith, part));
    spent = λ none. refl;
    few_beyond = omega arith;
    works = λ t e. absurd (cc);
    saw = λ t h. absurd (omega (arith, h));
    gave = λ t h. absurd (omega (arith, h));
    settled = λ t l drew. absurd (omega (arith, drew));
  }

  module _ {T : Type 0} (id : ℕ) (v : PassView) where
    pub splits : 0 < v.parts → 0 < v.left → Splits (Kept {S = T} terms) id v (kept_view v) (split_view v)
    splits part more s k here =
        let f = k.each_fits id v here in
        let a = kept_view v in
        let b = split_view v in
        let rest = set s.views id a in
        let own : Fits terms s.words a = record {
          names_terms = f.names_terms;
          spent = f.spent;
          few_beyond = f.few_beyond;
          works = λ t e. let o = f.works t e in record {
            stripe = o.stripe;
            drew = o.drew;
            kept = o.kept;
            undone = o.undone;
            few_filled = o.few_filled;
            right = o.right;
          };
          saw = f.saw;
          gave = λ t h. let g = f.gave t h in record { stripe = g.stripe; drew = g.drew; undone = g.undone };
          settled = f.settled;
        } in
        let new : Fits terms s.words b = record {
          names_terms = λ _. f.names_terms part;
          spent = λ none. absurd (omega (arith, none));
          few_beyond = omega arith;
          works = λ t e. absurd (cc);
          saw = f.saw;
          gave = λ t h. absurd (omega (arith, h));
          settled = λ t l drew. absurd (omega (arith, drew));
        } in
        record {
          few_stripes = k.few_stripes;
          size = k.size;
          all_draws = λ h. omega (arith, sum_by_push (weight h) rest b, sum_by-set_at (weight h) s.views id v a here, k.all_draws h);
          all_parts = omega (arith, sum_by_push share rest b, sum_by-set_at share s.views id v a here, k.all_parts, more);
          states = k.states;
          fresh = k.fresh;
          done = k.done;
          each_fits = each_push (Fits terms s.words) rest b new
              (each_set (Fits terms s.words) s.views id a own (λ j u ne e. k.each_fits j u e));
        }

    pub joins : (other : ℕ) (w : PassView) → 0 < v.parts → v.claimed ≡ None → w.claimed ≡ None
        → Joins (Kept {S = T} terms) id v other w (joined_view v w) spent_view
    joins other w part idle idle' s k here apart there' =
        let both = joined_view v w in
        let mid = set s.views id both in
        let there : IsAt s.views other w = sym (set_else s.views id other both apart) ∙ there' in
        let f = k.each_fits id v here in
        let g = k.each_fits other w there in
        let own : Fits terms s.words both = record {
          names_terms = λ _. f.names_terms part;
          spent = λ none. absurd (omega (arith, none, part));
          few_beyond = omega (arith, sum_by-append (past (stripes_of terms)) v.draws w.draws, f.few_beyond, g.few_beyond);
          works = λ t e. absurd (cc);
          saw = λ t h. dite (dec_le 1 (times t v.seen))
              (λ l. f.saw t l)
              (λ l. g.saw t (omega (arith, sum_by-append (is_at t) v.seen w.seen, h, l)));
          gave = λ t h. dite (dec_le 1 (times t v.gave))
              (λ l. let x = f.gave t l in record {
                stripe = x.stripe;
                drew = omega (arith, sum_by-append (is_at t) v.draws w.draws, x.drew);
                undone = x.undone;
              })
              (λ l. let x = g.gave t (omega (arith, sum_by-append (is_at t) v.gave w.gave, h, l)) in record {
                stripe = x.stripe;
                drew = omega (arith, sum_by-append (is_at t) v.draws w.draws, x.drew);
                undone = x.undone;
              });
          settled = λ t l drew.
              let seen = sum_by-append (is_at t) v.seen w.seen in
              let gave = sum_by-append (is_at t) v.gave w.gave in
              dite (dec_le 1 (times t v.draws))
              (λ mine. omega (arith, seen, gave, f.settled t l mine, ap (opens t) idle))
              (λ none. omega (
                arith,
                seen,
                gave,
                g.settled t l (omega (arith, sum_by-append (is_at t) v.draws w.draws, drew, none)),
                ap (opens t) idle',
              ));
        } in
        record {
          few_stripes = k.few_stripes;
          size = k.size;
          all_draws = λ h. omega (
            arith,
            sum_by-append h v.draws w.draws,
            sum_by-set_at (weight h) s.views id v both here,
            sum_by-set_at (weight h) mid other w spent_view there',
            k.all_draws h,
          );
          all_parts = omega (arith, sum_by-set_at share s.views id v both here, sum_by-set_at share mid other w spent_view there', k.all_parts);
          states = k.states;
          fresh = k.fresh;
          done = k.done;
          each_fits = each_set (Fits terms s.words) mid other spent_view (spent-fits s.words)
              (λ j u _ e. each_set (Fits terms s.words) s.views id both own (λ i y _ e'. k.each_fits i y e') j u e);
        }
