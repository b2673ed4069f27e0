use Rattle.std.proofs.Common.{◌≡◌, ◌+◌, ◌∙◌, ◌++◌, ◌∷◌, [], ℕ, List, inl, inr, ⊎_elim, subst, sym, ap, arith, refl}
use Rattle.std.specs.List.{Contains}
use Rattle.mr_counts.proofs.NumberLaws.{next_above-push}
use Rattle.mr_counts.specs.Numbers.{next_above}
use Rattle.mr_bound.specs.Cost.{least_cost}
use Rattle.mr_bound.specs.Seats.{seat_view}
use Rattle.mr_bound.specs.declared.view.BoundView.{BoundView}
use Rattle.mr_front.specs.Rows.{InRows}
use Rattle.mr_search.specs.Layers.{Covers}
use Rattle.mr_search.proofs.CoverLaws.{cover-none, cover-join, cover-more, cover-past, drawn-last}
use Rattle.mr_search.proofs.worker.draw_all.Goals as goal

pub loop-number-init : goal.loop-number-init
loop-number-init g c =
    let p = c.args.task.now.equations.now in
    let l = c.args.task.now.layer.now in
    record {
      seat = c.requires.seat;
      open_yet = omega (arith, ap next_above c.requires.fresh);
      share = refl;
      count = refl;
      stays = λ i u h. h;
      only = λ i u h. inl h;
      covers = cover-none p l (least_cost p) (seat_view c.args.seat.now).draws (InRows p c.args.rows.now (l.level + 1)) c.requires.fresh;
    }

pub loop-number-smaller : goal.loop-number-smaller
loop-number-smaller g c =
    let n = c.in-Some.number in
    let before = (seat_view c.loop-number.seat).draws in
    let some = c.in-Some.ensures.some in
    let drawn : (seat_view c.expand_drawn.new.seat).draws ≡ before ++ n ∷ [] = c.expand_drawn.ensures.draws ∙ ap (λ (v : BoundView). v.draws) some.2 in
    omega (arith, ap next_above drawn, next_above-push before n, some.0, some.1)

pub loop-number-preserved : goal.loop-number-preserved
loop-number-preserved g c =
    let p = c.args.task.now.equations.now in
    let l = c.args.task.now.layer.now in
    let n = c.in-Some.number in
    let before = (seat_view c.loop-number.seat).draws in
    let old = c.loop-number.invariant in
    let some = c.in-Some.ensures.some in
    let new = c.in_ok-children.ensures in
    let mid = InRows p c.loop-number.rows in
    let later = InRows p c.expand_drawn.new.rows in
    let drawn : (seat_view c.expand_drawn.new.seat).draws ≡ before ++ n ∷ [] = c.expand_drawn.ensures.draws ∙ ap (λ (v : BoundView). v.draws) some.2 in
    record {
      seat = c.expand_drawn.ensures.seat;
      open_yet = omega (arith, ap next_above drawn, next_above-push before n, some.0, old.open_yet);
      share = c.expand_drawn.ensures.share ∙ ap (λ (v : BoundView). v.parts + v.left) some.2 ∙ old.share;
      count = c.expand_drawn.ensures.count ∙ old.count;
      stays = λ i u h. new.stays i u (old.stays i u h);
      only = λ i u h. ⊎_elim (λ (m : mid i u). old.only i u m) (λ more. inr more) (new.only i u h);
      covers = subst (λ (ns : List ℕ). Covers p l (least_cost p) ns (later (l.level + 1))) (sym drawn)
          (cover-join p l (least_cost p) before (n ∷ []) (later (l.level + 1))
          (cover-more p l (least_cost p) before (mid (l.level + 1)) (later (l.level + 1)) (new.stays (l.level + 1)) old.covers) new.covers);
    }

pub returns-clause-ended : goal.returns-clause-ended
returns-clause-ended g c =
    let none = c.in_default.ensures.none in
    (none.0, none.1, subst (λ (ns : List ℕ). Contains ns none.0) (sym (ap (λ (v : BoundView). v.draws) none.3)) (drawn-last (seat_view c.loop-number.seat).draws none.0))

pub returns-clause-covers : goal.returns-clause-covers
returns-clause-covers g c =
    let p = c.args.task.now.equations.now in
    let l = c.args.task.now.layer.now in
    let none = c.in_default.ensures.none in
    let before = (seat_view c.loop-number.seat).draws in
    let there = InRows p c.loop-number.rows (l.level + 1) in
    subst (λ (ns : List ℕ). Covers p l (least_cost p) ns there) (sym (ap (λ (v : BoundView). v.draws) none.3))
    (cover-join p l (least_cost p) before (none.0 ∷ []) there c.loop-number.invariant.covers
    (cover-past p l (least_cost p) none.0 there (omega (arith, none.1, c.requires.task.chunks))))
