use Rattle.std.proofs.Common.{◌≡◌, ◌+◌, ◌⊎◌, ◌∙◌, ℕ, refl, sym, subst, ap, Some}
use Rattle.std.specs.Prelude.{OnOk}
use Rattle.mr_eq.specs.Problems.{Loss}
use Rattle.mr_bound.specs.Cost.{least_cost}
use Rattle.mr_bound.specs.Seats.{seat_view}
use Rattle.mr_front.specs.Rows.{InRows}
use Rattle.mr_front.specs.Layers.{IsSomeChild}
use Rattle.mr_search.specs.Layers.{Covers}
use Rattle.mr_search.specs.Work.{share_in}
use Rattle.mr_search.proofs.worker.Worker.work.Goals as goal

pub returns-in-Some : goal.returns-in-Some
returns-in-Some g c =
    let l = c.args.task.now.layer.now in
    let same = c.requires.task.problem in
    let old = c.args.self.now.rows in
    let new = c.draw_all-outcome.new.rows in
    let r = c.draw_all-outcome.result in
    let done = c.draw_all-outcome.ensures in
    let ns = (seat_view c.draw_all-outcome.new.seat).draws in
    let was : c.args.self.now.seat ≡ Some c.in-Some.seat = sym c.take.ensures.value ∙ c.in-Some.is in
    record {
      own = c.draw_all-outcome.new.seat;
      has_seat = refl;
      of_bound = done.seat;
      share = done.share ∙ sym (ap share_in was);
      has_rows = done.count;
      ended = done.ended;
      stays = subst (λ (q : Loss). OnOk r ((i u : ℕ) → InRows q old i u → InRows q new i u)) same done.stays;
      only = subst (λ (q : Loss). OnOk r ((i u : ℕ) → InRows q new i u → InRows q old i u ⊎ ((i ≡ l.level + 1) × IsSomeChild q l u))) same done.only;
      covers = subst (λ (q : Loss). OnOk r (Covers q l (least_cost q) ns (InRows q new (l.level + 1)))) same done.covers;
    }
