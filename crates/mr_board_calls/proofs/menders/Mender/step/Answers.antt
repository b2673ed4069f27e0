use Rattle.std.proofs.Common.{◌≤◌, sym, ap, subst}
use Rattle.mr_counts.specs.Numbers.{next_above}
use Rattle.mr_board.specs.Terms.{stripes_of}
use Rattle.mr_board.specs.Boards.{pass_view, claimed_stripe, IsReady}
use Rattle.mr_board.specs.declared.view.PassView.{PassView}
use Rattle.mr_board_calls.specs.declared.menders.Work.{Work}
use Rattle.mr_board_calls.specs.Menders.{CanWork}
use Rattle.mr_board_calls.proofs.Small.{drawn-low}
use Rattle.mr_board_calls.proofs.menders.Mender.step.Goals as goal

pub returns-in-Some-clause-can : goal.returns-in-Some-clause-can
returns-in-Some-clause-can c =
    let old = pass_view c.args.self.pass in
    let drew = c.in-Some.ensures.some in
    let ready : IsReady old = subst (λ (w : Work). CanWork old w) c.in-Idle.is c.requires.can.work in
    record {
      pass = c.in-Some.ensures.pass;
      work = (
        drew.claimed,
        ap (λ (v : PassView). v.filled) drew.view,
        subst (λ (v : PassView). next_above v.draws ≤ stripes_of v.terms) (sym drew.view)
            (drawn-low old.draws (claimed_stripe c.in-Some.claim) (stripes_of old.terms) ready.more drew.stripe),
      );
    }
