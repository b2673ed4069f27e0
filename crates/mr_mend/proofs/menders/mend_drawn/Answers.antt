use Rattle.std.proofs.Common.{ap, ◌∙◌}
use Rattle.mr_board.specs.Terms.{BoardTerms, stripes_of}
use Rattle.mr_board.specs.Boards.{board_terms, pass_view, claimed_stripe}
use Rattle.mr_mend.proofs.Drawing.{published-turn, ready-turn, drawn-less, mended-end, took-turn, took-end}
use Rattle.mr_mend.proofs.menders.mend_drawn.Goals as goal

pub loop-claim-smaller : goal.loop-claim-smaller
loop-claim-smaller g c =
    drawn-less (pass_view c.loop-claim.pass) (pass_view c.draw.new.pass) (pass_view c.rebuild_one.new.pass) (claimed_stripe c.in-Some.claim) (stripes_of (board_terms c.args.task.now.board.now))
    c.in-Some.ensures.some c.in_ok-rebuild_one.ensures.done (ap (λ (t : BoardTerms). stripes_of t) c.loop-claim.invariant.pass.terms)

pub loop-claim-preserved : goal.loop-claim-preserved
loop-claim-preserved g c =
    let old = c.loop-claim.invariant in
    let v = pass_view c.loop-claim.pass in
    let w = pass_view c.draw.new.pass in
    let z = pass_view c.rebuild_one.new.pass in
    let t = claimed_stripe c.in-Some.claim in
    let draws = c.in-Some.ensures.some in
    let done = c.in_ok-rebuild_one.ensures.done in
    record {
      pass = c.rebuild_one.ensures.pass;
      ready = ready-turn v w z t old.ready draws done;
      published = published-turn (pass_view c.args.pass.now) v w z t old.published draws done;
      room = c.rebuild_one.ensures.room;
      taken = took-turn c.args.task.now.head.now c.args.task.now.plans.now (g.E.Eye.sight c.args.eye.now) (g.E.Eye.sight c.loop-claim.eye) (g.E.Eye.sight c.rebuild_one.new.eye) v w z t old.taken draws done
          (ap (λ (k : BoardTerms). stripes_of k) (old.pass.terms ∙ c.requires.board)) c.in_ok-rebuild_one.ensures.taken;
      quiet = c.in_ok-rebuild_one.ensures.cause.quiet ∙ old.quiet;
    }

pub returns-clause-mended : goal.returns-clause-mended
returns-clause-mended g c =
    mended-end (pass_view c.args.pass.now) (pass_view c.loop-claim.pass) (pass_view c.draw.new.pass) c.loop-claim.invariant.published c.in_default.ensures.none

pub returns-clause-taken : goal.returns-clause-taken
returns-clause-taken g c =
    took-end c.args.task.now.head.now c.args.task.now.plans.now (g.E.Eye.sight c.args.eye.now) (g.E.Eye.sight c.loop-claim.eye) (pass_view c.loop-claim.pass) (pass_view c.draw.new.pass)
    c.loop-claim.invariant.taken c.in_default.ensures.none (ap (λ (k : BoardTerms). stripes_of k) (c.loop-claim.invariant.pass.terms ∙ c.requires.board))
