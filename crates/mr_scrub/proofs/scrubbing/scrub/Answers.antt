use Rattle.std.proofs.Common.{◌∙◌}
use Rattle.rayon.proofs.ListFacts.{IfOk-then}
use Rattle.mr_scrub.proofs.ScrubLaws.{turns-scrubbed}
use Rattle.mr_scrub.proofs.scrubbing.scrub.Goals as goal

pub returns-clause-broken : goal.returns-clause-broken
returns-clause-broken g c =
    IfOk-then c.scrub_parts.result _ _ c.scrub_parts.ensures.broken (λ broken h.
    turns-scrubbed c.args.scrub.now.head.now c.args.scrub.now.matrix.now c.shape-within_the_limits.ensures.code c.requires.fits c.deref.result.now
    (g.E.Eye.sight c.args.eye.now).bytes broken.items (c.deref.ensures.value ∙ c.in_ok-checks.ensures.codes) h)
