use Rattle.std.proofs.Common.{Err, Ok, ap}
use Rattle.std.proofs.lemmas.Result.{err_from_is_err_and}
use Rattle.mr_top.specs.Replies.{output_of}
use Rattle.mr_top.specs.Scrub.{scrub_output}
use Rattle.mr_top.specs.declared.reply.Reply.TheVariants.{Scrub}
use Rattle.mr_top.proofs.Scrubbing.{no-scrub, scrubbed-told}
use Rattle.mr_top.proofs.WholeSteps.{copy-grows, copy-reads, no-copy}
use Rattle.mr_top.proofs.scrub.scrubbed_image.Goals as goal

pub returns-in_err-eye-clause-reads : goal.returns-in_err-eye-clause-reads
returns-in_err-eye-clause-reads g c =
    let p = err_from_is_err_and c.from_residual.result c.from_residual.ensures.1 in
    rw p.1 (no-copy output_of (scrub_output c.args.by.now.matrix.now) c.args.by.now.head.now c.as_str.ensures.characters _ _ _ _ c.in_err-eye.ensures.failed c.in_err-eye.ensures.memory p.2)

pub returns-in-Ok-clause-reads : goal.returns-in-Ok-clause-reads
returns-in-Ok-clause-reads g c = copy-reads output_of (scrub_output c.args.by.now.matrix.now) c.args.by.now.head.now c.as_str.ensures.characters _ _ _ _
    (Ok (Scrub c.stripes.result c.in-Ok.broken)) c.in_ok-eye.ensures.given c.retire.ensures.told (ap (λ sight. sight.bytes) c.in_ok-eye.ensures.fresh.0)
    (scrubbed-told _ c.args.by.now.matrix.now c.args.by.now.head.now c.stripes.result c.in-Ok.broken.items c.stripes.ensures.number c.in-Ok.ensures.broken)

pub returns-in-Ok-clause-totals : goal.returns-in-Ok-clause-totals
returns-in-Ok-clause-totals g c = copy-grows output_of (scrub_output c.args.by.now.matrix.now) c.args.by.now.head.now c.as_str.ensures.characters (g.F.Files.told c.args.files.now) (g.F.Files.totals c.args.files.now)
    (g.F.Files.totals c.eye.new.self) (g.F.Files.totals c.retire.new.self) (g.F.E.Eye.sight c.in_ok-eye.eye) (g.F.E.Eye.sight c.scrub-scrubbed.new.eye)
    (Ok (Scrub c.stripes.result c.in-Ok.broken)) c.in_ok-eye.ensures.totals c.in_ok-eye.ensures.fresh.0 c.in-Ok.ensures.taken c.retire.ensures.totals

pub returns-in-Err-clause-reads : goal.returns-in-Err-clause-reads
returns-in-Err-clause-reads g c = copy-reads output_of (scrub_output c.args.by.now.matrix.now) c.args.by.now.head.now c.as_str.ensures.characters _ _ _ _ (Err c.from.result)
    c.in_ok-eye.ensures.given c.retire.ensures.told (ap (λ sight. sight.bytes) c.in_ok-eye.ensures.fresh.0) (no-scrub _ (λ bytes. Ok (scrub_output c.args.by.now.matrix.now c.args.by.now.head.now bytes)) c.in-Err.error c.from.result c.from.ensures)
