use Rattle.std.proofs.Common.{Err, Ok, ap}
use Rattle.std.proofs.lemmas.Result.{err_from_is_err_and}
use Rattle.mr_steps.specs.Faults.{fault_status}
use Rattle.mr_top.specs.Convert.{converted_output}
use Rattle.mr_top.specs.Replies.{output_of}
use Rattle.mr_top.specs.declared.reply.Reply.TheVariants.{Convert}
use Rattle.mr_top.proofs.Converting.{converted-told}
use Rattle.mr_top.proofs.WholeSteps.{copy-grows, copy-reads, no-copy}
use Rattle.mr_top.proofs.convert.converted_in.Goals as goal

pub returns-in_err-eye-clause-reads : goal.returns-in_err-eye-clause-reads
returns-in_err-eye-clause-reads g c =
    let p = err_from_is_err_and c.from_residual.result c.from_residual.ensures.1 in
    rw p.1 (no-copy output_of converted_output c.args.head.now c.as_str.ensures.characters _ _ _ _ c.in_err-eye.ensures.failed c.in_err-eye.ensures.memory p.2)

pub returns-in-Ok-clause-reads : goal.returns-in-Ok-clause-reads
returns-in-Ok-clause-reads g c = copy-reads output_of converted_output c.args.head.now c.as_str.ensures.characters _ _ _ _ (Ok (Convert c.in-Ok.image))
    c.in_ok-eye.ensures.given c.retire.ensures.told (ap (λ sight. sight.bytes) c.in_ok-eye.ensures.fresh.0)
    (converted-told _ c.args.head.now c.in-Ok.image.items c.in-Ok.ensures.converted)

pub returns-in-Ok-clause-totals : goal.returns-in-Ok-clause-totals
returns-in-Ok-clause-totals g c = copy-grows output_of converted_output c.args.head.now c.as_str.ensures.characters (g.F.Files.told c.args.files.now) (g.F.Files.totals c.args.files.now)
    (g.F.Files.totals c.eye.new.self) (g.F.Files.totals c.retire.new.self) (g.F.E.Eye.sight c.in_ok-eye.eye) (g.F.E.Eye.sight c.converted_behind-converted.new.eye) (Ok (Convert c.in-Ok.image))
    c.in_ok-eye.ensures.totals c.in_ok-eye.ensures.fresh.0 c.in-Ok.ensures.taken c.retire.ensures.totals

pub returns-in-Err-clause-reads : goal.returns-in-Err-clause-reads
returns-in-Err-clause-reads g c = copy-reads output_of converted_output c.args.head.now c.as_str.ensures.characters _ _ _ _ (Err c.from.result)
    c.in_ok-eye.ensures.given c.retire.ensures.told (ap (λ sight. sight.bytes) c.in_ok-eye.ensures.fresh.0) (λ x there foreseen. absurd (foreseen.0 (ap fault_status c.from.ensures)))
