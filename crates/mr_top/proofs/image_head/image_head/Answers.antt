use Rattle.std.proofs.Common.{chars, ap}
use Rattle.std.proofs.lemmas.Result.{err_from_is_err_and}
use Rattle.mr_io.specs.declared.duty.Duty.TheVariants.{Head}
use Rattle.mr_top.specs.RebuildSteps.{head_file}
use Rattle.mr_steps.specs.Readings.{given}
use Rattle.mr_top.specs.Rebuild.{head_given}
use Rattle.mr_steps.proofs.Chains.{reads_file, reads_named, reads_no_eye}
use Rattle.mr_steps.proofs.Growing.{grows_file, grows_named, unread-head, unread-same}
use Rattle.mr_top.proofs.RebuildSteps.{fits-after}
use Rattle.mr_top.proofs.image_head.image_head.Goals as goal

pub returns-in_err-eye-clause-reads : goal.returns-in_err-eye-clause-reads
unfolding head_file
returns-in_err-eye-clause-reads g c =
    let p = err_from_is_err_and c.from_residual.result c.from_residual.ensures.1 in
    rw p.1 (reads_named (λ head. head) _ _ _ (λ name contents. head_file contents name c.args.matrix.now) c.as_str.ensures.characters
    (reads_no_eye (λ head. head) _ _ (λ _. 32) (chars c.as_str.result.now) Head (λ contents bytes. given (head_given c.args.matrix.now bytes)) _ _
    c.in_err-eye.ensures.failed c.in_err-eye.ensures.memory p.2))

pub returns-clause-reads : goal.returns-clause-reads
unfolding head_file
returns-clause-reads g c = reads_named (λ head. head) _ _ _ (λ name contents. head_file contents name c.args.matrix.now) c.as_str.ensures.characters
    (reads_file (λ head. head) _ _ _ (λ _. 32) (chars c.as_str.result.now) Head _ _ (head_given c.args.matrix.now)
    c.in_ok-eye.ensures.given c.retire.ensures.told (ap (λ sight. sight.bytes) c.in_ok-eye.ensures.fresh.0) c.head_behind-head.ensures.given)

pub returns-clause-totals : goal.returns-clause-totals
unfolding head_file
returns-clause-totals g c = grows_named _ _ _ _ (λ name contents. head_file contents name c.args.matrix.now) c.as_str.ensures.characters
    (grows_file _ _ _ _ (chars c.as_str.result.now) Head _ _ _ (head_given c.args.matrix.now) (λ _. 32)
    c.in_ok-eye.ensures.totals c.in_ok-eye.ensures.fresh.0 c.head_behind-head.ensures.taken c.retire.ensures.totals)

pub returns-clause-fits : goal.returns-clause-fits
returns-clause-fits g c = fits-after _ _ _ _ _ _ _ _ c.as_str.ensures.characters c.in_ok-eye.ensures.given c.retire.ensures.told
    (ap (λ sight. sight.bytes) c.in_ok-eye.ensures.fresh.0) c.head_behind-head.ensures.fits

pub returns-in_err-eye-clause-unread : goal.returns-in_err-eye-clause-unread
returns-in_err-eye-clause-unread g c = unread-same _ _ c.in_err-eye.ensures.totals

pub returns-clause-unread : goal.returns-clause-unread
returns-clause-unread g c = unread-head _ _ _ _ _ _ _ c.in_ok-eye.ensures.totals c.in_ok-eye.ensures.fresh.0 c.head_behind-head.ensures.duty c.retire.ensures.totals
