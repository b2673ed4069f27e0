use Rattle.std.proofs.Common.{chars, ap, length}
use Rattle.std.proofs.lemmas.Result.{err_from_is_err_and}
use Rattle.mr_io.specs.declared.duty.Duty.TheVariants.{Text}
use Rattle.mr_steps.specs.TextFiles.{text_within}
use Rattle.mr_steps.specs.Texts.{within}
use Rattle.mr_steps.specs.Readings.{given}
use Rattle.mr_steps.proofs.Chains.{reads_file, reads_named, reads_no_eye}
use Rattle.mr_steps.proofs.Growing.{grows_file, grows_named, kept-lent, unread-same, unread-text}
use Rattle.mr_steps.proofs.text.file_within.Goals as goal

pub returns-in_err-eye-clause-reads : goal.returns-in_err-eye-clause-reads
unfolding text_within
returns-in_err-eye-clause-reads g c =
    let p = err_from_is_err_and c.from_residual.result c.from_residual.ensures.1 in
    rw p.1 (reads_named (λ bytes. bytes.items) _ _ _ (λ name contents. text_within c.args.limit contents name c.args.what) c.as_str.ensures.characters
    (reads_no_eye (λ bytes. bytes.items) _ _ (λ contents. length (contents (chars c.as_str.result.now))) (chars c.as_str.result.now) Text (λ contents bytes. given (within c.args.limit c.args.what bytes)) _ _
    c.in_err-eye.ensures.failed c.in_err-eye.ensures.memory p.2))

pub returns-clause-reads : goal.returns-clause-reads
unfolding text_within
returns-clause-reads g c = reads_named (λ bytes. bytes.items) _ _ _ (λ name contents. text_within c.args.limit contents name c.args.what) c.as_str.ensures.characters
    (reads_file (λ bytes. bytes.items) _ _ _ (λ contents. length (contents (chars c.as_str.result.now))) (chars c.as_str.result.now) Text _ _ (within c.args.limit c.args.what)
    c.in_ok-eye.ensures.given c.retire.ensures.told (ap (λ sight. sight.bytes) c.in_ok-eye.ensures.fresh.0) c.all_bytes-bytes.ensures.given)

pub returns-clause-totals : goal.returns-clause-totals
unfolding text_within
returns-clause-totals g c = grows_named _ _ _ _ (λ name contents. text_within c.args.limit contents name c.args.what) c.as_str.ensures.characters
    (grows_file _ _ _ _ (chars c.as_str.result.now) Text _ _ _ (within c.args.limit c.args.what) length
    c.in_ok-eye.ensures.totals c.in_ok-eye.ensures.fresh.0 c.all_bytes-bytes.ensures.taken c.retire.ensures.totals)

pub returns-in_err-eye-clause-unread : goal.returns-in_err-eye-clause-unread
returns-in_err-eye-clause-unread g c = unread-same _ _ c.in_err-eye.ensures.totals

pub returns-clause-unread : goal.returns-clause-unread
returns-clause-unread g c = unread-text _ _ _ _ _ _ _ c.in_ok-eye.ensures.totals c.in_ok-eye.ensures.fresh.0 c.all_bytes-bytes.ensures.duty c.retire.ensures.totals

pub returns-clause-kept : goal.returns-clause-kept
returns-clause-kept g c = kept-lent c.all_bytes-bytes.result _ _ _ (chars c.as_str.result.now) Text c.in_ok-eye.ensures.given c.retire.ensures.told
