use Rattle.std.proofs.Common.{◌∙◌}
use Rattle.mr_drill_run.proofs.LineTexts.{summary-puts}
use Rattle.mr_drill_run.proofs.summaries.print_summary.Goals as goal

pub returns-clause-puts : goal.returns-clause-puts
returns-clause-puts g c =
    summary-puts (g.K.Sink.held c.args.out.now) (g.K.Sink.held c.put_pieces.new.sink) c.put_pieces.result c.args.summary.now
    c.as_bytes.result.now c.as_bytes-2.result.now c.as_bytes-3.result.now c.as_bytes-4.result.now c.as_bytes-5.result.now c.digits_of.result c.digits_of-2.result
    (c.as_bytes.ensures.value ∙ c.format.ensures.text) (c.as_bytes-2.ensures.value ∙ c.format-2.ensures.text) (c.as_bytes-3.ensures.value ∙ c.format-3.ensures.text)
    (c.as_bytes-4.ensures.value ∙ c.format-4.ensures.text) (c.as_bytes-5.ensures.value ∙ c.format-5.ensures.text) c.digits_of.ensures c.digits_of-2.ensures
    c.put_pieces.ensures.puts
