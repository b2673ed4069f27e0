use Rattle.std.proofs.Common.{ℕ, ◌≡◌, ◌++◌, [], List, subst, ap, ◌∙◌, decimal}
use Rattle.mr_io.specs.Taking.{Puts}
use Rattle.mr_form.proofs.HeadTexts.{head-pieces}
use Rattle.mr_form.proofs.printing.print_head.Goals as goal

pub returns-clause-puts : goal.returns-clause-puts
returns-clause-puts g c =
    let n : c.as_bytes.result.now ≡ decimal c.args.shape.devices = c.as_bytes.ensures.value ∙ c.format.ensures.text ∙ ap decimal c.n.ensures in
    let w : c.as_bytes-2.result.now ≡ decimal c.args.shape.symbols_per_device = c.as_bytes-2.ensures.value ∙ c.format-2.ensures.text ∙ ap decimal c.w.ensures in
    let k : c.as_bytes-3.result.now ≡ decimal c.args.shape.columns = c.as_bytes-3.ensures.value ∙ c.format-3.ensures.text ∙ ap decimal c.k.ensures in
    subst (λ (b : List ℕ). Puts (g.K.Sink.held c.args.out.now) (g.K.Sink.held c.put_pieces.new.sink) c.put_pieces.result b)
    ((λ i. c.as_slice.ensures i ++ (c.version_word.ensures i ++ (c.as_slice-2.ensures i ++ (n i ++ (c.as_slice-3.ensures i ++ (w i ++ (c.as_slice-4.ensures i ++ (k i ++ (c.as_slice-5.ensures i ++ [])))))))))
    ∙ head-pieces c.args.version c.args.shape.devices c.args.shape.symbols_per_device c.args.shape.columns)
    c.put_pieces.ensures.puts
