use Rattle.std.proofs.Common.{None, ap, sym, ◌∙◌, cond}
use Rattle.mr_form.specs.MatrixText.{heading, version_of, size_of}
use Rattle.mr_form.proofs.HeadLaws.{head_of-words, head_of-few}
use Rattle.mr_form.proofs.heads.read_head.Goals as goal

pub returns-in_err-name : goal.returns-in_err-name
returns-in_err-name c = c.from_residual.ensures ∙ sym (head_of-few c.args.line.now c.in_err-name.ensures)

pub returns-then-is_matrix : goal.returns-then-is_matrix
returns-then-is_matrix c =
    c.heading_from.ensures ∙ (λ j. heading (c.read_version.ensures j) (c.read_size.ensures j) (c.read_size-then-is_matrix.ensures j) (c.read_size-then-is_matrix-2.ensures j))
    ∙ ap (λ t. cond t (heading (version_of c.in_ok-name.version.now) (size_of c.in_ok-name.n.now) (size_of c.in_ok-name.w.now) (size_of c.in_ok-name.k.now)) None) c.if-is_matrix.ensures
    ∙ sym (head_of-words c.args.line.now c.in_ok-name.name.now c.in_ok-name.version.now c.in_ok-name.n.now c.in_ok-name.w.now c.in_ok-name.k.now c.in_ok-name.ensures)

pub returns-else-is_matrix : goal.returns-else-is_matrix
returns-else-is_matrix c =
    ap (λ t. cond t (heading (version_of c.in_ok-name.version.now) (size_of c.in_ok-name.n.now) (size_of c.in_ok-name.w.now) (size_of c.in_ok-name.k.now)) None) c.if-is_matrix.ensures
    ∙ sym (head_of-words c.args.line.now c.in_ok-name.name.now c.in_ok-name.version.now c.in_ok-name.n.now c.in_ok-name.w.now c.in_ok-name.k.now c.in_ok-name.ensures)
