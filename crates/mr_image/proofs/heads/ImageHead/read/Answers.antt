use Rattle.std.proofs.Common.{ℕ, ◌<◌, get_or, sym, ◌∙◌, rules}
use Rattle.mr_image.specs.Heads.{IsSpelled}
use Rattle.mr_image.proofs.HeadLaws.{read_head-is, read_head-spelled, IfOk-from_eq}
use Rattle.mr_image.proofs.HeadFaultLaws.{if_head_fault}
use Rattle.mr_image.proofs.heads.ImageHead.read.Goals as goal

pub returns-clause-fault : goal.returns-clause-fault
returns-clause-fault c = if_head_fault c.args.head.now c.args.shape c.args.len c.read_layout.result c.read_layout.ensures

pub returns-clause-read : goal.returns-clause-read
returns-clause-read c =
    let small : (k : ℕ) → get_or c.args.head.now k 0 < 256 = search rules in
    IfOk-from_eq c.read_layout.result (IsSpelled c.args.head.now c.args.shape c.args.len)
    (λ l e. read_head-spelled c.args.head.now c.told-head small c.args.shape c.args.len l (sym c.read_layout.ensures ∙ e))

pub returns-clause-spelled : goal.returns-clause-spelled
returns-clause-spelled c = λ l limits is. c.read_layout.ensures ∙ read_head-is l c.args.head.now c.args.shape c.args.len limits is
