use Rattle.std.proofs.Common.{◌*◌, ◌∙◌, ap₂, sym}
use Rattle.mr_encode.proofs.encoding.encode.Goals as goal

pub encode_stripes-requires-clause-rows : goal.encode_stripes-requires-clause-rows
encode_stripes-requires-clause-rows g c = c.shape.ensures.code.count ∙ ap₂ (λ a b. a * b) (sym c.requires.devices) (sym c.requires.symbols)
