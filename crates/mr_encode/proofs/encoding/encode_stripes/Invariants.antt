use Rattle.std.specs.Prelude.{vec_capacity, vec_len}
use Rattle.mr_encode.proofs.BodyLaws.{IsProgress}
use Rattle.mr_encode.proofs.encoding.encode_stripes.Given as goal

-- the stripes so far are appended
abbrev pub invariant-loop-number : goal.invariant-loop-number
invariant-loop-number g l = IsProgress l.fn.encoder.head.now l.fn.encoder.matrix.now l.number (g.E.Eye.sight l.initial.eye) (g.E.Eye.sight l.eye) (g.E.Eye.faults l.initial.eye) (g.E.Eye.faults l.eye)
    l.initial.image.items l.image.items (vec_len l.initial.image) (vec_len l.image) (vec_capacity l.image)
