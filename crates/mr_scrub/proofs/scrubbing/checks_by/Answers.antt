use Rattle.std.proofs.Common.{◌≡◌, ◌<◌, List, map, length, ap, sym, subst, ◌∙◌, arith, All}
use Rattle.std.specs.List.{range_with_len}
use Rattle.mr_model.specs.Code.{Code}
use Rattle.mr_image.specs.Images.{stripe_symbols}
use Rattle.mr_image.specs.Rotated.{codes_by, rotations}
use Rattle.mr_scrub.proofs.ScrubLaws.{turns-more, turns-low, turns-some, turns-shape}
use Rattle.mr_scrub.proofs.scrubbing.checks_by.Goals as goal

pub code_of-requires : goal.code_of-requires
code_of-requires c =
    turns-low c.args.head.now c.args.matrix.now c.shape-within_the_limits.ensures.code c.requires c.loop-rotation.rotation (omega (arith, c.rotations-rotation-end.ensures))

pub loop-rotation-preserved : goal.loop-rotation-preserved
loop-rotation-preserved c =
    turns-more c.args.head.now c.args.matrix.now c.loop-rotation.rotation c.loop-rotation.checks.items c.push.new.self.items c.of.result
    c.loop-rotation.invariant (c.of.ensures ∙ c.code_of.ensures) c.in_ok-push.ensures.items

pub returns-clause-codes : goal.returns-clause-codes
returns-clause-codes c =
    let all : c.loop-rotation.rotation ≡ rotations c.args.head.now = omega (arith, c.rotations-rotation-end.ensures) in
    c.loop-rotation.invariant ∙ ap (λ n. map (codes_by c.args.head.now c.args.matrix.now) (range_with_len 0 n)) all

pub returns-clause-some : goal.returns-clause-some
returns-clause-some c =
    subst (λ (codes : List Code). 0 < length codes) (sym (returns-clause-codes c))
    (turns-some c.args.head.now c.args.matrix.now c.shape-within_the_limits.ensures.code c.requires)

pub returns-clause-shape : goal.returns-clause-shape
returns-clause-shape c =
    subst (λ (codes : List Code). All (λ (m : Code). length m.rows ≡ stripe_symbols c.args.head.now) codes) (sym (returns-clause-codes c))
    (turns-shape c.args.head.now c.args.matrix.now c.shape-within_the_limits.ensures.code c.requires)
