use Rattle.std.proofs.Common.{◌∙◌, ◌+◌, ◌*◌, ◌%◌, ◌^◌, sym, ap₂}
use Rattle.mr_drill.specs.declared.words.TheConstants.{MULTIPLIER}
use Rattle.mr_drill.proofs.WordLaws.{cut-sum, digest-none, digest-more}
use Rattle.mr_drill.proofs.words.digest.Goals as goal

pub loop-number-init : goal.loop-number-init
loop-number-init c = sym (digest-none c.args.bytes.now)

pub loop-number-preserved : goal.loop-number-preserved
loop-number-preserved c =
    cut-sum (c.loop-number.digest * MULTIPLIER) c.word_at.result
    ∙ ap₂ (λ h w. (h * MULTIPLIER + w) % 2 ^ 64) c.loop-number.invariant c.word_at.ensures
    ∙ sym (digest-more c.args.bytes.now c.loop-number.number)
