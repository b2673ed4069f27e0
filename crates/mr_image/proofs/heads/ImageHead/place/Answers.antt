use Rattle.std.proofs.Common.{◌+◌, ◌≤◌, sym, subst, arith}
use Rattle.std.proofs.lemmas.Grind.{common_steps}
use Rattle.mr_image.specs.Heads.{file_bytes}
use Rattle.mr_image.proofs.HeadLaws.{place-within}
use Rattle.mr_image.proofs.heads.ImageHead.place.Goals as goal

pub returns-clause-place : goal.returns-clause-place
returns-clause-place c = grind (arith, common_steps)

pub returns-clause-within : goal.returns-clause-within
returns-clause-within c =
    subst (λ at. at + c.args.self.now.symbol_bytes ≤ file_bytes c.args.self.now) (sym (returns-clause-place c))
    (place-within c.args.self.now c.args.stripe c.args.symbol c.requires.stripe c.requires.symbol)
