use Rattle.std.proofs.Common.{◌≡◌, ◌*◌, ℕ, length, refl, sym, ap, ◌∙◌}
use Rattle.mr_model.specs.Code.{Code}
use Rattle.mr_model.specs.Rotations.{rotated}
use Rattle.mr_model.proofs.RotationLaws.{count-rotated}
use Rattle.mr_kept.proofs.keepers.Keeper.code.Goals as goal

columns-rotated : (m : Code) (r : ℕ) → (rotated m r).columns ≡ m.columns
unfolding rotated
columns-rotated m r = refl

pub returns-then-version-eq2-clause-rows : goal.returns-then-version-eq2-clause-rows
returns-then-version-eq2-clause-rows g c =
    ap (λ (m : Code). length m.rows) c.rotated.ensures.code
    ∙ count-rotated c.args.self.now.matrix.now _
    ∙ c.shape.ensures.code.count
    ∙ sym (λ j. c.requires.devices j * c.requires.symbols j)

pub returns-then-version-eq2-clause-columns : goal.returns-then-version-eq2-clause-columns
returns-then-version-eq2-clause-columns g c =
    ap (λ (m : Code). m.columns) c.rotated.ensures.code ∙ columns-rotated c.args.self.now.matrix.now _
