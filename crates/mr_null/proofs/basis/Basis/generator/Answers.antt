use Rattle.std.proofs.Common.{◌≡◌, ◌^◌, ap, ap₂, sym, subst, ◌∙◌, unwrap_or, bit_xor}
use Rattle.std.specs.Int.{bit_at}
use Rattle.mr_model.specs.Code.{Spanned, row, combination, kept_equation}
use Rattle.mr_model.proofs.SetLaws.{member-below}
use Rattle.mr_null.proofs.Progress.{none-or}
use Rattle.mr_null.proofs.basis.Basis.generator.Goals as goal

pub row-requires : goal.row-requires
row-requires c = member-below _ c.self.inside.set _ c.self.invariant.symbols (subst (λ (v : Spanned). bit_at v.set c.args.symbol ≡ 1) (sym c.self.view_is) c.requires)

pub with-requires : goal.with-requires
with-requires c = member-below 128 c.self.inside.set _ c.self.invariant.small (subst (λ (v : Spanned). bit_at v.set c.args.symbol ≡ 1) (sym c.self.view_is) c.requires)

pub returns : goal.returns
unfolding kept_equation
returns c =
    c.xor.ensures
    ∙ ap₂ bit_xor
    (c.unwrap_or.ensures ∙ ap (λ o. unwrap_or o 0)
    (c.combination-equation.ensures ∙ ap (combination c.args.self.now.code c.args.self.now.set) (c.row.ensures ∙ ap (λ (v : Spanned). row v.code c.args.symbol) c.self.view_is)))
    (c.with.ensures ∙ none-or (2 ^ c.args.symbol))
