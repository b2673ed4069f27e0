use Rattle.std.proofs.Common.{◌≡◌, ℕ, ◌+◌, length, refl, sym, ap, subst, ◌∙◌}
use Rattle.mr_model.specs.Code.{row}
use Rattle.mr_model.proofs.Loops.{IsRest, IsTurn, IsRest-none, IsRest-turn}
use Rattle.mr_image.specs.Images.{xor_symbols}
use Rattle.mr_image.proofs.SymbolLaws.{codeword-is}
use Rattle.mr_image.proofs.XorLaws.{xor_symbols-none}
use Rattle.mr_encode.specs.Data.{symbols_in}
use Rattle.mr_encode.proofs.ColumnLaws.{first-turn, turn-end, turn-first, turn-size, turn-xor}
use Rattle.mr_encode.proofs.stripes.encode_symbol.Goals as goal

pub returns-in_default : goal.returns-in_default
returns-in_default g c =
    let size : ℕ = length c.args.symbol.now in
    let none : row c.args.matrix.now c.args.i ≡ 0 = sym (c.symbols-rest.ensures.all ∙ c.row.ensures) ∙ c.in_default.ensures.steps.0 in
    c.clear.ensures
    ∙ sym (xor_symbols-none size (symbols_in size c.args.matrix.now.columns c.args.columns.now))
    ∙ ap (xor_symbols size (symbols_in size c.args.matrix.now.columns c.args.columns.now)) (sym none)
    ∙ sym (codeword-is c.args.matrix.now size (symbols_in size c.args.matrix.now.columns c.args.columns.now) c.args.i)

pub symbol_at-requires : goal.symbol_at-requires
symbol_at-requires g c =
    turn-end c.args.matrix.now (length c.args.symbol.now) c.args.columns.now c.shape-within_the_limits.ensures.code c.requires.columns c.args.i c.requires.number _ _ _
    (first-turn _ _ _ _ (c.symbols-rest.ensures.all ∙ c.row.ensures) c.in-Some.ensures.steps)

pub copy_from_slice-requires : goal.copy_from_slice-requires
copy_from_slice-requires g c = sym
    (turn-size c.args.matrix.now (length c.args.symbol.now) c.args.columns.now c.shape-within_the_limits.ensures.code c.requires.columns c.args.i c.requires.number _ _ _
    (first-turn _ _ _ _ (c.symbols-rest.ensures.all ∙ c.row.ensures) c.in-Some.ensures.steps) _ c.symbol_at.ensures)

pub loop-column-init : goal.loop-column-init
loop-column-init g c =
    let turn : IsTurn (row c.args.matrix.now c.args.i) 0 c.in-Some.first c.next.new.self = first-turn _ _ _ _ (c.symbols-rest.ensures.all ∙ c.row.ensures) c.in-Some.ensures.steps in (
      tt,
      tt,
      (
        c.in-Some.first + 1,
        subst (IsRest (row c.args.matrix.now c.args.i) (c.in-Some.first + 1)) (sym c.into_iter-column-iterator.ensures.into_iter_gives) turn.rest,
        c.copy_from_slice.ensures.after
            ∙ turn-first c.args.matrix.now (length c.args.symbol.now) c.args.columns.now c.shape-within_the_limits.ensures.code c.requires.columns c.args.i c.requires.number _ _ _ turn
            refl _ c.symbol_at.ensures,
      ),
    )

pub symbol_at-requires-in-loop-column : goal.symbol_at-requires-in-loop-column
symbol_at-requires-in-loop-column g c =
    turn-end c.args.matrix.now (length c.args.symbol.now) c.args.columns.now c.shape-within_the_limits.ensures.code c.requires.columns c.args.i c.requires.number _ _ _
    (IsRest-turn _ _ _ _ _ c.loop-column.invariant.2.1 c.in-Some-column.ensures.steps)

pub xor_into-requires : goal.xor_into-requires
xor_into-requires g c =
    c.loop-column.auto.symbol ∙ c.copy_from_slice.auto.self
    ∙ sym (turn-size c.args.matrix.now (length c.args.symbol.now) c.args.columns.now c.shape-within_the_limits.ensures.code c.requires.columns c.args.i c.requires.number _ _ _
    (IsRest-turn _ _ _ _ _ c.loop-column.invariant.2.1 c.in-Some-column.ensures.steps) _ c.symbol_at-in-loop-column.ensures)

pub loop-column-preserved : goal.loop-column-preserved
loop-column-preserved g c =
    let turn : IsTurn (row c.args.matrix.now c.args.i) c.loop-column.invariant.2.0 c.in-Some-column.column c.next-in-loop-column.new.self =
    IsRest-turn _ _ _ _ _ c.loop-column.invariant.2.1 c.in-Some-column.ensures.steps in (
      tt,
      tt,
      (
        c.in-Some-column.column + 1,
        turn.rest,
        turn-xor c.args.matrix.now (length c.args.symbol.now) c.args.columns.now c.shape-within_the_limits.ensures.code c.requires.columns c.args.i c.requires.number _ _ _ turn
            _ c.loop-column.symbol c.xor_into.new.dst c.symbol_at-in-loop-column.ensures c.loop-column.invariant.2.2 c.xor_into.ensures,
      ),
    )

pub returns : goal.returns
returns g c =
    c.loop-column.invariant.2.2
    ∙ ap (xor_symbols (length c.args.symbol.now) (symbols_in (length c.args.symbol.now) c.args.matrix.now.columns c.args.columns.now)) (IsRest-none _ _ _ c.loop-column.invariant.2.1 c.in-None.ensures.steps.0)
    ∙ sym (codeword-is c.args.matrix.now (length c.args.symbol.now) (symbols_in (length c.args.symbol.now) c.args.matrix.now.columns c.args.columns.now) c.args.i)
