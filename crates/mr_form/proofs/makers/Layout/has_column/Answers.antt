use Rattle.std.proofs.Common.{◌≡◌, ◌<◌, ◌≤◌, ◌≢◌, ◌/◌, ◌%◌, ◌+◌, ◌-◌, ◌||◌, ◌==◌, true, false, sym, ap, ◌∙◌, arith}
use Rattle.std.proofs.lemmas.Bool.{eq-eqb, ne_eqb}
use Rattle.mr_form.specs.Layouts.{data_devices}
use Rattle.mr_form.proofs.LayoutLaws.{data-column, row-column, diagonal-column, diagonal_test}
use Rattle.mr_form.proofs.makers.Layout.has_column.Goals as goal

pub returns-then-device-data : goal.returns-then-device-data
returns-then-device-data c =
    let on : c.args.symbol / (c.args.p - 1) < data_devices c.args.self c.args.p = omega (arith, c.data_devices-data.ensures) in
    data-column c.args.self c.args.p c.args.symbol c.requires.size c.requires.symbol c.args.column c.requires.column on

pub returns-then-device-data-2 : goal.returns-then-device-data-2
returns-then-device-data-2 c =
    let on : c.args.symbol / (c.args.p - 1) ≡ data_devices c.args.self c.args.p = omega (arith, c.data_devices-data.ensures) in
    row-column c.args.self c.args.p c.args.symbol c.requires.size c.requires.symbol c.args.column c.requires.column on

pub returns-in-Rdp : goal.returns-in-Rdp
returns-in-Rdp c =
    let behind : data_devices c.args.self c.args.p ≤ c.args.symbol / (c.args.p - 1) = omega (arith, c.data_devices-data.ensures) in
    let apart : c.args.symbol / (c.args.p - 1) ≢ data_devices c.args.self c.args.p = λ e. omega (arith, e, c.data_devices-data.ensures, c.if-device-data-2.false) in
    sym (ap (λ l. diagonal_test l c.args.p (c.args.symbol % (c.args.p - 1)) (c.args.column % (c.args.p - 1)) (c.args.column / (c.args.p - 1))) c.in-Rdp.is)
    ∙ diagonal-column c.args.self c.args.p c.args.symbol c.requires.size c.requires.symbol c.args.column c.requires.column behind apart

pub returns-then-diagonal-row : goal.returns-then-diagonal-row
returns-then-diagonal-row c =
    let behind : data_devices c.args.self c.args.p ≤ c.args.symbol / (c.args.p - 1) = omega (arith, c.data_devices-data.ensures) in
    let apart : c.args.symbol / (c.args.p - 1) ≢ data_devices c.args.self c.args.p = λ e. omega (arith, e, c.data_devices-data.ensures, c.if-device-data-2.false) in
    let hit : ((c.args.column % (c.args.p - 1) + c.args.column / (c.args.p - 1)) % c.args.p == c.args.symbol % (c.args.p - 1)) ≡ true = eq-eqb _ _ c.if-diagonal-row.true in
    hit ∙ ap (λ t. t || ((c.args.column % (c.args.p - 1) + c.args.column / (c.args.p - 1)) % c.args.p == c.args.p - 1)) (sym hit)
    ∙ sym (ap (λ l. diagonal_test l c.args.p (c.args.symbol % (c.args.p - 1)) (c.args.column % (c.args.p - 1)) (c.args.column / (c.args.p - 1))) c.in-EvenOdd.is)
    ∙ diagonal-column c.args.self c.args.p c.args.symbol c.requires.size c.requires.symbol c.args.column c.requires.column behind apart

pub returns-else-diagonal-row : goal.returns-else-diagonal-row
returns-else-diagonal-row c =
    let behind : data_devices c.args.self c.args.p ≤ c.args.symbol / (c.args.p - 1) = omega (arith, c.data_devices-data.ensures) in
    let apart : c.args.symbol / (c.args.p - 1) ≢ data_devices c.args.self c.args.p = λ e. omega (arith, e, c.data_devices-data.ensures, c.if-device-data-2.false) in
    let miss : ((c.args.column % (c.args.p - 1) + c.args.column / (c.args.p - 1)) % c.args.p == c.args.symbol % (c.args.p - 1)) ≡ false = ne_eqb _ _ c.if-diagonal-row.false in
    ap (λ t. t || ((c.args.column % (c.args.p - 1) + c.args.column / (c.args.p - 1)) % c.args.p == c.args.p - 1)) (sym miss)
    ∙ sym (ap (λ l. diagonal_test l c.args.p (c.args.symbol % (c.args.p - 1)) (c.args.column % (c.args.p - 1)) (c.args.column / (c.args.p - 1))) c.in-EvenOdd.is)
    ∙ diagonal-column c.args.self c.args.p c.args.symbol c.requires.size c.requires.symbol c.args.column c.requires.column behind apart
