use Rattle.std.proofs.Common.{sym, ap, arith, take}
use Rattle.mr_text.proofs.LineLaws.{place-none, place-some, rest-found, pieces-one, pieces-first}
use Rattle.mr_text.proofs.lines.split_at_byte.Goals as goal

pub returns-in_err-place-clause-pieces : goal.returns-in_err-place-clause-pieces
returns-in_err-place-clause-pieces c =
    rw c.from_residual.ensures (pieces-one c.args.at c.args.bytes.now (place-none c.args.at c.args.bytes.now c.in_err-place.ensures))

pub returns-in_err-place-clause-split : goal.returns-in_err-place-clause-split
returns-in_err-place-clause-split c = rw c.from_residual.ensures (place-none c.args.at c.args.bytes.now c.in_err-place.ensures)

pub returns-clause-pieces : goal.returns-clause-pieces
returns-clause-pieces c =
    let here = place-some c.args.at c.args.bytes.now c.in_ok-place.place c.in_ok-place.ensures in
    pieces-first c.args.at c.args.bytes.now _ _ (omega (arith, here, c.in_ok-place.ensures.0.high))
    (ap (λ n. take n c.args.bytes.now) (sym here)) (rest-found c.args.at c.args.bytes.now c.in_ok-place.place here)

pub returns-clause-split : goal.returns-clause-split
returns-clause-split c =
    let here = place-some c.args.at c.args.bytes.now c.in_ok-place.place c.in_ok-place.ensures in (
      omega (arith, here, c.in_ok-place.ensures.0.high),
      ap (λ n. take n c.args.bytes.now) (sym here),
      rest-found c.args.at c.args.bytes.now c.in_ok-place.place here,
    )
