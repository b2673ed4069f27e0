use Rattle.std.proofs.Common.{rules, arith, sym, ap, ◌∙◌, List, [], ◌∷◌, ◌++◌, length}
use Rattle.mr_history.specs.declared.entry.Entry.{Entry}
use Rattle.mr_locks.specs.Rule.{Mine}
use Rattle.mr_locks.specs.Seats.{names}
use Rattle.mr_locks.proofs.Moves.{holding_same, serves}
use Rattle.mr_locks.proofs.locks.Locks.unlock.Goals as goal

pub fetch_add-requires : goal.fetch_add-requires
fetch_add-requires c =
    let b = c.args.self.now in
    let words = b.words in
    let low = c.requires.stripe in
    let h = c.requires.held in
    let seat = c.requires.seat.table in
    (search rules, omega arith, serves (names b) _ _ _ _ (length h.0) h.0 h.1.kept _ c.requires.seat.names_are h.1.turn h.1.slot h.1.fits c.requires.next)

pub returns-clause-seat : goal.returns-clause-seat
returns-clause-seat c =
    let h = c.requires.held in
    let told = c.fetch_add.ensures.2 c.args.stripe (length h.0) h.0 h.1.kept c.args._entry h.1.turn h.1.slot h.1.fits.log_is in record {
      table = c.fetch_add.ensures.0 ∙ c.requires.seat.table;
      names_are = ap (λ (m : Mine). m.0.names) told.2 ∙ c.requires.seat.names_are;
    }

pub returns-clause-served : goal.returns-clause-served
returns-clause-served c = λ log is.
    let h = c.requires.held in
    let same = holding_same _ _ _ _ _ _ (sym h.1.turn ∙ is) in
    c.fetch_add.ensures.2 c.args.stripe (length log) log h.1.kept c.args._entry is h.1.slot (h.1.fits.log_is ∙ ap (λ (l : List Entry). l ++ c.args._entry ∷ []) same.2)

pub overflow_cast-result : goal.overflow_cast-result
overflow_cast-result c =
    let h = c.requires.held in
    let told = c.fetch_add.ensures.2 c.args.stripe (length h.0) h.0 h.1.kept c.args._entry h.1.turn h.1.slot h.1.fits.log_is in
    let is = told.0 in
    let small = h.1.small in
    omega (arith, is, small)
