use Rattle.std.proofs.Common.{ℕ, List, [], ◌∷◌, ◌≡◌, refl, ap, subst}
use Rattle.atomic_table.specs.Table.{rest}
use Rattle.mr_history.specs.declared.entry.Entry.TheVariants.{Mend}
use Rattle.mr_history.specs.declared.kept.KeptStripe.{KeptStripe}
use Rattle.mr_history.specs.Histories.{FitsHistory, HasServed, Names}
use Rattle.mr_history.proofs.HistoryLaws.{serves_fit}
use Rattle.mr_locks.specs.Seats.{names}
use Rattle.mr_locks.proofs.Held.{kept-same, slot-taken}
use Rattle.mr_locks.proofs.locks.Locks.mend.Goals as goal

pub slot_mut-kept-requires : goal.slot_mut-kept-requires
slot_mut-kept-requires g c =
    let held = c.requires.held.1 in
    (c.requires.seat.table, (held.kept, slot-taken c.args.seat.now.me.1 _ c.args.stripe held.kept held.slot refl))

pub returns-clause-grown : goal.returns-clause-grown
returns-clause-grown g c = λ log held.
    let n = names c.args.self.now in
    let t = c.args.stripe in
    let none : rest c.args.seat.now.me.1 ≡ [] = ap (λ (l : List (ℕ × KeptStripe)). rest l) held.slot in
    let old = c.slot_mut-kept.result.now in
    let new = c.mend.new.kept in
    let same = kept-same c.args.seat.now.me.1 _ t held.kept old held.slot c.slot_mut-kept.ensures.value in
    record {
      turn = held.turn;
      kept = new;
      slot = ap (λ (l : List (ℕ × KeptStripe)). (t, new) ∷ l) none;
      fits = serves_fit n t Mend log old new (subst (FitsHistory n t log) same held.fits)
          (subst (λ (m : Names). HasServed m t Mend old new) c.requires.terms c.mend.ensures);
      small = held.small;
    }
