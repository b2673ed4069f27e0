use Rattle.std.proofs.Common.{ℕ, List, [], ◌∷◌, ◌≡◌, ap, ◌∙◌, subst}
use Rattle.atomic_table.specs.Table.{rest}
use Rattle.mr_history.specs.declared.entry.Entry.TheVariants.{Ask}
use Rattle.mr_history.specs.declared.kept.KeptStripe.{KeptStripe}
use Rattle.mr_history.specs.Histories.{FitsHistory, HasServed, IsReply, Names, opened, stripe_of}
use Rattle.mr_history.proofs.HistoryLaws.{serves_fit}
use Rattle.mr_locks.specs.Seats.{names}
use Rattle.mr_locks.proofs.Held.{kept-same, slot-taken}
use Rattle.mr_locks.proofs.locks.Locks.ask.Goals as goal

pub slot_mut-kept-requires : goal.slot_mut-kept-requires
slot_mut-kept-requires g c =
    let held = c.requires.held.1 in
    let is = c.stripe-stripe.ensures ∙ ap (λ (n : Names). stripe_of n c.args.number) c.requires.terms in
    (c.requires.seat.table, (held.kept, slot-taken c.args.seat.now.me.1 _ c.stripe-stripe.result held.kept held.slot is))

pub returns-clause-grown : goal.returns-clause-grown
returns-clause-grown g c = λ log held.
    let n = names c.args.self.now in
    let k = c.args.number in
    let is = c.stripe-stripe.ensures ∙ ap (λ (n : Names). stripe_of n k) c.requires.terms in
    let none : rest c.args.seat.now.me.1 ≡ [] = ap (λ (l : List (ℕ × KeptStripe)). rest l) held.slot in
    let old = c.slot_mut-kept.result.now in
    let new = c.ask.new.kept in
    let same = kept-same c.args.seat.now.me.1 _ c.stripe-stripe.result held.kept old held.slot c.slot_mut-kept.ensures.value in
    record {
      turn = held.turn;
      kept = new;
      slot = ap (λ (l : List (ℕ × KeptStripe)). (c.stripe-stripe.result, new) ∷ l) none ∙ ap (λ (t : ℕ). (t, new) ∷ []) is;
      fits = serves_fit n (stripe_of n k) (Ask k) log old new (subst (FitsHistory n (stripe_of n k) log) same held.fits)
          (subst (λ (m : Names). HasServed m (stripe_of m k) (Ask k) old new) c.requires.terms c.ask.ensures.served);
      small = held.small;
    }

pub returns-clause-reply : goal.returns-clause-reply
returns-clause-reply g c = λ log held.
    let n = names c.args.self.now in
    let k = c.args.number in
    let old = c.slot_mut-kept.result.now in
    let same = kept-same c.args.seat.now.me.1 _ c.stripe-stripe.result held.kept old held.slot c.slot_mut-kept.ensures.value in
    subst (λ (bytes : List ℕ). IsReply n k bytes c.ask.new.reply) (subst (FitsHistory n (stripe_of n k) log) same held.fits).value
    (subst (λ (m : Names). IsReply m k (opened m (stripe_of m k) old) c.ask.new.reply) c.requires.terms c.ask.ensures.reply)
