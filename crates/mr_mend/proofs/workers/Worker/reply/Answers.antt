use Rattle.std.proofs.Common.{◌≡◌, ℕ, List, Any, sym, subst}
use Rattle.mr_mend.specs.declared.served.Slot.{Slot}
use Rattle.mr_mend.specs.Workers.{numbers_of}
use Rattle.mr_mend.specs.declared.workers.Role.TheVariants.{Reader}
use Rattle.mr_mend.proofs.Strides.{slot-of}
use Rattle.mr_mend.proofs.workers.Worker.reply.Goals as goal

pub reply_in-requires : goal.reply_in-requires
reply_in-requires g c =
    let h : Any (λ (n : ℕ). n ≡ c.args.number) (numbers_of (Reader c.in-Reader.slots c.in-Reader.tmp)) = rw c.in-Reader.is at c.requires in
    subst (λ (xs : List Slot). Any (λ slot. slot.number ≡ c.args.number) xs) (sym c.as_slice.ensures.value) (slot-of c.in-Reader.slots.items c.args.number h.0 h.1 h.2 h.3 h.4)
