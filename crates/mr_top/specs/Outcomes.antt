-- What the outcome of a command is to files, and to what is written.
use Rattle.std.specs.Prelude.{Err, IfSome, Ok, Option, Result, length, option_map, ℕ, ⊤, ◌≤◌}
use Rattle.mr_io.specs.Sights.{Sight}
use Rattle.mr_io.specs.Telling.{Told, told_returning}
use Rattle.mr_ready.specs.Carrying.{CanCarry, image_told}
use Rattle.mr_ready.specs.Duties.{duties_of}
use Rattle.mr_ready.specs.Orders.{parts_of_order}
use Rattle.mr_ready.specs.declared.ready.Ready.{Ready as ReadyImage}
use Rattle.mr_steps.specs.declared.fault.Fault.{Fault}
use Rattle.mr_top.specs.Findings.{Finding, rebuilding, writing}
use Rattle.mr_top.specs.Replies.{output_of}
use Rattle.mr_top.specs.declared.outcome.Outcome.{Outcome}
use Rattle.mr_top.specs.declared.outcome.Outcome.TheVariants.{Ready, Reply}
use Rattle.mr_top.specs.declared.reply.Reply.{Reply as OwnReply}

-- what was found
abbrev pub finding_of : {E : Type 0} → (E → Sight) → Outcome E → Finding
finding_of sight (Reply reply) = writing (output_of reply)
finding_of sight (Ready ready) = rebuilding (parts_of_order ready.order) (image_told sight ready)

-- what a command comes to that gives this, or is refused
abbrev pub replied_as : {E : Type 0} → Result OwnReply Fault → Result (Outcome E) Fault
replied_as (Ok reply) = Ok (Reply reply)
replied_as (Err fault) = Err fault

-- how many eyes a rebuild that is ready holds
abbrev pub eyes_held : {E : Type 0} → ReadyImage E → ℕ
eyes_held ready = length (duties_of ready.order.workers ready.order.live)

-- what the files tell once the eyes that are held are given back
abbrev pub told_after : {E : Type 0} → Result (Outcome E) Fault → Option Told → Option Told
told_after (Ok (Reply reply)) told = told
told_after (Ok (Ready ready)) told = option_map (told_returning (eyes_held ready)) told
told_after (Err fault) told = told

-- The eyes that are held are lent, and a rebuild that is ready can be carried.
abbrev pub IsHeld : {E : Type 0} → (E → Sight) → (E → ℕ) → Option Told → Outcome E → Type 0
IsHeld sight faults told (Reply reply) = ⊤
IsHeld sight faults told (Ready ready) =
    CanCarry sight faults ready × IfSome told (λ t. eyes_held ready ≤ t.lent)
