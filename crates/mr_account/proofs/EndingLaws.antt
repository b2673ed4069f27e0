-- What a stripe or a slot of an ending tells is what its account says.
use Rattle.std.proofs.Common.{◌≡◌, ℕ, ◌<◌, List, [], length, map, get_or, slice_get, Option, Some, nat_lt, if◌then◌else◌, Bool, sym, ◌∙◌, ap, arith}
use Rattle.std.proofs.lemmas.Bool.Decides.{nat_tests}
use Rattle.std.proofs.lemmas.List.{get_or-map}
use Rattle.std.proofs.lemmas.Option.{slice_get-get_or}
use Rattle.mr_history.specs.declared.entry.Entry.{Entry}
use Rattle.mr_history.specs.Histories.{Names, ask_count, call_count}
use Rattle.mr_ops.specs.declared.ops.Op.{Op}
use Rattle.mr_account.specs.Endings.{Told, told}
use Rattle.mr_account.specs.Lines.{ask_line, history_line, history_text}
use Rattle.mr_account.specs.declared.slots.Slot.{Slot}

-- the item x at a place, as a function of the items sees it
pub told-at : {X A : Type 0} (f : X → List A) (xs : List X) (k : ℕ) (x : X) → k < length xs → x ≡ get_or xs k x → f x ≡ get_or (map f xs) k []
told-at f xs k x low here = ap f here ∙ sym (get_or-map f xs k x [] low)

-- the line of an ask, as its slot tells it
pub ask-told : (ops : List Op) (k : ℕ) (op : Op) (slot : Slot) (t : Told) → k < length ops → op ≡ get_or ops k op → told slot ≡ t
    → ask_line (Some op) slot.place slot.reply.items ≡ ask_line (slice_get ops k) t.place t.reply
ask-told ops k op slot t low here is =
    ap (λ (z : Told). ask_line (Some op) z.place z.reply) is
    ∙ ap (λ (o : Option Op). ask_line o t.place t.reply) (ap Some here ∙ sym (slice_get-get_or ops k op low))

-- an ask names a stripe exactly where its history has more entries than a mend
pub line-named : (n : Names) (t : ℕ) (history : List Entry) → length history ≡ call_count n t
    → (if nat_lt 1 (length history) then history_text t history else []) ≡ history_line n t history
line-named n t history long =
    let same : nat_lt 1 (length history) ≡ nat_lt 0 (ask_count n.ops t) = grind (arith, nat_tests, long) in
    ap (λ (b : Bool). if b then history_text t history else []) same
