-- The lines of a table as they are put.
use Rattle.std.proofs.Common.{◌≡◌, ℕ, ◌+◌, ◌-◌, ◌^◌, ◌<◌, List, [], ◌∷◌, ◌++◌, length, Option, sym, ◌∙◌, ap, subst, arith, refl}
use Rattle.std.proofs.lemmas.List.{append_assoc, append-nil}
use Rattle.std.proofs.lemmas.Nat.{pow_pos}
use Rattle.std.specs.Prelude.{codes, decimal}
use Rattle.mr_io.specs.Taking.{Held, Takes, TakesPart}
use Rattle.mr_io.proofs.Taking.{takes_more, part_after, part_more}
use Rattle.mr_model.specs.Code.{Code, survivors}
use Rattle.mr_model.specs.Members.{members, TakesLeast}
use Rattle.mr_model.proofs.Loops.{members-none}
use Rattle.mr_model.proofs.SetLaws.{Within-le, Within-minus, true-within}
use Rattle.mr_eq.proofs.SingleLaws.{survivors-below}
use Rattle.mr_losses.specs.Losses.{symbols_of_devices}
use Rattle.mr_table.specs.Rows.{IsAnswerTo}
use Rattle.mr_table.specs.declared.row.JobAnswer.{JobAnswer}
use Rattle.mr_table.specs.declared.row.JobAnswer.TheVariants.{Plan as PlanAnswer, Undetermined as UndeterminedAnswer}
use Rattle.mr_late.specs.Tables.{IsWithin, listed}

-- the devices that are left stand behind this byte, and with what was put they make the whole
pub record IsListing (whole text : List ℕ) (before left : ℕ) : Type 0 where
  pub rest : text ++ listed before (members left) ≡ whole

pub listing-start : (front : List ℕ) (devices : ℕ) → IsListing (front ++ listed 32 (members devices)) front 32 devices
listing-start front devices = record { rest = refl }

pub listing-next : (whole text : List ℕ) (before left device left' : ℕ) → IsListing whole text before left → TakesLeast left device left'
    → IsListing whole (text ++ (before ∷ decimal device)) 44 left'
listing-next whole text before left device left' h takes = record {
  rest = append_assoc text (before ∷ decimal device) (listed 44 (members left'))
      ∙ ap (λ ns. text ++ listed before ns) (sym takes.first) ∙ h.rest;
}

pub listing-end : (whole text : List ℕ) (before left : ℕ) → IsListing whole text before left → left ≡ 0 → text ≡ whole
listing-end whole text before left h none =
    sym (append-nil text) ∙ ap (λ ns. text ++ listed before ns) (sym (ap members none ∙ members-none)) ∙ h.rest

-- a device that is put in part leaves a part of the whole
pub listing-part : (a b c : Option Held) (whole text : List ℕ) (before left device left' : ℕ) → IsListing whole text before left → TakesLeast left device left'
    → Takes a b text → TakesPart b c (before ∷ decimal device) → TakesPart a c whole
listing-part a b c whole text before left device left' h takes taken part =
    subst (λ bytes. TakesPart a c bytes) (listing-next whole text before left device left' h takes).rest
    (part_after a c (text ++ (before ∷ decimal device)) (listed 44 (members left')) (part_more a b c text (before ∷ decimal device) taken part))

-- the set of an answer is of symbols
pub answer-within : (m : Code) (lost budget : ℕ) (answer : JobAnswer) → IsAnswerTo m lost budget answer → IsWithin (2 ^ length m.rows) answer
answer-within m lost budget (PlanAnswer found) h =
    let le = Within-le _ _ (true-within _ _ h.lean.inside) in omega (arith, le, survivors-below m lost)
answer-within m lost budget (UndeterminedAnswer symbol) h = tt
