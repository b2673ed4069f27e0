-- Texts built piece by piece.
use Rattle.std.proofs.Common.{◌≡◌, ℕ, ◌+◌, ◌*◌, ◌<◌, ◌≤◌, List, [], ◌∷◌, ◌++◌, flat_map, length, sym, ap, ◌∙◌, arith}
use Rattle.std.specs.Fmt.{decimal}
use Rattle.std.proofs.lemmas.List.{append_assoc, append-nil, length-append}
use Rattle.std.proofs.lemmas.List.Concat.{flat_map-append}
use Rattle.std.proofs.lemmas.Fmt.{length-decimal-le}
use Rattle.mr_model.specs.Sets.{below}
use Rattle.mr_model.specs.Members.{members, TakesLeast}
use Rattle.mr_model.proofs.SetLaws.{below-zero}
use Rattle.mr_model.proofs.Loops.{IsRest, IsRest-all, IsRest-none, IsRest-turn, members-turn, members-none}
use Rattle.mr_plan.specs.PlanText.{member_text, members_text}

-- ---- appending the texts of members: those below n are appended to `head`

pub record IsAppending (head : List ℕ) (set n rest : ℕ) (line : List ℕ) : Type 0 where
  pub to_come : IsRest set n rest
  pub done : line ≡ head ++ members_text (below n set)
  pub few : length line ≤ length head + 4 * n
  pub in_range : n ≤ 128

pub IsAppending-start : (head line : List ℕ) (set : ℕ) → line ≡ head → IsAppending head set 0 set line
IsAppending-start head line set e = record {
  to_come = IsRest-all set;
  done = e ∙ sym (append-nil head) ∙ ap (λ xs. head ++ flat_map member_text xs) (sym members-none ∙ ap members (sym (below-zero set)));
  few = omega (arith, ap length e);
  in_range = omega arith;
}

-- a number below 128 has at most three digits
pub short_number : (t : ℕ) → t < 128 → length (decimal t) ≤ 3
short_number t low = length-decimal-le 3 t (omega arith) (omega arith) (omega arith)

pub IsAppending-turn : (head : List ℕ) (set n rest t left : ℕ) (line line' : List ℕ) → IsAppending head set n rest line → TakesLeast rest t left
    → line' ≡ line ++ member_text t → IsAppending head set (t + 1) left line'
IsAppending-turn head set n rest t left line line' h takes e =
    let turn = IsRest-turn set n rest t left h.to_come takes in
    record {
      to_come = turn.rest;
      done = e ∙ ap (λ xs. xs ++ member_text t) h.done ∙ append_assoc head (members_text (below n set)) (member_text t)
          ∙ ap (λ xs. head ++ xs) (ap (λ xs. flat_map member_text (members (below n set)) ++ xs) (sym (append-nil (member_text t)))
          ∙ sym (flat_map-append member_text (members (below n set)) (t ∷ []))
          ∙ ap (flat_map member_text) (sym (members-turn set n t left turn)));
      few = omega (arith, h.few, turn.later, ap length e, length-append line (member_text t), short_number t turn.in_range);
      in_range = omega (arith, turn.in_range);
    }

pub IsAppending-end : (head : List ℕ) (set n rest : ℕ) (line : List ℕ) → IsAppending head set n rest line → rest ≡ 0 → line ≡ head ++ members_text set
IsAppending-end head set n rest line h e = h.done ∙ ap (λ x. head ++ members_text x) (IsRest-none set n rest h.to_come e)

pub IsAppending-room : (head : List ℕ) (set n rest : ℕ) (line : List ℕ) → IsAppending head set n rest line → length line ≤ length head + 512
IsAppending-room head set n rest line h = omega (arith, h.few, h.in_range)
