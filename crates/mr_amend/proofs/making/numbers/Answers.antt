use Rattle.std.proofs.Common.{◌++◌, ◌∷◌, [], ℕ, List, sym, ap, ◌∙◌, arith}
use Rattle.mr_amend.proofs.Counting.{range-push}
use Rattle.mr_amend.proofs.making.numbers.Goals as goal

pub loop-number-preserved : goal.loop-number-preserved
loop-number-preserved c =
    let old = c.loop-number.invariant in
    let items = c.push_back_reserved.ensures.items ∙ ap (λ (l : List ℕ). l ++ c.loop-number.number ∷ []) old.items ∙ sym (range-push c.loop-number.number) in
    let len = c.push_back_reserved.ensures.len in
    let room = c.push_back_reserved.ensures.capacity in
    let a = old.long in let b = old.room in record { items = items; long = omega arith; room = omega arith }
