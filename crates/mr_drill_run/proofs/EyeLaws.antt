-- Eyes that failed.
use Rattle.std.proofs.Common.{arith, ◌≡◌, ◌≤◌, ℕ, List, Any, Result, Ok, Err, ap, get_or}
use Rattle.std.specs.Prelude.{OnErr, sum_by}
use Rattle.std.proofs.lemmas.List.Sums.{get_or-le-sum_by}
use Rattle.mr_io.specs.Counts.{Rose, counted}

-- where one of them failed, the count of the files that took them back rose
pub eyes-rose : {T X E : Type 0} (faults : E → ℕ) (eyes : List E) (result : Result T X) (before now : ℕ) → OnErr result (Any (λ eye. Rose 0 (faults eye)) eyes)
    → now ≡ counted before (sum_by faults eyes) → OnErr result (Rose before now)
eyes-rose faults eyes (Ok made) before now cause back = tt
eyes-rose faults eyes (Err failed) before now any back =
    let part : faults (get_or eyes any.0 any.1) ≤ sum_by faults eyes = get_or-le-sum_by faults eyes any.0 any.1 any.2 in
    let here : faults (get_or eyes any.0 any.1) ≡ faults any.1 = ap faults any.3 in
    omega (arith, any.4, part, here, back)
