-- The eyes of a rebuild that was carried to its end.
use Rattle.std.proofs.Common.{arith, ◌≡◌, ◌≤◌, ℕ, List, All, Any, Result, Ok, Err, ap, get_or, ◌∙◌}
use Rattle.std.specs.Prelude.{OnOk, IsErrOf, sum_by}
use Rattle.std.proofs.lemmas.List.Sums.{get_or-le-sum_by}
use Rattle.mr_io.specs.Counts.{Rose, counted}
use Rattle.mr_ready.proofs.Lending.{no-faults}

counted-none : (before n : ℕ) → n ≡ 0 → counted before n ≡ before
counted-none before n none = omega (arith, none)

-- where none of them failed, the count of the files is as it was
pub faults-kept : {X F E : Type 0} (faults : E → ℕ) (eyes : List E) (result : Result X F) (x : X) (before now : ℕ) → result ≡ Ok x
    → OnOk result (All (λ eye. faults eye ≡ 0) eyes) → now ≡ counted before (sum_by faults eyes) → now ≡ before
faults-kept faults eyes (Ok y) x before now is quiet back = back ∙ counted-none before (sum_by faults eyes) (no-faults faults eyes quiet)
faults-kept {X} {F} faults eyes (Err fault) x before now is quiet back = let clash : ◌≡◌ {A = Result X F} (Err fault) (Ok x) = is in cc

-- where one of them failed, the count of the files rose
pub faults-rose : {T X E : Type 0} (faults : E → ℕ) (eyes : List E) (result : Result T X) (given fault : X) (before now : ℕ) → result ≡ Err given → given ≡ fault
    → (IsErrOf result fault → Any (λ eye. Rose 0 (faults eye)) eyes) → now ≡ counted before (sum_by faults eyes) → Rose before now
faults-rose faults eyes result given fault before now is same cause back =
    let any : Any (λ eye. Rose 0 (faults eye)) eyes = cause (is ∙ ap Err same) in
    let part : faults (get_or eyes any.0 any.1) ≤ sum_by faults eyes = get_or-le-sum_by faults eyes any.0 any.1 any.2 in
    let here : faults (get_or eyes any.0 any.1) ≡ faults any.1 = ap faults any.3 in
    omega (arith, any.4, part, here, back)
