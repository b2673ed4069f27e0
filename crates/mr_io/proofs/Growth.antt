-- How bytes add up in totals.
use Rattle.std.proofs.Common.{arith, ◌≡◌, ℕ, ◌+◌, List, ◌∷◌, refl, ◌∙◌, ap}
use Rattle.mr_io.specs.Counts.{counted}
use Rattle.mr_io.specs.Sights.{Sight}
use Rattle.mr_io.specs.TotalsBy.{totals_with}
use Rattle.mr_io.specs.declared.duty.Duty.{Duty}
use Rattle.mr_io.specs.declared.duty.Duty.TheVariants.{Text, Head, Mend, Live, Copy}
use Rattle.mr_io.specs.declared.totals.Totals.{Totals}
use Rattle.mr_io.specs.Growth.{added, bytes_of, grown, no_bytes, taken_by}

pub same_totals : (a b c d e a' b' c' d' e' : ℕ) → a ≡ a' → b ≡ b' → c ≡ c' → d ≡ d' → e ≡ e'
    → ◌≡◌ {A = Totals} (record { text = a; head = b; mend = c; live = d; copy = e })
    (record { text = a'; head = b'; mend = c'; live = d'; copy = e' })
same_totals a b c d e a' b' c' d' e' p q r s t = cc

pub counted-none : (x : ℕ) → x ≡ counted x 0
counted-none x = omega arith

pub counted-counted : (x a b : ℕ) → counted (counted x a) b ≡ counted x (a + b)
counted-counted x a b = omega arith

-- Where nothing is taken.
pub grown-none : (t : Totals) → t ≡ grown t no_bytes
grown-none t = same_totals _ _ _ _ _ _ _ _ _ _ (counted-none _) (counted-none _) (counted-none _) (counted-none _) (counted-none _)

-- One after another.
pub grown-grown : (t a b : Totals) → grown (grown t a) b ≡ grown t (added a b)
grown-grown t a b = same_totals _ _ _ _ _ _ _ _ _ _ (counted-counted _ _ _) (counted-counted _ _ _) (counted-counted _ _ _) (counted-counted _ _ _) (counted-counted _ _ _)

pub counted-stopped : (x n : ℕ) → counted x (counted 0 n) ≡ counted x n
counted-stopped x n = omega arith

pub added-swap : (a b : Totals) → added a b ≡ added b a
added-swap a b = same_totals _ _ _ _ _ _ _ _ _ _ (omega arith) (omega arith) (omega arith) (omega arith) (omega arith)

-- An eye is given back.
pub totals-grown : (t : Totals) (duty : Duty) (n : ℕ) → totals_with t duty n ≡ grown t (bytes_of duty n)
totals-grown t Text n = same_totals _ _ _ _ _ _ _ _ _ _ refl (counted-none _) (counted-none _) (counted-none _) (counted-none _)
totals-grown t Head n = same_totals _ _ _ _ _ _ _ _ _ _ (counted-none _) refl (counted-none _) (counted-none _) (counted-none _)
totals-grown t Mend n = same_totals _ _ _ _ _ _ _ _ _ _ (counted-none _) (counted-none _) refl (counted-none _) (counted-none _)
totals-grown t Live n = same_totals _ _ _ _ _ _ _ _ _ _ (counted-none _) (counted-none _) (counted-none _) refl (counted-none _)
totals-grown t Copy n = same_totals _ _ _ _ _ _ _ _ _ _ (counted-none _) (counted-none _) (counted-none _) (counted-none _) refl

-- An eye that took so many bytes since it was lent is given back.
pub grown-retired : (t : Totals) (duty : Duty) (n : ℕ) → totals_with t duty (counted 0 n) ≡ grown t (bytes_of duty n)
grown-retired t Text n = same_totals _ _ _ _ _ _ _ _ _ _ (counted-stopped _ _) (counted-none _) (counted-none _) (counted-none _) (counted-none _)
grown-retired t Head n = same_totals _ _ _ _ _ _ _ _ _ _ (counted-none _) (counted-stopped _ _) (counted-none _) (counted-none _) (counted-none _)
grown-retired t Mend n = same_totals _ _ _ _ _ _ _ _ _ _ (counted-none _) (counted-none _) (counted-stopped _ _) (counted-none _) (counted-none _)
grown-retired t Live n = same_totals _ _ _ _ _ _ _ _ _ _ (counted-none _) (counted-none _) (counted-none _) (counted-stopped _ _) (counted-none _)
grown-retired t Copy n = same_totals _ _ _ _ _ _ _ _ _ _ (counted-none _) (counted-none _) (counted-none _) (counted-none _) (counted-stopped _ _)

-- Of several eyes the first is given back.
pub grown-taken : (t u : Totals) (sight : Sight) (left : List Sight) → u ≡ totals_with t sight.duty sight.taken
    → grown u (taken_by left) ≡ grown t (taken_by (sight ∷ left))
grown-taken t u sight left e =
    ap (λ v. grown v (taken_by left)) (e ∙ totals-grown t sight.duty sight.taken) ∙ grown-grown t (bytes_of sight.duty sight.taken) (taken_by left)
