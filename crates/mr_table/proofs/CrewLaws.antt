-- A crew before and after its work.
use Rattle.std.proofs.Common.{◌≡◌, ℕ, suc, ◌<◌, List, [], ◌∷◌, ◌++◌, length, get_or, take, drop, All, refl, sum_by, sym, ap, ◌∙◌, arith}
use Rattle.std.specs.Prelude.{slice_index_or}
use Rattle.std.proofs.Math.Seq.{take-append_seam}
use Rattle.std.proofs.lemmas.List.Sums.{sum_by-cons}
use Rattle.mr_table.specs.declared.task.Task.{Task}
use Rattle.mr_table.specs.declared.worker.Worker.{Worker}
use Rattle.mr_table.specs.Work.{share, IsDone, HasWorked}

-- two lists of which each element has the same f
sum_by-same : {X : Type 0} (f : X → ℕ) (xs ys : List X) → length xs ≡ length ys
    → ((i : ℕ) (d : X) → i < length xs → f (get_or ys i d) ≡ f (get_or xs i d)) → sum_by f ys ≡ sum_by f xs
sum_by-same f [] [] e h = refl
sum_by-same f [] (y ∷ ys) e h = absurd (omega arith)
sum_by-same f (x ∷ xs) [] e h = absurd (omega arith)
sum_by-same f (x ∷ xs) (y ∷ ys) e h = omega (
  arith,
  sum_by-cons f x xs,
  sum_by-cons f y ys,
  h 0 x (omega arith),
  sum_by-same f xs ys (omega arith) (λ i d lt. h (suc i) d (omega arith)),
)

module _ (t : Task) (old new : List Worker) (same : length new ≡ length old)
    (worked : (i : ℕ) (d : Worker) → i < length old → HasWorked t (slice_index_or old i d) (slice_index_or new i d)) where
  -- the workers keep their shares
  pub shares-stay : sum_by share new ≡ sum_by share old
  shares-stay = sum_by-same share old new (sym same) (λ i d low. (worked i d low).share_stays)

  -- and each is done
  pub all-done : All (IsDone t) new
  all-done i d low = (worked i d (omega (arith, low, same))).done

-- the list behind a slice that was lent whole
pub lent-back : {X : Type 0} (items back : List X) (len : ℕ) → len ≡ length back → take len (back ++ drop (length back) items) ≡ back
lent-back items back len e = ap (λ n. take n (back ++ drop (length back) items)) e ∙ take-append_seam back (drop (length back) items)
