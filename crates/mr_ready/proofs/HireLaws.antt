-- Workers that are hired one after another.
use Rattle.std.proofs.Common.{◌≡◌, ℕ, ◌+◌, ◌<◌, ◌≤◌, Bool, true, false, cond, List, [], ◌∷◌, ◌++◌, length, get_or, replicate, refl, sym, ap, subst, ◌∙◌, arith, ⊎_elim, append_assoc}
use Rattle.std.specs.Prelude.{Option, Some, nat_lt, option_to_list}
use Rattle.std.proofs.lemmas.Bool.{cases_lt}
use Rattle.std.proofs.lemmas.Bool.Decides.{nat_tests}
use Rattle.std.proofs.lemmas.List.{get_or_append_left, get_or_push, length-append, length-map, length-replicate, length_push, map-append}
use Rattle.mr_board.specs.Boards.{IsPassOf, pass_view}
use Rattle.mr_board.specs.Views.{split_view}
use Rattle.mr_board.specs.declared.board.Board.{Board}
use Rattle.mr_board.specs.declared.board.Pass.{Pass}
use Rattle.mr_board.specs.declared.view.PassView.{PassView}
use Rattle.mr_counts.specs.Numbers.{AreEachBelow}
use Rattle.mr_io.specs.Sights.{Sight, fresh_sight}
use Rattle.mr_io.specs.declared.duty.Duty.TheVariants.{Copy, Live, Mend}
use Rattle.mr_mend.specs.declared.workers.Worker.{Worker}
use Rattle.mr_ready.specs.Crews.{IsFresh, IsHired, IsPlaced, hands_of, worker_eyes}
use Rattle.mr_ready.specs.Duties.{duties_of}
use Rattle.mr_ready.specs.Joining.{IsWhole}
use Rattle.mr_ready.specs.Lent.{AreLent}
use Rattle.mr_ready.specs.Orders.{OrderParts}

-- the eyes in their order, with one worker more
pub eyes-push : {E : Type 0} (workers : List (Worker E)) (worker : Worker E) (rest : List E)
    → worker_eyes (workers ++ worker ∷ []) ++ rest ≡ worker_eyes workers ++ worker.eye ∷ rest
eyes-push {E} workers worker rest =
    ap (λ xs. xs ++ rest) (map-append (λ (w : Worker E). w.eye) workers (worker ∷ [])) ∙ append_assoc (worker_eyes workers) (worker.eye ∷ []) rest

pub hired-push : {E : Type 0} (order : OrderParts) (b : Board) (workers : List (Worker E)) (worker : Worker E)
    → ((k : ℕ) (d : Worker E) → k < length workers → IsHired order b k (get_or workers k d)) → IsHired order b (length workers) worker
    → (k : ℕ) (d : Worker E) → k < length (workers ++ worker ∷ []) → IsHired order b k (get_or (workers ++ worker ∷ []) k d)
hired-push order b workers worker all one k d low = ⊎_elim
    (λ (before : k < length workers). subst (IsHired order b k) (sym (get_or_append_left workers (worker ∷ []) d k before)) (all k d before))
    (λ (last : length workers ≤ k).
    let at : k ≡ length workers = omega (arith, low, length_push workers worker, last) in
    subst (λ n. IsHired order b n (get_or (workers ++ worker ∷ []) k d)) (sym at) (subst (IsHired order b (length workers)) (sym (get_or_push workers worker d k (sym at))) one))
    (cases_lt k (length workers))

-- what is split off did nothing yet
pub fresh-split : (b : Board) (v u : PassView) → u ≡ split_view v → IsFresh b u
fresh-split b v u is = subst (IsFresh b) (sym is) record { draws = refl; idle = refl; share = refl }

-- the worker that is hired
pub hired-with : {E : Type 0} (order : OrderParts) (b : Board) (k : ℕ) (pass : Pass) (worker : Worker E) (v : PassView)
    → IsPassOf b pass → pass_view pass ≡ split_view v → worker.pass ≡ pass → IsPlaced order k worker.role → IsHired order b k worker
hired-with order b k pass worker v of view own role = record {
  pass = subst (IsPassOf b) (sym own) of;
  fresh = fresh-split b v (pass_view worker.pass) (ap pass_view own ∙ view);
  role = role;
}

-- a pass that drew nothing has drawn the numbers below none
pub whole-none : (v : PassView) → v.draws ≡ [] → IsWhole v
whole-none v none all = subst (λ ns. AreEachBelow ns (length ns)) (sym none) (λ x. sym (ap (λ b. cond b 1 0) {x = nat_lt x 0} {y = false} (grind (arith, nat_tests))))

-- there is an eye for each worker, and one more at least
pub many-eyes : {E : Type 0} (sight : E → Sight) (faults : E → ℕ) (told : _) (workers : ℕ) (live : Bool) (eyes : List E) → AreLent sight faults told workers live eyes
    → hands_of workers live < length eyes
many-eyes sight faults told workers live eyes lent = go live (sym (length-map eyes sight) ∙ ap length lent.sights ∙ length-map (duties_of workers live) (fresh_sight told))
  where
    parts : (readers : ℕ) → length (replicate workers Mend ++ replicate readers Live ++ Copy ∷ []) ≡ workers + (readers + 1)
    parts readers =
        length-append (replicate workers Mend ++ replicate readers Live) (Copy ∷ [])
        ∙ omega (arith, length-append (replicate workers Mend) (replicate readers Live), length-replicate workers Mend, length-replicate readers Live)

    go : (live : Bool) → length eyes ≡ length (duties_of workers live) → hands_of workers live < length eyes
    go true e = omega (arith, e, parts workers)
    go false e = omega (arith, e, parts 1)

-- and so many are no worker's
pub others-left : {E : Type 0} (sight : E → Sight) (faults : E → ℕ) (told : _) (workers : ℕ) (live : Bool) (hired : List (Worker E)) (rest : List E) → AreLent sight faults told workers live (worker_eyes hired ++ rest)
    → length hired ≡ hands_of workers live → length rest ≡ cond live 1 2
others-left {E} sight faults told workers live hired rest lent count =
    go live count (sym (length-append (worker_eyes hired) rest) ∙ sym (length-map (worker_eyes hired ++ rest) sight) ∙ ap length lent.sights ∙ length-map (duties_of workers live) (fresh_sight told))
  where
    eyes : length (worker_eyes hired) ≡ length hired
    eyes = length-map hired (λ (w : Worker E). w.eye)

    parts : (readers : ℕ) → length (replicate workers Mend ++ replicate readers Live ++ Copy ∷ []) ≡ workers + (readers + 1)
    parts readers =
        length-append (replicate workers Mend ++ replicate readers Live) (Copy ∷ [])
        ∙ omega (arith, length-append (replicate workers Mend) (replicate readers Live), length-replicate workers Mend, length-replicate readers Live)

    go : (live : Bool) → length hired ≡ hands_of workers live → length (worker_eyes hired) + length rest ≡ length (duties_of workers live) → length rest ≡ cond live 1 2
    go true c e = omega (arith, e, parts workers, eyes, c)
    go false c e = omega (arith, e, parts 1, eyes, c)

-- the eyes in their order, after the next one went to a worker
pub eyes-next : {E : Type 0} (workers more : List (Worker E)) (worker : Worker E) (rest left : List E) (next : Option E) (eye : E) → more ≡ workers ++ worker ∷ []
    → rest ≡ option_to_list next ++ left → next ≡ Some eye → worker.eye ≡ eye → worker_eyes more ++ left ≡ worker_eyes workers ++ rest
eyes-next workers more worker rest left next eye pushed popped is own =
    ap (λ ws. worker_eyes ws ++ left) pushed ∙ eyes-push workers worker left
    ∙ ap (λ e. worker_eyes workers ++ e ∷ left) own
    ∙ ap (λ o. worker_eyes workers ++ (option_to_list o ++ left)) (sym is) ∙ ap (λ xs. worker_eyes workers ++ xs) (sym popped)

pub hands-few : (workers : ℕ) (live : Bool) → workers ≤ 64 → hands_of workers live ≤ 128
hands-few workers true few = omega (arith, few)
hands-few workers false few = omega (arith, few)
