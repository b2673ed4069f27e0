-- What the words come to, from the task and from what became of it.
use Rattle.std.proofs.Common.{◌≡◌, ◌∙◌, ℕ, List, cond, length, Option, Some, None, Result, Ok, Err, refl, sym, ap, subst, inl, inr}
use Rattle.std.specs.Prelude.{◌≢◌}
use Rattle.std.proofs.lemmas.Bool.{eq-eqb, ne_eqb}
use Rattle.mr_array_words.specs.Scatter.{ScatterAsked}
use Rattle.mr_image.specs.Images.{Layout, body_bytes}
use Rattle.mr_model.specs.Code.{Code, Dimensions, dimensions}
use Rattle.mr_image.specs.declared.faults.ImageKind.TheVariants.{Length as OfLength}
use Rattle.mr_devices.specs.Writing.{Shelf}
use Rattle.mr_scatter.specs.Parts.{whole_stripes}
use Rattle.mr_steps.specs.Faults.{fault_status}
use Rattle.mr_steps.specs.Readings.{given}
use Rattle.mr_steps.specs.Refusals.{followed_by}
use Rattle.mr_steps.specs.Steps.{Gives, IsForeseen}
use Rattle.mr_steps.specs.declared.fault.Fault.{Fault}
use Rattle.mr_steps.specs.declared.fault.Fault.TheVariants.{BadImage}
use Rattle.mr_steps.proofs.Results.{result-next}
use Rattle.mr_scatter_run.specs.declared.end.End.{End}
use Rattle.mr_scatter_run.specs.Ends.{Ends, HasParts, Scatters}
use Rattle.mr_scatter_run.specs.Tasks.{Task, body_of, end_text, lost_given, scatter_answer, stream_head, stripes_by, task_for, task_of, whole_given}

-- what is refused before a device is opened is refused at last
pub answer-refused : (contents : List ℕ → List ℕ) (left : List ℕ) (asked : ScatterAsked) (fault : Fault) → (task_of contents left asked).result ≡ Err fault → (scatter_answer contents left asked).result ≡ Err fault
unfolding scatter_answer
answer-refused contents left asked fault is =
    result-next (task_of contents left asked) (λ t. given (whole_given left t)) ∙ ap (λ r. followed_by r (λ t. whole_given left t)) is

module _ (contents : List ℕ → List ℕ) (left : List ℕ) (asked : ScatterAsked) (shelf : Shelf) (new : Option Shelf) where
  -- the answer, for the task
  answer-by : (task : Result Task Fault) → (task_of contents left asked).result ≡ task → (scatter_answer contents left asked).result ≡ followed_by task (λ t. whole_given left t)
  unfolding scatter_answer
  answer-by task is = result-next (task_of contents left asked) (λ t. given (whole_given left t)) ∙ ap (λ r. followed_by r (λ t. whole_given left t)) is

  -- the words are refused before a device is opened
  pub scatters-refused : {X : Type 0} (view : X → Task) (fault : Fault) → Gives view (Err fault) (task_of contents left asked).result → new ≡ Some shelf
      → Scatters view contents left asked shelf new (Err (record { stripes = None; fault = fault }))
  scatters-refused view fault gives same = record {
    answer = tt;
    whole = tt;
    refusal = λ foreseen. (answer-by (Err fault) (gives foreseen), ap (λ r. end_text (stripes_by r left) fault) (sym (gives foreseen)));
    cut = inl (refl, same);
  }

  module _ (task : Task) (is : (task_of contents left asked).result ≡ Ok task) where
    -- all is scattered
    pub scatters-ok : {X Y : Type 0} (view : X → Task) (y : Y) (x : X) (names : List (List ℕ)) → names ≡ asked.devices → view x ≡ task → Ends {X = Y} names task (body_of left) shelf new (Ok y)
        → Scatters view contents left asked shelf new (Ok x)
    scatters-ok {X} {Y} view y x names devices same named =
        let ends : Ends {X = Y} asked.devices task (body_of left) shelf new (Ok y) = subst (λ ns. Ends {X = Y} ns task (body_of left) shelf new (Ok y)) devices named in record {
          answer = answer-by (Ok task) is ∙ ap (λ b. cond b (Ok task) (Err (BadImage OfLength))) (eq-eqb (length (body_of left)) (body_bytes task.layout) ends.whole.0) ∙ ap (λ (t : Task). Ok t) (sym same);
          whole = subst (λ t. HasParts asked.devices t (body_of left) shelf new t.layout.stripes) (sym same) ends.whole.1;
          refusal = tt;
          cut = tt;
        }

    -- it stopped
    pub scatters-err : {X Y : Type 0} (view : X → Task) (end : End) (names : List (List ℕ)) → names ≡ asked.devices → Ends {X = Y} names task (body_of left) shelf new (Err end)
        → Scatters view contents left asked shelf new (Err end)
    scatters-err {X} {Y} view end names devices named =
        let ends : Ends {X = Y} asked.devices task (body_of left) shelf new (Err end) = subst (λ ns. Ends {X = Y} ns task (body_of left) shelf new (Err end)) devices named in record {
          answer = tt;
          whole = tt;
          refusal = λ foreseen.
              let f : (end.fault ≡ BadImage OfLength) × (length (body_of left) ≢ body_bytes task.layout) × (end.stripes ≡ Some (whole_stripes task.layout (length (body_of left)))) = ends.foreseen foreseen in (
                answer-by (Ok task) is ∙ ap (λ b. cond b (Ok task) (Err (BadImage OfLength))) (ne_eqb (length (body_of left)) (body_bytes task.layout) f.1) ∙ ap Err (sym f.0),
                ap (λ o. end_text o end.fault) (f.2 ∙ ap (λ r. stripes_by r left) (sym is)),
              );
          cut = inr (record { value = task; is = is; holds = ends.cut });
        }

-- ---- the task

module _ (m : Code) (asked : ScatterAsked) (left : List ℕ) (d : Dimensions) (lost : List ℕ) (shape : d ≡ dimensions m) (lists : lost_given m asked.lost ≡ Ok lost) where
  task-by : task_for left asked m ≡ followed_by (stream_head d left) (λ l. Ok (record { layout = l; first = asked.first; lost = lost }))
  unfolding task_for
  task-by =
      ap (λ r. followed_by r (λ xs. followed_by (stream_head (dimensions m) left) (λ l. Ok (record { layout = l; first = asked.first; lost = xs })))) lists
      ∙ ap (λ shape. followed_by (stream_head shape left) (λ l. Ok (record { layout = l; first = asked.first; lost = lost }))) (sym shape)

  -- the head is refused
  pub task-refused : (fault : Fault) → (IsForeseen (fault_status fault) → stream_head d left ≡ Err fault) → IsForeseen (fault_status fault) → task_for left asked m ≡ Err fault
  task-refused fault gives foreseen = task-by ∙ ap (λ r. followed_by r (λ l. Ok (record { layout = l; first = asked.first; lost = lost }))) (gives foreseen)

  -- the task is read
  pub task-read : (l : Layout) → stream_head d left ≡ Ok l → task_for left asked m ≡ Ok (record { layout = l; first = asked.first; lost = lost })
  task-read l gives = task-by ∙ ap (λ r. followed_by r (λ l. Ok (record { layout = l; first = asked.first; lost = lost }))) gives
