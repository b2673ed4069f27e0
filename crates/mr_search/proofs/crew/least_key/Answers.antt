use Rattle.std.proofs.Common.{◌≡◌, ◌≢◌, ℕ, ◌<◌, ◌∙◌, length, inl, inr, ⊎_elim, None, sym, subst, ap, arith, refl}
use Rattle.std.specs.Prelude.{slice_index_or}
use Rattle.std.proofs.lemmas.Bool.{cases_eq}
use Rattle.std.proofs.lemmas.List.{get_or_default}
use Rattle.mr_search.specs.declared.worker.Worker.{Worker}
use Rattle.mr_search.specs.Crew.{IsKeyAtMost}
use Rattle.mr_search.proofs.CrewLaws.{key-trans}
use Rattle.mr_search.proofs.crew.least_key.Goals as goal

pub loop-place-init : goal.loop-place-init
loop-place-init c = record { lower = λ i d less. absurd (omega (arith, less)); one = inl refl }

pub loop-place-preserved : goal.loop-place-preserved
loop-place-preserved c =
    let ws = c.args.crew.now in
    let place = c.loop-place.place in
    let low : place < length ws = c.loop-place-test.true in
    let old = c.loop-place.invariant in
    let best = c.earlier-least.ensures in
    let key = (slice_index_or ws place c.index-crew-place.result).key in
    record {
      lower = λ i d less. ⊎_elim
          (λ (here : i ≡ place). subst (λ o. IsKeyAtMost c.earlier-least.result o)
          (ap (λ (w : Worker). w.key) (get_or_default ws place c.index-crew-place.result d low) ∙ ap (λ j. (slice_index_or ws j d).key) (sym here)) best.second)
          (λ (apart : i ≢ place). key-trans c.earlier-least.result c.loop-place.least (slice_index_or ws i d).key best.first (old.lower i d (omega (arith, less, apart))))
          (cases_eq i place);
      one = ⊎_elim
          (λ (first : c.earlier-least.result ≡ c.loop-place.least). ⊎_elim
          (λ (none : c.loop-place.least ≡ None). inl (first ∙ none))
          (λ (t : (i : ℕ) × (i < place) × ((d : Worker) → (slice_index_or ws i d).key ≡ c.loop-place.least)). inr (t.0, omega (arith, t.1), λ d. t.2 d ∙ sym first))
          old.one)
          (λ (second : c.earlier-least.result ≡ key). inr (place, omega arith, λ d. ap (λ (w : Worker). w.key) (get_or_default ws place d c.index-crew-place.result low) ∙ sym second))
          best.one;
    }

pub returns-clause-lower : goal.returns-clause-lower
returns-clause-lower c i d less = c.loop-place.invariant.lower i d (omega (arith, less, c.loop-place-test.false))

pub returns-clause-one : goal.returns-clause-one
returns-clause-one c = ⊎_elim
    (λ (none : c.loop-place.least ≡ None). inl none)
    (λ (t : (i : ℕ) × (i < c.loop-place.place) × ((d : Worker) → (slice_index_or c.args.crew.now i d).key ≡ c.loop-place.least)). inr (t.0, omega (arith, t.1, c.loop-place.auto.place-end), t.2))
    c.loop-place.invariant.one
