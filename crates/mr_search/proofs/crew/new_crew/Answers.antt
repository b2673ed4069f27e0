use Rattle.std.proofs.Common.{◌≡◌, ◌+◌, ◌++◌, ◌∷◌, [], ◌∙◌, ℕ, List, All, length, sym, subst, ap, arith}
use Rattle.std.specs.Prelude.{◌↔◌}
use Rattle.std.proofs.lemmas.List.{length_push}
use Rattle.std.proofs.lemmas.List.Elements.{All-push}
use Rattle.mr_eq.specs.Problems.{Loss}
use Rattle.mr_front.specs.Rows.{InRows}
use Rattle.mr_front.specs.declared.rows.Rows.{Rows}
use Rattle.mr_search.specs.declared.worker.Worker.{Worker}
use Rattle.mr_search.specs.Crew.{InCrew}
use Rattle.mr_search.specs.Work.{IsIdle}
use Rattle.mr_search.proofs.CrewLaws.{crew-one, crew-more}
use Rattle.mr_search.proofs.crew.new_crew.Goals as goal

pub loop-init : goal.loop-init
loop-init c =
    let n = c.args.levels + 1 in
    let w = c.new.result in
    let items : c.push.new.self.items ≡ w ∷ [] = c.in_ok-push.ensures.items ∙ ap (λ (ws : List Worker). ws ++ w ∷ []) c.new-crew.ensures.items in
    let idle = subst (λ (k : ℕ). IsIdle k w) c.in_ok-start.ensures.count c.new.ensures.idle in
    record {
      idle = subst (λ (ws : List Worker). All (IsIdle n) ws) (sym items) (All-push (IsIdle n) [] w (λ k d less. absurd (omega (arith, less))) idle);
      count = ap length items;
      waits = λ p i u.
          let own = subst (λ (r : Rows). InRows p r i u ↔ ((i ≡ 0) × (u ≡ 0))) (sym c.new.ensures.rows) (c.in_ok-start.ensures.start p i u) in
          let one = crew-one p c.push.new.self.items w items i u in
          ((λ h. own.0 (one.0 h)), (λ h. one.1 (own.1 h)));
    }

pub loop-preserved : goal.loop-preserved
loop-preserved c =
    let n = c.args.levels + 1 in
    let ws = c.loop.crew.items in
    let w = c.new-in-loop-2.result in
    let old = c.loop.invariant in
    let items = c.in_ok-push-2.ensures.items in
    let idle = subst (λ (k : ℕ). IsIdle k w) c.in_ok-new.ensures.count c.new-in-loop-2.ensures.idle in
    record {
      idle = subst (λ (vs : List Worker). All (IsIdle n) vs) (sym items) (All-push (IsIdle n) ws w old.idle idle);
      count = ap length items ∙ length_push ws w ∙ ap (λ k. k + 1) old.count;
      waits = subst (λ (vs : List Worker). (p : Loss) (i u : ℕ) → InCrew p vs i u ↔ ((i ≡ 0) × (u ≡ 0))) (sym items)
          (λ p i u.
          let none = subst (λ (r : Rows). (j v : ℕ) → InRows p r j v → ⊥) (sym c.new-in-loop-2.ensures.rows) (c.in_ok-new.ensures.none p) in
          let t = crew-more p ws w none i u in ((λ h. (old.waits p i u).0 (t.0 h)), (λ h. t.1 ((old.waits p i u).1 h))));
    }
