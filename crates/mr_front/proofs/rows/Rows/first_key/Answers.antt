use Rattle.std.proofs.Common.{◌≡◌, ◌<◌, ◌≤◌, ◌∙◌, ℕ, suc, Option, ⊎_elim, subst, arith}
use Rattle.std.specs.Prelude.{IfNone}
use Rattle.mr_front.specs.Waiting.{mask_cost}
use Rattle.mr_front.specs.Rows.{StandsAt, InRows, LateIn}
use Rattle.mr_front.proofs.RowsLaws.{rows-cases}
use Rattle.mr_front.proofs.ScanLaws.{scanned-first, lost-more}
use Rattle.mr_front.proofs.rows.Rows.first_key.Goals as goal

pub costs-init : goal.costs-init
costs-init c = scanned-first c.args.equations.now c.args.most c.args.self.now 0 (λ i u h. omega arith) (λ k m v h. omega arith)

pub costs-preserved : goal.costs-preserved
costs-preserved c =
    let p = c.args.equations.now in
    let done = c.in_ok-level.ensures in
    let later = c.first_level.new.self in
    let next = c.in-Some-least_above.next in
    let above = c.in-Some-least_above.ensures in
    let nothing = subst (λ (o : Option ℕ). IfNone o ((i u : ℕ) → InRows p later i u → c.costs.cost < mask_cost p u)) c.in_default.is done.nothing in
    let late = subst (λ (o : Option ℕ). IfNone o ((k m v : ℕ) → LateIn later k m v → c.costs.cost < m)) c.in_default.is done.late in
    record {
      count = c.first_level.ensures.count ∙ c.costs.invariant.count;
      lost = lost-more p c.args.most (InRows p c.args.self.now) (InRows p c.costs.self) (InRows p later) c.costs.invariant.lost done.lost;
      least = λ i u h. ⊎_elim
          (λ (own : StandsAt p later.rows.items i u). above.lists i (mask_cost p u) u own (nothing i u h))
          (λ (t : (k m v : ℕ) × (i ≡ suc k) × (m ≤ mask_cost p u) × LateIn later k m v).
          let high : next ≤ t.1 = above.late (suc t.0) t.1 t.2 t.5 (late t.0 t.1 t.2 t.5) in omega (arith, high, t.4))
          (rows-cases p later.rows.items i u h);
      late = λ k m v h. above.late (suc k) m v h (late k m v h);
      least_here = λ i u less. absurd (omega (arith, less));
      late_here = λ k m v less. absurd (omega (arith, less));
    }

pub returns-in_default-least_above-clause-first : goal.returns-in_default-least_above-clause-first
returns-in_default-least_above-clause-first c =
    let p = c.args.equations.now in
    let done = c.in_ok-level.ensures in
    let later = c.first_level.new.self in
    let none = c.in_default-least_above.ensures in
    let nothing = subst (λ (o : Option ℕ). IfNone o ((i u : ℕ) → InRows p later i u → c.costs.cost < mask_cost p u)) c.in_default.is done.nothing in
    let late = subst (λ (o : Option ℕ). IfNone o ((k m v : ℕ) → LateIn later k m v → c.costs.cost < m)) c.in_default.is done.late in (
      (λ i u h. ⊎_elim
          (λ (own : StandsAt p later.rows.items i u). none.lists i (mask_cost p u) u own (nothing i u h))
          (λ (t : (k m v : ℕ) × (i ≡ suc k) × (m ≤ mask_cost p u) × LateIn later k m v). none.late (suc t.0) t.1 t.2 t.5 (late t.0 t.1 t.2 t.5))
          (rows-cases p later.rows.items i u h)),
      (λ k m v h. none.late (suc k) m v h (late k m v h)),
    )
