use Rattle.std.proofs.Common.{ℕ, ◌≡◌, ◌<◌, ◌≤◌, length, subst, arith, ⊎_elim}
use Rattle.std.specs.List.{Contains}
use Rattle.std.proofs.lemmas.Bool.{cases_lt}
use Rattle.mr_front.specs.declared.row.Row.{Row}
use Rattle.mr_front.specs.CostLists.{list_in}
use Rattle.mr_front.specs.Rows.{AtRow}
use Rattle.mr_front.proofs.RowLaws.{at_most-one}
use Rattle.mr_front.proofs.RowsLaws.{at-read, at-past}
use Rattle.mr_front.proofs.rows.Rows.least_above.Goals as goal

pub loop-place-preserved : goal.loop-place-preserved
loop-place-preserved c =
    let rs = c.args.self.now.rows.items in
    let place = c.loop-place.place in
    let r = c.index.result.now in
    let low : place < length rs = omega (arith, c.loop-place-test.true, c.len-place-end.ensures, c.args.self.now.rows.ok.0) in
    let old = c.loop-place.invariant in
    let best = c.lesser-least.ensures in
    record {
      lists = λ i k u less at more. ⊎_elim
          (λ (before : i < place). best.first k (old.lists i k u before at more))
          (λ (here : place ≤ i).
          let same : i ≡ place = omega (arith, less, here) in
          best.second k (c.least_above.ensures.lists k u ((at-read (λ (x : Row). Contains (list_in x.lists.map k) u) rs place r low c.index.ensures).0 (subst (λ (j : ℕ). AtRow (λ (x : Row). Contains (list_in x.lists.map k) u) rs j) same at)) more))
          (cases_lt i place);
      late = λ i k u less at more. ⊎_elim
          (λ (before : i < place). best.first k (old.late i k u before at more))
          (λ (here : place ≤ i).
          let same : i ≡ place = omega (arith, less, here) in
          best.second k (c.least_above.ensures.late k u ((at-read (λ (x : Row). Contains (list_in x.late.map k) u) rs place r low c.index.ensures).0 (subst (λ (j : ℕ). AtRow (λ (x : Row). Contains (list_in x.late.map k) u) rs j) same at)) more))
          (cases_lt i place);
      above = at_most-one c.loop-place.least c.least_above.result c.lesser-least.result c.args.above best.one old.above c.least_above.ensures.above;
    }

pub returns-clause-lists : goal.returns-clause-lists
returns-clause-lists c i k u at more =
    let low = at-past (λ (x : Row). Contains (list_in x.lists.map k) u) c.args.self.now.rows.items i at in
    c.loop-place.invariant.lists i k u (omega (arith, low, c.loop-place-test.false, c.len-place-end.ensures, c.args.self.now.rows.ok.0)) at more

pub returns-clause-late : goal.returns-clause-late
returns-clause-late c i k u at more =
    let low = at-past (λ (x : Row). Contains (list_in x.late.map k) u) c.args.self.now.rows.items i at in
    c.loop-place.invariant.late i k u (omega (arith, low, c.loop-place-test.false, c.len-place-end.ensures, c.args.self.now.rows.ok.0)) at more
