use Rattle.std.proofs.Common.{◌≡◌, length, sum_by, subst, sym, refl, ap, ◌∙◌, arith, map, rules, All}
use Rattle.std.specs.List.{range_with_len}
use Rattle.mr_counts.specs.Numbers.{AreEachBelow}
use Rattle.mr_counts.specs.Shares.{whole_share}
use Rattle.mr_table.specs.declared.row.Row.{Row}
use Rattle.mr_table.specs.Losses.{losses}
use Rattle.mr_table.specs.Rows.{row_of, IsRow}
use Rattle.mr_table.specs.Rule.{share_of}
use Rattle.mr_table.specs.Passes.{pass_view, count_of}
use Rattle.mr_table.specs.Work.{share}
use Rattle.mr_table.proofs.AnswerLaws.{rows}
use Rattle.mr_table.proofs.CrewLaws.{shares-stay, lent-back}
use Rattle.mr_table.proofs.Ordered.{in_order}
use Rattle.mr_table.proofs.tables.table.Goals as goal

pub gather-requires-clause-shares : goal.gather-requires-clause-shares
gather-requires-clause-shares g c =
    let lent = c.as_mut_slice.result.now in
    let back = c.run.new.crew in
    let size : c.in_ok-crew.crew.len ≡ length back = omega (arith, c.run.auto.crew, c.as_mut_slice.ensures.len) in
    omega (
      arith,
      ap (sum_by share) (lent-back c.in_ok-crew.crew.items back c.in_ok-crew.crew.len size),
      shares-stay _ lent back c.run.auto.crew c.run.ensures,
      ap (sum_by share) c.as_mut_slice.ensures.value,
      c.in_ok-crew.ensures.shares,
    )

pub returns-clause-rows : goal.returns-clause-rows
returns-clause-rows g c =
    let m = c.args.matrix.now in
    let listed = c.in_ok-losses.losses.items in
    let taken = (pass_view c.take_all.new.pass).taken in
    let is : listed ≡ losses m.devices = c.in_ok-losses.ensures.losses ∙ ap losses (c.n.ensures ∙ ap (λ d. d.devices) c.shape.ensures.shape) in
    let whole : share_of (pass_view c.take_all.new.pass) ≡ whole_share = c.in_ok-take_all.ensures.share ∙ c.in_ok-rows.ensures.whole in
    let count : count_of c.in_ok-jobs.jobs ≡ length listed = search rules in
    let each : AreEachBelow taken (length listed) = subst (AreEachBelow taken) count (c.in_ok-take_all.ensures.each whole) in
    in_order (λ (r : Row). r.job) (row_of m c.args.budget listed) (λ v. refl) taken (length listed) c.take_all.new.rows.items c.sort.new.rows.items each
    c.in_ok-take_all.ensures.rows c.sort.ensures.permutation c.sort.ensures.ascending
    ∙ ap (λ l. map (row_of m c.args.budget l) (range_with_len 0 (length l))) is

pub returns-clause-each : goal.returns-clause-each
returns-clause-each g c =
    subst (λ l. All (IsRow c.args.matrix.now c.args.budget) l) (sym (returns-clause-rows g c)) (rows c.args.matrix.now c.shape.ensures.code c.args.budget)
