use Rattle.std.proofs.Common.{arith, ◌≡◌, ◌≤◌, ◌∙◌, ◌++◌, ℕ, ap, drop, length, map, option_map, subst, sum_by, sym, take}
use Rattle.std.specs.Prelude.{All, IfSome}
use Rattle.std.proofs.Math.Seq.{take-append_seam}
use Rattle.mr_io.specs.Counts.{counted}
use Rattle.mr_io.specs.Growth.{grown, taken_by}
use Rattle.mr_io.specs.Telling.{Told, told_lending, told_returning}
use Rattle.mr_gather_run.specs.Slots.{device_eyes, fresh_slots, present}
use Rattle.mr_gather_run.specs.Tasks.{task_in}
use Rattle.mr_gather_run.proofs.AfterReads.{same-present}
use Rattle.mr_gather_run.proofs.Devices.{can-give, no-eye, slots-cause, slots-cut, slots-grow, slots-put, slots-read, whole-fresh}
use Rattle.mr_gather_run.proofs.Lending.{gives-back}
use Rattle.mr_gather_run.proofs.Sights.{holds}
use Rattle.mr_gather_run.proofs.gathering.gather_devices.Goals as goal

pub gather_slots-gathered-requires-clause-present : goal.gather_slots-gathered-requires-clause-present
gather_slots-gathered-requires-clause-present g c = holds g.F.E.Eye.sight _ c.args.devices.now _ (subst (λ xs. map (option_map g.F.E.Eye.sight) xs ≡ fresh_slots (g.F.Files.told c.args.files.now) c.args.devices.now) (sym c.deref_mut.ensures.value)
    (whole-fresh g.F.E.Eye.sight _ c.args.devices.now c.lend_slots.new.slots.items c.in-Ok.ensures.fresh c.in-Ok.ensures.count)) (task_in c.args.task.now) c.requires.fits

pub retire_slots-requires-after_bounds : goal.retire_slots-requires-after_bounds
retire_slots-requires-after_bounds g c κs within =
    let new = c.gather_slots-gathered.new.slots in
    let old = c.lend_slots.new.slots.items in
    let len : c.lend_slots.new.slots.len ≡ length new = omega (arith, c.gather_slots-gathered.auto.slots, c.deref_mut.ensures.len) in
    let got : take c.lend_slots.new.slots.len (new ++ drop (length new) old) ≡ new = ap (λ (z : ℕ). take z (new ++ drop (length new) old)) len ∙ take-append_seam new (drop (length new) old) in
    subst (λ xs. IfSome (g.F.Files.told c.lend_slots.new.files) (λ (told : Told). length (present xs) ≤ told.lent)) (sym got)
    (can-give _ _ (device_eyes c.args.devices.now) _ _ (subst (λ xs. g.F.Files.told c.lend_slots.new.files ≡ option_map (told_lending (device_eyes c.args.devices.now) (length (present xs))) (g.F.Files.told c.args.files.now)) (sym c.deref_mut.ensures.value) c.in-Ok.ensures.told) (same-present g.F.E.Eye.sight g.F.E.Eye.faults _ new c.gather_slots-gathered.ensures.kept))

pub retire_slots-requires-in-Err-after_bounds : goal.retire_slots-requires-in-Err-after_bounds
retire_slots-requires-in-Err-after_bounds g c κs within =
    (gives-back _ _ (device_eyes c.args.devices.now) _ c.in-Err.ensures.refused c.in-Err.ensures.untold).lent

pub returns-clause-reads : goal.returns-clause-reads
returns-clause-reads g c =
    no-eye _ _ _ c.args.devices.now (task_in c.args.task.now) _ c.in-Err.error _
    (gives-back _ _ (device_eyes c.args.devices.now) _ c.in-Err.ensures.refused c.in-Err.ensures.untold) c.retire_slots-in-Err.ensures.told c.from.ensures

pub returns-in-Ok-clause-reads : goal.returns-in-Ok-clause-reads
returns-in-Ok-clause-reads g c =
    let new = c.gather_slots-gathered.new.slots in
    let old = c.lend_slots.new.slots.items in
    let len : c.lend_slots.new.slots.len ≡ length new = omega (arith, c.gather_slots-gathered.auto.slots, c.deref_mut.ensures.len) in
    let got : take c.lend_slots.new.slots.len (new ++ drop (length new) old) ≡ new = ap (λ (z : ℕ). take z (new ++ drop (length new) old)) len ∙ take-append_seam new (drop (length new) old) in
    let back : g.F.Files.told c.retire_slots.new.files ≡ option_map (told_returning (length (present new))) (g.F.Files.told c.lend_slots.new.files) =
    subst (λ xs. g.F.Files.told c.retire_slots.new.files ≡ option_map (told_returning (length (present xs))) (g.F.Files.told c.lend_slots.new.files)) got c.retire_slots.ensures.told in
    slots-read g.F.E.Eye.sight g.F.E.Eye.faults _ (g.F.Files.told c.lend_slots.new.files) (g.F.Files.told c.retire_slots.new.files) c.args.devices.now c.deref_mut.result.now new (task_in c.args.task.now) c.gather_slots-gathered.result
    (subst (λ xs. map (option_map g.F.E.Eye.sight) xs ≡ fresh_slots (g.F.Files.told c.args.files.now) c.args.devices.now) (sym c.deref_mut.ensures.value)
    (whole-fresh g.F.E.Eye.sight _ c.args.devices.now c.lend_slots.new.slots.items c.in-Ok.ensures.fresh c.in-Ok.ensures.count)) (subst (λ xs. g.F.Files.told c.lend_slots.new.files ≡ option_map (told_lending (device_eyes c.args.devices.now) (length (present xs))) (g.F.Files.told c.args.files.now)) (sym c.deref_mut.ensures.value) c.in-Ok.ensures.told)
    c.gather_slots-gathered.ensures.kept back
    c.gather_slots-gathered.ensures.long c.gather_slots-gathered.ensures.short c.gather_slots-gathered.ensures.faults

pub returns-in-Ok-clause-totals : goal.returns-in-Ok-clause-totals
returns-in-Ok-clause-totals g c =
    let new = c.gather_slots-gathered.new.slots in
    let old = c.lend_slots.new.slots.items in
    let len : c.lend_slots.new.slots.len ≡ length new = omega (arith, c.gather_slots-gathered.auto.slots, c.deref_mut.ensures.len) in
    let got : take c.lend_slots.new.slots.len (new ++ drop (length new) old) ≡ new = ap (λ (z : ℕ). take z (new ++ drop (length new) old)) len ∙ take-append_seam new (drop (length new) old) in
    let back : g.F.Files.told c.retire_slots.new.files ≡ option_map (told_returning (length (present new))) (g.F.Files.told c.lend_slots.new.files) =
    subst (λ xs. g.F.Files.told c.retire_slots.new.files ≡ option_map (told_returning (length (present xs))) (g.F.Files.told c.lend_slots.new.files)) got c.retire_slots.ensures.told in
    let totals : g.F.Files.totals c.retire_slots.new.files ≡ grown (g.F.Files.totals c.lend_slots.new.files) (taken_by (map g.F.E.Eye.sight (present new))) =
    subst (λ xs. g.F.Files.totals c.retire_slots.new.files ≡ grown (g.F.Files.totals c.lend_slots.new.files) (taken_by (map g.F.E.Eye.sight (present xs)))) got c.retire_slots.ensures.totals in
    slots-grow g.F.E.Eye.sight g.F.E.Eye.faults _ (g.F.Files.told c.lend_slots.new.files) (g.F.Files.told c.retire_slots.new.files) c.args.devices.now c.deref_mut.result.now new (task_in c.args.task.now) c.gather_slots-gathered.result
    (subst (λ xs. map (option_map g.F.E.Eye.sight) xs ≡ fresh_slots (g.F.Files.told c.args.files.now) c.args.devices.now) (sym c.deref_mut.ensures.value)
    (whole-fresh g.F.E.Eye.sight _ c.args.devices.now c.lend_slots.new.slots.items c.in-Ok.ensures.fresh c.in-Ok.ensures.count)) (subst (λ xs. g.F.Files.told c.lend_slots.new.files ≡ option_map (told_lending (device_eyes c.args.devices.now) (length (present xs))) (g.F.Files.told c.args.files.now)) (sym c.deref_mut.ensures.value) c.in-Ok.ensures.told)
    c.gather_slots-gathered.ensures.kept back
    c.requires.fits c.symbols.ensures.limits _ (g.F.Files.totals c.lend_slots.new.files) _ c.in-Ok.ensures.totals totals c.gather_slots-gathered.ensures.taken

pub returns-in-Ok-clause-put : goal.returns-in-Ok-clause-put
returns-in-Ok-clause-put g c =
    let new = c.gather_slots-gathered.new.slots in
    let old = c.lend_slots.new.slots.items in
    let len : c.lend_slots.new.slots.len ≡ length new = omega (arith, c.gather_slots-gathered.auto.slots, c.deref_mut.ensures.len) in
    let got : take c.lend_slots.new.slots.len (new ++ drop (length new) old) ≡ new = ap (λ (z : ℕ). take z (new ++ drop (length new) old)) len ∙ take-append_seam new (drop (length new) old) in
    let back : g.F.Files.told c.retire_slots.new.files ≡ option_map (told_returning (length (present new))) (g.F.Files.told c.lend_slots.new.files) =
    subst (λ xs. g.F.Files.told c.retire_slots.new.files ≡ option_map (told_returning (length (present xs))) (g.F.Files.told c.lend_slots.new.files)) got c.retire_slots.ensures.told in
    slots-put g.F.E.Eye.sight g.F.E.Eye.faults _ (g.F.Files.told c.lend_slots.new.files) (g.F.Files.told c.retire_slots.new.files) c.args.devices.now c.deref_mut.result.now new (task_in c.args.task.now) c.gather_slots-gathered.result
    (subst (λ xs. map (option_map g.F.E.Eye.sight) xs ≡ fresh_slots (g.F.Files.told c.args.files.now) c.args.devices.now) (sym c.deref_mut.ensures.value)
    (whole-fresh g.F.E.Eye.sight _ c.args.devices.now c.lend_slots.new.slots.items c.in-Ok.ensures.fresh c.in-Ok.ensures.count)) (subst (λ xs. g.F.Files.told c.lend_slots.new.files ≡ option_map (told_lending (device_eyes c.args.devices.now) (length (present xs))) (g.F.Files.told c.args.files.now)) (sym c.deref_mut.ensures.value) c.in-Ok.ensures.told)
    c.gather_slots-gathered.ensures.kept back
    _ _ c.gather_slots-gathered.ensures.put

pub returns-in-Ok-clause-cut : goal.returns-in-Ok-clause-cut
returns-in-Ok-clause-cut g c =
    let new = c.gather_slots-gathered.new.slots in
    let old = c.lend_slots.new.slots.items in
    let len : c.lend_slots.new.slots.len ≡ length new = omega (arith, c.gather_slots-gathered.auto.slots, c.deref_mut.ensures.len) in
    let got : take c.lend_slots.new.slots.len (new ++ drop (length new) old) ≡ new = ap (λ (z : ℕ). take z (new ++ drop (length new) old)) len ∙ take-append_seam new (drop (length new) old) in
    let back : g.F.Files.told c.retire_slots.new.files ≡ option_map (told_returning (length (present new))) (g.F.Files.told c.lend_slots.new.files) =
    subst (λ xs. g.F.Files.told c.retire_slots.new.files ≡ option_map (told_returning (length (present xs))) (g.F.Files.told c.lend_slots.new.files)) got c.retire_slots.ensures.told in
    slots-cut g.F.E.Eye.sight g.F.E.Eye.faults _ (g.F.Files.told c.lend_slots.new.files) (g.F.Files.told c.retire_slots.new.files) c.args.devices.now c.deref_mut.result.now new (task_in c.args.task.now) c.gather_slots-gathered.result
    (subst (λ xs. map (option_map g.F.E.Eye.sight) xs ≡ fresh_slots (g.F.Files.told c.args.files.now) c.args.devices.now) (sym c.deref_mut.ensures.value)
    (whole-fresh g.F.E.Eye.sight _ c.args.devices.now c.lend_slots.new.slots.items c.in-Ok.ensures.fresh c.in-Ok.ensures.count)) (subst (λ xs. g.F.Files.told c.lend_slots.new.files ≡ option_map (told_lending (device_eyes c.args.devices.now) (length (present xs))) (g.F.Files.told c.args.files.now)) (sym c.deref_mut.ensures.value) c.in-Ok.ensures.told)
    c.gather_slots-gathered.ensures.kept back
    _ _ _ _ c.gather_slots-gathered.ensures.cut

pub returns-in-Ok-clause-cause : goal.returns-in-Ok-clause-cause
returns-in-Ok-clause-cause g c =
    let new = c.gather_slots-gathered.new.slots in
    let old = c.lend_slots.new.slots.items in
    let len : c.lend_slots.new.slots.len ≡ length new = omega (arith, c.gather_slots-gathered.auto.slots, c.deref_mut.ensures.len) in
    let got : take c.lend_slots.new.slots.len (new ++ drop (length new) old) ≡ new = ap (λ (z : ℕ). take z (new ++ drop (length new) old)) len ∙ take-append_seam new (drop (length new) old) in
    let back : g.F.Files.told c.retire_slots.new.files ≡ option_map (told_returning (length (present new))) (g.F.Files.told c.lend_slots.new.files) =
    subst (λ xs. g.F.Files.told c.retire_slots.new.files ≡ option_map (told_returning (length (present xs))) (g.F.Files.told c.lend_slots.new.files)) got c.retire_slots.ensures.told in
    let faults : g.F.Files.faults c.retire_slots.new.files ≡ counted (g.F.Files.faults c.lend_slots.new.files) (sum_by g.F.E.Eye.faults (present new)) =
    subst (λ xs. g.F.Files.faults c.retire_slots.new.files ≡ counted (g.F.Files.faults c.lend_slots.new.files) (sum_by g.F.E.Eye.faults (present xs))) got c.retire_slots.ensures.faults in
    slots-cause g.F.E.Eye.sight g.F.E.Eye.faults _ (g.F.Files.told c.lend_slots.new.files) (g.F.Files.told c.retire_slots.new.files) c.args.devices.now c.deref_mut.result.now new (task_in c.args.task.now) c.gather_slots-gathered.result
    (subst (λ xs. map (option_map g.F.E.Eye.sight) xs ≡ fresh_slots (g.F.Files.told c.args.files.now) c.args.devices.now) (sym c.deref_mut.ensures.value)
    (whole-fresh g.F.E.Eye.sight _ c.args.devices.now c.lend_slots.new.slots.items c.in-Ok.ensures.fresh c.in-Ok.ensures.count)) (subst (λ xs. g.F.Files.told c.lend_slots.new.files ≡ option_map (told_lending (device_eyes c.args.devices.now) (length (present xs))) (g.F.Files.told c.args.files.now)) (sym c.deref_mut.ensures.value) c.in-Ok.ensures.told)
    c.gather_slots-gathered.ensures.kept back
    _ (g.F.Files.faults c.lend_slots.new.files) _ _ _ c.in-Ok.ensures.quiet faults
    (subst (λ xs. All (λ eye. g.F.E.Eye.faults eye ≡ 0) (present xs)) (sym c.deref_mut.ensures.value) c.in-Ok.ensures.no_faults) c.gather_slots-gathered.ensures.taken
    c.gather_slots-gathered.ensures.failed c.gather_slots-gathered.ensures.written c.gather_slots-gathered.ensures.later c.gather_slots-gathered.ensures.quiet
