use Rattle.std.proofs.Common.{◌≡◌, ◌*◌, ◌++◌, ◌<◌, ℕ, List, All, length, take, drop, get_or, sum_by, refl, sym, ap, ◌∙◌, subst, arith}
use Rattle.std.proofs.Math.Seq.{take-append_seam}
use Rattle.mr_history.specs.Histories.{Names, stripes}
use Rattle.mr_history.specs.declared.kept.KeptStripe.{KeptStripe}
use Rattle.mr_locks.specs.Seats.{IsClosed, names}
use Rattle.mr_amend.specs.Callers.{AreAll, IsDone, made_by, share, view}
use Rattle.mr_amend.specs.declared.caller.Caller.{Caller}
use Rattle.mr_account.specs.Endings.{IsEndingOf}
use Rattle.mr_callers.specs.Jobs.{CanRun, HasRun, callers_of, slots_of}
use Rattle.mr_callers.specs.declared.crews.CallerJob.{CallerJob}
use Rattle.mr_callers.proofs.EndedLaws.{dealt_to, ended, many, ready, same_shares}
use Rattle.mr_callers.proofs.amending.amend_opened.Goals as goal

pub run_jobs-requires-clause-ready : goal.run_jobs-requires-clause-ready
run_jobs-requires-clause-ready g c κs within =
    subst (λ (l : List CallerJob). (k : ℕ) (d : CallerJob) → k < length l → CanRun c.args.opened.amend (get_or l k d)) (sym c.as_mut_slice.ensures.value)
    (ready c.args.opened.amend c.in_ok-callers.callers.items c.in_ok-crew.crew.jobs.items _ c.in_ok-crew.ensures.callers c.in_ok-crew.ensures.numbers c.in_ok-callers.ensures.callers
    (c.bytes.ensures.number ∙ ap (λ (n : Names). n.head.symbol_bytes) (sym c.requires.names)) c.in_ok-crew.ensures.replies)

pub finish-ending-requires-clause-done : goal.finish-ending-requires-clause-done
finish-ending-requires-clause-done g c =
    let new = c.run_jobs.new.jobs in
    let old = c.in_ok-crew.crew.jobs.items in
    let len : c.in_ok-crew.crew.jobs.len ≡ length new = omega (arith, c.run_jobs.auto.jobs, c.as_mut_slice.ensures.len) in
    let got : take c.in_ok-crew.crew.jobs.len (new ++ drop (length new) old) ≡ new = ap (λ (z : ℕ). take z (new ++ drop (length new) old)) len ∙ take-append_seam new (drop (length new) old) in
    subst (All (λ (job : CallerJob). IsDone c.args.opened.amend job.caller)) (sym got)
    (λ k d low. (c.run_jobs.ensures k d (omega (arith, low, c.run_jobs.auto.jobs))).done)

pub finish-ending-requires-clause-all : goal.finish-ending-requires-clause-all
finish-ending-requires-clause-all g c =
    let b = c.args.opened.amend in
    let new = c.run_jobs.new.jobs in
    let old = c.in_ok-crew.crew.jobs.items in
    let len : c.in_ok-crew.crew.jobs.len ≡ length new = omega (arith, c.run_jobs.auto.jobs, c.as_mut_slice.ensures.len) in
    let got : take c.in_ok-crew.crew.jobs.len (new ++ drop (length new) old) ≡ new = ap (λ (z : ℕ). take z (new ++ drop (length new) old)) len ∙ take-append_seam new (drop (length new) old) in
    let ran = subst (λ (l : List CallerJob). (k : ℕ) (d : CallerJob) → k < length l → HasRun b (get_or l k d) (get_or new k d)) c.as_mut_slice.ensures.value c.run_jobs.ensures in
    let long : length new ≡ length old = omega (arith, c.run_jobs.auto.jobs, ap length c.as_mut_slice.ensures.value) in
    subst (λ (l : List CallerJob). AreAll (names b.locks) (callers_of l)) (sym got)
    (same_shares b old new long ran ∙ ap (λ (l : List Caller). sum_by (λ (x : Caller). share (view x)) l) c.in_ok-crew.ensures.callers ∙ c.in_ok-callers.ensures.all)

pub returns-clause-ending : goal.returns-clause-ending
returns-clause-ending g c =
    let b = c.args.opened.amend in
    let new = c.run_jobs.new.jobs in
    let old = c.in_ok-crew.crew.jobs.items in
    let len : c.in_ok-crew.crew.jobs.len ≡ length new = omega (arith, c.run_jobs.auto.jobs, c.as_mut_slice.ensures.len) in
    let got : take c.in_ok-crew.crew.jobs.len (new ++ drop (length new) old) ≡ new = ap (λ (z : ℕ). take z (new ++ drop (length new) old)) len ∙ take-append_seam new (drop (length new) old) in
    let ran = subst (λ (l : List CallerJob). (k : ℕ) (d : CallerJob) → k < length l → HasRun b (get_or l k d) (get_or new k d)) c.as_mut_slice.ensures.value c.run_jobs.ensures in
    let long : length new ≡ length old = omega (arith, c.run_jobs.auto.jobs, ap length c.as_mut_slice.ensures.value) in
    let callers = c.in_ok-callers.ensures.count in
    let many_old : length old ≡ 2 * c.args.workers = omega (arith, many b c.in_ok-callers.callers.items old 0 c.in_ok-crew.ensures.callers c.in_ok-crew.ensures.numbers, callers) in
    let least = c.requires.workers.0 in
    let done = c.finish-ending.ensures in
    let kept = c.finish-ending.result.stripes.items in
    let closed = subst (λ (l : List CallerJob). (t : ℕ) (d : KeptStripe) → t < stripes (names b.locks) → IsClosed (names b.locks) (λ h. made_by h t (callers_of l)) t (get_or kept t d)) got done.closed in
    subst (λ (n : Names). IsEndingOf n (2 * c.args.workers) c.finish-ending.result) c.requires.names
    (ended b (2 * c.args.workers) old new kept (omega (arith, least)) many_old (omega (arith, long, many_old))
    (dealt_to b c.in_ok-callers.callers.items old 0 c.in_ok-crew.ensures.callers c.in_ok-crew.ensures.numbers (names b.locks) (2 * c.args.workers) callers c.in_ok-callers.ensures.views)
    ran done.count closed c.finish-ending.result refl (done.slots ∙ ap slots_of got))
