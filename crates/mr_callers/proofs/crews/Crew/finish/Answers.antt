use Rattle.std.proofs.Common.{rules, ◌≡◌, All, sym, subst}
use Rattle.mr_amend.specs.Callers.{IsDone}
use Rattle.mr_callers.specs.Jobs.{callers_of}
use Rattle.mr_callers.specs.declared.crews.CallerJob.{CallerJob}
use Rattle.mr_callers.proofs.Listing.{all_mapped}
use Rattle.mr_callers.proofs.crews.Crew.finish.Goals as goal

pub close-requires-clause-done : goal.close-requires-clause-done
close-requires-clause-done c =
    let e : c.loop-job.callers.items ≡ callers_of c.args.self.jobs.items = search rules in
    subst (All (IsDone c.args.amend)) (sym e) (all_mapped (λ (job : CallerJob). job.caller) (IsDone c.args.amend) c.args.self.jobs.items c.requires.done)
