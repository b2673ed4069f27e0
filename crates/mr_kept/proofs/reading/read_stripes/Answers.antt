use Rattle.std.proofs.Common.{List, ℕ, length, ap, sym, subst, ◌∙◌, IfSome}
use Rattle.mr_image.specs.Images.{image_of}
use Rattle.mr_plan.specs.PlanLists.{recipes_at}
use Rattle.mr_mend.specs.Mending.{HoldsCopies}
use Rattle.mr_kept.proofs.OpeningLaws.{length-stripes, stripe-widths, stripes-told}
use Rattle.mr_kept.proofs.reading.read_stripes.Goals as goal

pub returns-clause-count : goal.returns-clause-count
returns-clause-count g c =
    length-stripes c.args.head.now c.deref.result.now (ap (λ (b : List ℕ). length b) c.deref.ensures.value ∙ c.in_ok-file.ensures.long) c.in_ok-stripes.stripes.items c.in_ok-stripes.ensures

pub returns-clause-widths : goal.returns-clause-widths
returns-clause-widths g c =
    stripe-widths c.args.head.now c.deref.result.now (ap (λ (b : List ℕ). length b) c.deref.ensures.value ∙ c.in_ok-file.ensures.long) c.in_ok-stripes.stripes.items c.in_ok-stripes.ensures

pub returns-clause-opened : goal.returns-clause-opened
returns-clause-opened g c =
    stripes-told c.args.head.now c.deref.result.now (ap (λ (b : List ℕ). length b) c.deref.ensures.value ∙ c.in_ok-file.ensures.long) c.in_ok-stripes.stripes.items c.in_ok-stripes.ensures
    c.args.plans.now c.requires.plans (g.E.Eye.sight c.args.eye.now).bytes
    (subst (λ (b : List ℕ). IfSome (g.E.Eye.sight c.args.eye.now).bytes (λ bytes. HoldsCopies c.args.head.now (recipes_at c.args.plans.now) (image_of c.args.head.now bytes) b))
    (sym c.deref.ensures.value) c.in_ok-file.ensures.copied)
