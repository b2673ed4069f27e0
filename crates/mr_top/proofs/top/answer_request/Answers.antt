use Rattle.mr_io.proofs.Consuming.{front_none}
use Rattle.std.proofs.Common.{◌+◌, Ok, refl, subst, sym}
use Rattle.mr_io.specs.Reading.{ReadsFront}
use Rattle.mr_mend.specs.Scripts.{script_limit}
use Rattle.mr_top.specs.CheckSteps.{check_answer}
use Rattle.mr_top.specs.Convert.{convert_answer}
use Rattle.mr_top.specs.EncodeSteps.{encode_answer}
use Rattle.mr_top.specs.Drill.{drill_given}
use Rattle.mr_top.specs.Make.{make_given}
use Rattle.mr_top.specs.PlanSteps.{plan_answer}
use Rattle.mr_steps.specs.Readings.{given}
use Rattle.mr_top.specs.Replies.{output_of}
use Rattle.mr_top.specs.declared.outcome.Outcome.TheVariants.{Reply}
use Rattle.mr_top.specs.Scrub.{scrub_answer}
use Rattle.mr_top.specs.Sectors.{sectors_words}
use Rattle.mr_top.specs.SectorsSteps.{sectors_answer}
use Rattle.mr_steps.proofs.Chains.{reads_given}
use Rattle.mr_steps.proofs.Growing.{grows_given}
use Rattle.mr_top.proofs.WithScript.{replied-causes, with-reply, with-request}
use Rattle.mr_top.proofs.top.answer_request.Goals as goal

pub returns-in-Plan-clause-follows : goal.returns-in-Plan-clause-follows
returns-in-Plan-clause-follows g c = with-request g.F.E.Eye.sight _ _ _ _ _ _ _ _ c.in-Plan.is (with-reply g.F.E.Eye.sight _ _ _ _ _ c.plan.result c.replied.result
    (λ contents. plan_answer contents c.in-Plan.matrix c.in-Plan.lost c.in-Plan.budget) c.replied.ensures c.plan.ensures.reads c.plan.ensures.totals)

pub returns-in-Check-clause-follows : goal.returns-in-Check-clause-follows
returns-in-Check-clause-follows g c = with-request g.F.E.Eye.sight _ _ _ _ _ _ _ _ c.in-Check.is (with-reply g.F.E.Eye.sight _ _ _ _ _ c.check.result c.replied-in-Check.result
    (λ contents. check_answer contents c.in-Check.matrix c.in-Check.lost c.in-Check.plan) c.replied-in-Check.ensures c.check.ensures.reads c.check.ensures.totals)

pub returns-in-Make-clause-follows : goal.returns-in-Make-clause-follows
returns-in-Make-clause-follows g c = with-request g.F.E.Eye.sight _ _ _ _ _ _ _ _ c.in-Make.is (with-reply g.F.E.Eye.sight _ _ _ _ _ (Ok c.make.result) (Ok (Reply c.make.result))
    (λ _. given (make_given c.in-Make.code c.in-Make.p)) refl (reads_given output_of _ (Ok c.make.result) (make_given c.in-Make.code c.in-Make.p) c.make.ensures.given)
    (grows_given _ _ (Ok c.make.result) (make_given c.in-Make.code c.in-Make.p)))

pub returns-in-Encode-clause-follows : goal.returns-in-Encode-clause-follows
returns-in-Encode-clause-follows g c = with-request g.F.E.Eye.sight _ _ _ _ _ _ _ _ c.in-Encode.is (with-reply g.F.E.Eye.sight _ _ _ _ _ c.encode.result c.replied-in-Encode.result
    (λ contents. encode_answer contents c.in-Encode.matrix c.in-Encode.payload c.in-Encode.stripes c.in-Encode.bytes) c.replied-in-Encode.ensures c.encode.ensures.reads c.encode.ensures.totals)

pub returns-in-Rebuild-clause-follows : goal.returns-in-Rebuild-clause-follows
returns-in-Rebuild-clause-follows g c = with-request g.F.E.Eye.sight _ _ _ _ _ _ _ _ c.in-Rebuild.is c.rebuild.ensures.follows

pub returns-in-Convert-clause-follows : goal.returns-in-Convert-clause-follows
returns-in-Convert-clause-follows g c = with-request g.F.E.Eye.sight _ _ _ _ _ _ _ _ c.in-Convert.is (with-reply g.F.E.Eye.sight _ _ _ _ _ c.convert.result c.replied-in-Convert.result
    (λ contents. convert_answer contents c.in-Convert.matrix c.in-Convert.image) c.replied-in-Convert.ensures c.convert.ensures.reads c.convert.ensures.totals)

pub returns-in-Scrub-clause-follows : goal.returns-in-Scrub-clause-follows
returns-in-Scrub-clause-follows g c = with-request g.F.E.Eye.sight _ _ _ _ _ _ _ _ c.in-Scrub.is (with-reply g.F.E.Eye.sight _ _ _ _ _ c.scrub.result c.replied-in-Scrub.result
    (λ contents. scrub_answer contents c.in-Scrub.matrix c.in-Scrub.image) c.replied-in-Scrub.ensures c.scrub.ensures.reads c.scrub.ensures.totals)

pub returns-in-Plan-clause-script_front : goal.returns-in-Plan-clause-script_front
returns-in-Plan-clause-script_front g c = subst (λ s. ReadsFront (g.S.Source.left c.args.lent.now.script.now) (g.S.Source.left s) (script_limit + 1))
    (sym c.plan.ensures.kept) (front_none _ _)

pub returns-in-Check-clause-script_front : goal.returns-in-Check-clause-script_front
returns-in-Check-clause-script_front g c = subst (λ s. ReadsFront (g.S.Source.left c.args.lent.now.script.now) (g.S.Source.left s) (script_limit + 1))
    (sym c.check.ensures.kept) (front_none _ _)

pub returns-in-Make-clause-script_front : goal.returns-in-Make-clause-script_front
returns-in-Make-clause-script_front g c = front_none _ _

pub returns-in-Encode-clause-script_front : goal.returns-in-Encode-clause-script_front
returns-in-Encode-clause-script_front g c = subst (λ s. ReadsFront (g.S.Source.left c.args.lent.now.script.now) (g.S.Source.left s) (script_limit + 1))
    (sym c.encode.ensures.kept) (front_none _ _)

pub returns-in-Convert-clause-script_front : goal.returns-in-Convert-clause-script_front
returns-in-Convert-clause-script_front g c = subst (λ s. ReadsFront (g.S.Source.left c.args.lent.now.script.now) (g.S.Source.left s) (script_limit + 1))
    (sym c.convert.ensures.kept) (front_none _ _)

pub returns-in-Scrub-clause-script_front : goal.returns-in-Scrub-clause-script_front
returns-in-Scrub-clause-script_front g c = subst (λ s. ReadsFront (g.S.Source.left c.args.lent.now.script.now) (g.S.Source.left s) (script_limit + 1))
    (sym c.scrub.ensures.kept) (front_none _ _)

pub returns-in-Sectors-clause-follows : goal.returns-in-Sectors-clause-follows
returns-in-Sectors-clause-follows g c = with-request g.F.E.Eye.sight _ _ _ _ _ _ _ _ c.in-Sectors.is (with-reply g.F.E.Eye.sight _ _ _ _ _ c.sectors.result c.replied-in-Sectors.result
    (λ contents. sectors_answer contents (sectors_words c.in-Sectors.matrix c.in-Sectors.image c.in-Sectors.lost c.in-Sectors.bad c.in-Sectors.budget))
    c.replied-in-Sectors.ensures c.sectors.ensures.reads c.sectors.ensures.totals)

pub returns-in-Sectors-clause-script_front : goal.returns-in-Sectors-clause-script_front
returns-in-Sectors-clause-script_front g c = subst (λ s. ReadsFront (g.S.Source.left c.args.lent.now.script.now) (g.S.Source.left s) (script_limit + 1))
    (sym c.sectors.ensures.kept) (front_none _ _)

pub returns-in-Drill-clause-follows : goal.returns-in-Drill-clause-follows
returns-in-Drill-clause-follows g c = with-request g.F.E.Eye.sight _ _ _ _ _ _ _ _ c.in-Drill.is (with-reply g.F.E.Eye.sight _ _ _ _ _ c.drill.result c.replied-in-Drill.result
    (λ _. given (drill_given c.in-Drill.number)) c.replied-in-Drill.ensures (reads_given output_of _ c.drill.result (drill_given c.in-Drill.number) c.drill.ensures.given)
    (grows_given _ _ c.drill.result (drill_given c.in-Drill.number)))

pub returns-in-Drill-clause-script_front : goal.returns-in-Drill-clause-script_front
returns-in-Drill-clause-script_front g c = front_none _ _

pub returns-in-Drill-clause-cause : goal.returns-in-Drill-clause-cause
returns-in-Drill-clause-cause g c = replied-causes c.drill.result c.replied-in-Drill.result _ _ _ _ c.replied-in-Drill.ensures (c.drill.ensures.cause _ _)
