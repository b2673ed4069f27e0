-- What a rebuild writes.
use Rattle.std.specs.Prelude.{List, Ok, Option, ℕ, ◌≡◌}
use Rattle.mr_image.specs.Images.{image_of}
use Rattle.mr_io.specs.Taking.{Held, Takes}
use Rattle.mr_mend.specs.Mending.{mended_file}
use Rattle.mr_mend.specs.Replies.{Reply}
use Rattle.mr_plan.specs.PlanLists.{recipes_at}
use Rattle.mr_ready.specs.Lawful.{AreReplies}
use Rattle.mr_ready.specs.Reports.{rebuild_report}
use Rattle.mr_ready.specs.Orders.{OrderParts}
use Rattle.mr_steps.specs.Sinks.{Output, Reports, TakesFront}

-- The mended file of an image is written, and in the report the plans and a lawful reply to each read.
pub record IsOutput (order : OrderParts) (bytes : List ℕ) (output : Output) : Type 0 where
  pub replies : List Reply
  pub are : AreReplies order (image_of order.head bytes) replies
  pub image : output.out ≡ mended_file order.head (recipes_at order.plans) bytes
  pub report : output.report
      ≡ rebuild_report order.head order.plans order.lines replies

-- All of it was taken.
pub record WritesAll (order : OrderParts) (bytes : List ℕ)
    (out_old out_new report_old report_new : Option Held) : Type 0 where
  pub output : Output
  pub is : IsOutput order bytes output
  pub out : Takes out_old out_new output.out
  pub report : Takes report_old report_new output.report

-- A front of the file was taken. The report has the line of a failed write, or where it failed a front of that; or it
-- failed while it took its own text, and then all of the file was taken, and no such line.
pub record WritesFront (order : OrderParts) (bytes : List ℕ)
    (out_old out_new report_old report_new : Option Held) (failed : Type 0) : Type 0 where
  pub output : Output
  pub is : IsOutput order bytes output
  pub out : TakesFront out_old out_new output.out
  pub report : Reports 10 (Ok output) out_old out_new report_old report_new failed
