-- What is to be rebuilt, in lists.
use Rattle.std.specs.Prelude.{ℕ, Bool, List}
use Rattle.mr_eq.specs.Singles.{SinglesOf}
use Rattle.mr_image.specs.Images.{Layout}
use Rattle.mr_mend.specs.declared.asks.Ask.{Ask}
use Rattle.mr_plan.specs.Plans.{PlanParts}
use Rattle.mr_ready.specs.declared.orders.Order.{Order}
use Rattle.mr_steps.specs.declared.choice_line.ChoiceLine.{ChoiceLine}

-- The layout of an image, the plan of each rotation in use with the line that says how it was found and the single
-- equations of its lost symbols, the reads that are asked for, the workers, and whether the reads are served beside them.
pub record OrderParts : Type 0 where
  pub head : Layout
  pub plans : List PlanParts
  pub lines : List ChoiceLine
  pub singles : List SinglesOf
  pub asks : List Ask
  pub workers : ℕ
  pub live : Bool

-- the parts of an order
abbrev pub parts_of_order : Order → OrderParts
parts_of_order order = record {
  head = order.head;
  plans = order.plans;
  lines = order.lines.items;
  singles = order.singles.items;
  asks = order.asks.items;
  workers = order.workers;
  live = order.live;
}
