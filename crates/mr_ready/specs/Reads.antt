-- The bytes that a rebuild takes, by duty.
use Rattle.std.specs.Prelude.{ℕ, ◌*◌, List, if◌then◌else◌, length, sum_by}
use Rattle.mr_image.specs.Images.{Layout}
use Rattle.mr_io.specs.Growth.{no_bytes}
use Rattle.mr_io.specs.declared.totals.Totals.{Totals}
use Rattle.mr_mend.specs.Mending.{copied_set, members_read}
use Rattle.mr_mend.specs.Serving.{live_reads}
use Rattle.mr_mend.specs.declared.asks.Ask.{Ask}
use Rattle.mr_model.specs.Members.{members}
use Rattle.mr_plan.specs.PlanLists.{recipes_at}
use Rattle.mr_plan.specs.Plans.{PlanParts}
use Rattle.mr_ready.specs.Lawful.{is_lost, single_sets}
use Rattle.mr_ready.specs.Orders.{OrderParts}

-- the bytes read to mend an image: in each stripe those of the set of its plan
abbrev pub mending_reads : Layout → List PlanParts → ℕ
mending_reads l plans = members_read plans l.stripes * l.symbol_bytes

-- the bytes copied: in each stripe those of the symbols without a recipe
abbrev pub copying_reads : Layout → List PlanParts → ℕ
copying_reads l plans =
    l.stripes * (length (members (copied_set l (recipes_at plans 0))) * l.symbol_bytes)

-- the bytes read for the replies: those of the symbols without a recipe
abbrev pub replying_reads : OrderParts → ℕ
replying_reads order = live_reads order.head (recipes_at order.plans) order.asks

-- the symbols that are read for one reply at most: those of the single equation of a lost symbol, or else the one
abbrev pub most_symbols_for : OrderParts → Ask → ℕ
most_symbols_for order ask =
    if is_lost order.plans ask
    then length (members (single_sets order.singles ask.stripe ask.symbol)) else 1

-- the most bytes read for the replies
abbrev pub most_replying_reads : OrderParts → ℕ
most_replying_reads order =
    if order.live then sum_by (most_symbols_for order) order.asks * order.head.symbol_bytes
    else replying_reads order

-- the least bytes of each duty, and the most: they are the same but for those of replies with `live`
abbrev pub least_reads : OrderParts → Totals
least_reads order = record no_bytes {
  mend = mending_reads order.head order.plans;
  live = replying_reads order;
  copy = copying_reads order.head order.plans;
}

abbrev pub most_reads : OrderParts → Totals
most_reads order = record no_bytes {
  mend = mending_reads order.head order.plans;
  live = most_replying_reads order;
  copy = copying_reads order.head order.plans;
}

-- the least bytes that the workers take, and the most: without `live` they serve no reads
abbrev pub least_beside : OrderParts → Totals
least_beside order = record no_bytes {
  mend = mending_reads order.head order.plans;
  live = if order.live then replying_reads order else 0;
}

abbrev pub most_beside : OrderParts → Totals
most_beside order = record no_bytes {
  mend = mending_reads order.head order.plans;
  live = if order.live then most_replying_reads order else 0;
}
