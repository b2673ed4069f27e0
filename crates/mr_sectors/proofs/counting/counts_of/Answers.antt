use Rattle.std.proofs.Common.{◌≡◌, ◌==◌, ◌+◌, ℕ, length, arith, refl, sym, ap, ◌∙◌, eqb-true}
use Rattle.std.specs.List.{list_any}
use Rattle.mr_model.specs.Members.{members}
use Rattle.mr_patch.specs.Damages.{failed_at, parts_of}
use Rattle.mr_patch.proofs.MendSteps.{walked-failed}
use Rattle.mr_patch.proofs.Walking.{walking-start, walking-turn}
use Rattle.mr_sectors.specs.Counts.{is_same}
use Rattle.mr_sectors.proofs.CountLaws.{counted-mended, counted-patterns, counted-skip, counted-start, counted-turn}
use Rattle.mr_sectors.proofs.counting.counts_of.Goals as goal

pub loop-stripe-init : goal.loop-stripe-init
loop-stripe-init c = (
  counted-start (parts_of c.args.damage.now) (λ p. list_any (is_same p) c.new-seen.result.keys) (length c.new-seen.result.keys) 0
      (λ p. ap (list_any (is_same p)) c.new-seen.ensures.empty) c.new-seen.ensures.len refl,
  walking-start c.args.damage.now.head.now c.args.damage.now.lost c.args.damage.now.sectors.now c.stripes-stripe-end.ensures.limits.few_symbols c.requires.sectors,
)

pub next_pattern-failed-requires-clause-symbols : goal.next_pattern-failed-requires-clause-symbols
next_pattern-failed-requires-clause-symbols c = c.loop-stripe.invariant.1.symbols

pub next_pattern-failed-requires-clause-upwards : goal.next_pattern-failed-requires-clause-upwards
next_pattern-failed-requires-clause-upwards c = c.loop-stripe.invariant.1.upwards

pub loop-stripe-preserved-then-is_empty : goal.loop-stripe-preserved-then-is_empty
loop-stripe-preserved-then-is_empty c =
    let failed : c.next_pattern-failed.result.0 ≡ failed_at (parts_of c.args.damage.now) c.loop-stripe.stripe =
    walked-failed (parts_of c.args.damage.now) c.loop-stripe.left.now c.loop-stripe.stripe c.next_pattern-failed.result.0 c.loop-stripe.invariant.1 c.next_pattern-failed.ensures.set in (
      counted-skip (parts_of c.args.damage.now) c.loop-stripe.stripe (λ p. list_any (is_same p) c.loop-stripe.seen.keys) (length c.loop-stripe.seen.keys) c.loop-stripe.mended
          c.loop-stripe.invariant.0 (sym failed ∙ eqb-true c.next_pattern-failed.result.0 0 (sym c.is_empty.ensures ∙ c.if-is_empty.true)),
      walking-turn c.args.damage.now.sectors.now c.loop-stripe.left.now c.next_pattern-failed.result.1.now c.loop-stripe.stripe c.loop-stripe.invariant.1
          c.next_pattern-failed.ensures.symbols c.next_pattern-failed.ensures.upwards c.next_pattern-failed.ensures.later,
    )

pub pattern_of-requires : goal.pattern_of-requires
pattern_of-requires c = walked-failed (parts_of c.args.damage.now) c.loop-stripe.left.now c.loop-stripe.stripe c.next_pattern-failed.result.0 c.loop-stripe.invariant.1 c.next_pattern-failed.ensures.set

pub loop-stripe-preserved : goal.loop-stripe-preserved
loop-stripe-preserved c =
    let failed : c.next_pattern-failed.result.0 ≡ failed_at (parts_of c.args.damage.now) c.loop-stripe.stripe =
    walked-failed (parts_of c.args.damage.now) c.loop-stripe.left.now c.loop-stripe.stripe c.next_pattern-failed.result.0 c.loop-stripe.invariant.1 c.next_pattern-failed.ensures.set in (
      counted-turn (parts_of c.args.damage.now) c.loop-stripe.stripe (λ p. list_any (is_same p) c.loop-stripe.seen.keys) (length c.loop-stripe.seen.keys) c.loop-stripe.mended
          c.loop-stripe.invariant.0
          (λ p. list_any (is_same p) c.insert.new.self.keys) (length c.insert.new.self.keys) (c.loop-stripe.mended + c.from-mended.result) c.from-mended.result
          c.pattern_of.result c.in_ok-insert.field-0 c.pattern_of.ensures (ap (λ (x : ℕ). x == 0) (sym failed) ∙ sym c.is_empty.ensures ∙ c.if-is_empty.false)
          c.in_ok-insert.ensures.added c.in_ok-insert.ensures.updates.0 c.in_ok-insert.ensures.len
          (c.from-mended.ensures ∙ c.count.ensures.listed ∙ ap (λ (x : ℕ). length (members x)) failed) refl,
      walking-turn c.args.damage.now.sectors.now c.loop-stripe.left.now c.next_pattern-failed.result.1.now c.loop-stripe.stripe c.loop-stripe.invariant.1
          c.next_pattern-failed.ensures.symbols c.next_pattern-failed.ensures.upwards c.next_pattern-failed.ensures.later,
    )

pub returns-clause-patterns : goal.returns-clause-patterns
returns-clause-patterns c = c.len.ensures.len ∙ counted-patterns (parts_of c.args.damage.now) c.loop-stripe.stripe c.args.damage.now.head.now.stripes
    (length c.loop-stripe.seen.keys) c.loop-stripe.mended (λ p. list_any (is_same p) c.loop-stripe.seen.keys) (omega arith) c.loop-stripe.invariant.0

pub returns-clause-mended : goal.returns-clause-mended
returns-clause-mended c = counted-mended (parts_of c.args.damage.now) c.loop-stripe.stripe c.args.damage.now.head.now.stripes
    (length c.loop-stripe.seen.keys) c.loop-stripe.mended (λ p. list_any (is_same p) c.loop-stripe.seen.keys) (omega arith) c.loop-stripe.invariant.0
