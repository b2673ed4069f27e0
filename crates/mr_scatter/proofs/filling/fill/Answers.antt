use Rattle.std.proofs.Common.{◌≤◌, ◌∙◌, length, take, sym, subst, arith}
use Rattle.std.specs.Io.KnownBytes.{Consumes}
use Rattle.mr_io.proofs.Consuming.{consumes_more}
use Rattle.mr_scatter.proofs.PartLaws.{put-fits, take-put}
use Rattle.mr_scatter.proofs.filling.fill.Goals as goal

pub loop-done-preserved : goal.loop-done-preserved
loop-done-preserved g c =
    let few : c.in_ok-count.count ≤ length c.get.new.buf = omega (arith, c.in_ok-count.ensures.bound) in (
      put-fits c.loop-done.done _ c.in_ok-count.count c.loop-done.buf c.get.new.buf c.loop-done.invariant.0 few,
      subst (λ xs. Consumes (g.S.Source.left c.args.source.now) (g.S.Source.left c.get.new.self) xs)
          (sym (take-put c.loop-done.done _ c.in_ok-count.count c.loop-done.buf c.get.new.buf c.loop-done.invariant.0 few))
          (consumes_more (g.S.Source.left c.args.source.now) (g.S.Source.left c.loop-done.source) (g.S.Source.left c.get.new.self) (take c.loop-done.done c.loop-done.buf) (take c.in_ok-count.count c.get.new.buf)
          c.loop-done.invariant.1 c.in_ok-count.ensures.bytes.0),
      c.in_ok-count.ensures.cause.quiet ∙ c.loop-done.invariant.2,
    )
