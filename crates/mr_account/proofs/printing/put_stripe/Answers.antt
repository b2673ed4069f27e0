use Rattle.std.proofs.Common.{◌<◌, List, ℕ, refl, sym, subst, arith}
use Rattle.std.proofs.lemmas.Nat.{row_fits}
use Rattle.mr_image.specs.Images.{stripe_symbols}
use Rattle.mr_io.specs.Taking.{Takes, TakesPart}
use Rattle.mr_io.proofs.Taking.{puts_err}
use Rattle.mr_kept.specs.Kept.{symbol_in}
use Rattle.mr_kept.proofs.PartLaws.{from-symbols}
use Rattle.mr_account.proofs.Ranges.{part-number, takes-number, takes-numbers}
use Rattle.mr_account.proofs.printing.put_stripe.Goals as goal

pub symbol-requires : goal.symbol-requires
symbol-requires g c =
    let low : c.loop-symbol.symbol < stripe_symbols c.args.head.now = omega (arith, c.loop-symbol-test.true, c.symbols-symbol-end.ensures.count) in
    omega (arith, row_fits c.loop-symbol.symbol c.args.head.now.symbol_bytes (stripe_symbols c.args.head.now) c.args.head.now.symbol_bytes low (omega arith), c.requires)

pub returns-in_err-put_all-clause-puts : goal.returns-in_err-put_all-clause-puts
returns-in_err-put_all-clause-puts g c =
    let low : c.loop-symbol.symbol < stripe_symbols c.args.head.now = omega (arith, c.loop-symbol-test.true, c.symbols-symbol-end.ensures.count) in
    puts_err _ _ _ _ c.from_residual.ensures.0
    (subst (λ (b : List ℕ). TakesPart (g.K.Sink.held c.args.out.now) (g.K.Sink.held c.put_all.new.sink) b)
    (sym (from-symbols (symbol_in c.args.head.now.symbol_bytes c.args.kept.now.bytes.items) c.args.head.now.symbol_bytes (stripe_symbols c.args.head.now) c.args.kept.now.bytes.items c.requires (λ i h. refl)))
    (part-number (symbol_in c.args.head.now.symbol_bytes c.args.kept.now.bytes.items) (stripe_symbols c.args.head.now) c.loop-symbol.symbol low _ _ _ _ c.symbol.ensures
    c.loop-symbol.invariant.taken c.in_err-put_all.ensures.puts.err))

pub loop-symbol-preserved : goal.loop-symbol-preserved
loop-symbol-preserved g c =
    let low : c.loop-symbol.symbol < stripe_symbols c.args.head.now = omega (arith, c.loop-symbol-test.true, c.symbols-symbol-end.ensures.count) in
    record {
      taken = takes-number (symbol_in c.args.head.now.symbol_bytes c.args.kept.now.bytes.items) (stripe_symbols c.args.head.now) c.loop-symbol.symbol low _ _ _ _ c.symbol.ensures
          c.loop-symbol.invariant.taken c.in_ok-put_all.ensures.puts.ok;
      quiet = omega (arith, c.in_ok-put_all.ensures.cause.quiet, c.loop-symbol.invariant.quiet);
    }

pub returns-clause-puts : goal.returns-clause-puts
returns-clause-puts g c = record {
  ok = subst (λ (b : List ℕ). Takes (g.K.Sink.held c.args.out.now) (g.K.Sink.held c.loop-symbol.out) b)
      (sym (from-symbols (symbol_in c.args.head.now.symbol_bytes c.args.kept.now.bytes.items) c.args.head.now.symbol_bytes (stripe_symbols c.args.head.now) c.args.kept.now.bytes.items c.requires (λ i h. refl)))
      (takes-numbers (symbol_in c.args.head.now.symbol_bytes c.args.kept.now.bytes.items) (stripe_symbols c.args.head.now) c.loop-symbol.symbol _ _
      (omega (arith, c.loop-symbol-test.false, c.symbols-symbol-end.ensures.count)) c.loop-symbol.invariant.taken);
  err = tt;
}
