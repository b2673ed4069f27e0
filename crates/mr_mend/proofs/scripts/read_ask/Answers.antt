use Rattle.std.proofs.Common.{◌==◌, Some, None, refl, sym, ap, ◌∙◌, arith}
use Rattle.std.specs.List.{after_first}
use Rattle.mr_text.specs.Numbers.{number_of}
use Rattle.mr_mend.proofs.ScriptLines.{ask-no_space, ask-words, ask_at-in, ask_at-out}
use Rattle.mr_mend.proofs.scripts.read_ask.Goals as goal
use Rattle.mr_mend.proofs.scripts.read_ask.Goals.{else-stripe-stripes-via-then-stripe-stripes+else-symbol-symbols, else-stripe-stripes-via-else-stripe-stripes}

pub returns-in_err-stripe_text-clause-value : goal.returns-in_err-stripe_text-clause-value
returns-in_err-stripe_text-clause-value c = c.from_residual.ensures ∙ sym (ask-no_space c.args.head.now c.args.line.now c.in_err-stripe_text.ensures.split)

pub returns-in_err-stripe-clause-value : goal.returns-in_err-stripe-clause-value
returns-in_err-stripe-clause-value c =
    c.from_residual-in_err-stripe.ensures
    ∙ sym (ask-words c.args.head.now c.args.line.now None (number_of (after_first (λ b. b == 32) c.args.line.now))
    (c.in_err-stripe.ensures.value ∙ ap number_of c.in_ok-stripe_text.ensures.split.1) refl)

pub returns-in_err-symbol-clause-value : goal.returns-in_err-symbol-clause-value
returns-in_err-symbol-clause-value c =
    c.from_residual-in_err-symbol.ensures
    ∙ sym (ask-words c.args.head.now c.args.line.now (Some c.in_ok-stripe.stripe) None
    (c.in_ok-stripe.ensures.value ∙ ap number_of c.in_ok-stripe_text.ensures.split.1) (c.in_err-symbol.ensures.value ∙ ap number_of c.in_ok-stripe_text.ensures.split.2))

pub returns-then-symbol-symbols-clause-value : goal.returns-then-symbol-symbols-clause-value
returns-then-symbol-symbols-clause-value c =
    sym (ask-words c.args.head.now c.args.line.now (Some c.in_ok-stripe.stripe) (Some c.in_ok-symbol.symbol)
    (c.in_ok-stripe.ensures.value ∙ ap number_of c.in_ok-stripe_text.ensures.split.1) (c.in_ok-symbol.ensures.value ∙ ap number_of c.in_ok-stripe_text.ensures.split.2)
    ∙ ask_at-in c.args.head.now c.in_ok-stripe.stripe c.in_ok-symbol.symbol
    (omega (arith, c.if-stripe-stripes.true, c.stripes.ensures.number)) (omega (arith, c.if-symbol-symbols.true, c.symbols.ensures.count)))

pub returns-else-stripe-stripes-clause-value : goal.returns-else-stripe-stripes-clause-value
returns-else-stripe-stripes-clause-value c =
    sym (ask-words c.args.head.now c.args.line.now (Some c.in_ok-stripe.stripe) (Some c.in_ok-symbol.symbol)
    (c.in_ok-stripe.ensures.value ∙ ap number_of c.in_ok-stripe_text.ensures.split.1) (c.in_ok-symbol.ensures.value ∙ ap number_of c.in_ok-stripe_text.ensures.split.2)
    ∙ ask_at-out c.args.head.now c.in_ok-stripe.stripe c.in_ok-symbol.symbol (λ low_s low_i.
    elim c.else-stripe-stripes.branch [
      | else-stripe-stripes-via-then-stripe-stripes+else-symbol-symbols w ↦ omega (arith, low_i, w.if-symbol-symbols.false, w.symbols.ensures.count)
      | else-stripe-stripes-via-else-stripe-stripes w ↦ omega (arith, low_s, w.if-stripe-stripes.false, c.stripes.ensures.number)
    ]))
