use Rattle.std.proofs.Common.{arith, ◌∙◌, ◌+◌, ◌++◌, [], ◌∷◌, map, string_bytes, sym, ap, subst}
use Rattle.clap.specs.Words.{first_value, found_of}
use Rattle.mr_words.specs.Texts.{file_of}
use Rattle.mr_array_words.specs.Devices.{each_of}
use Rattle.mr_array_words.proofs.Answering.{error_of, is_pushed}
use Rattle.mr_array_words.proofs.Each.{AreSoFar, all_there, none_here, one_more}
use Rattle.mr_array_words.proofs.devices.scatter_devices.Goals as goal

pub returns-in_err-device : goal.returns-in_err-device
returns-in_err-device c =
    let here = ap (λ name. file_of (first_value (found_of c.args.matches.now) name)) (c.as_str.ensures.value ∙ ap string_bytes c.name-item.is) in
    error_of (λ devices. devices.items) _ (each_of (λ name. file_of (first_value (found_of c.args.matches.now) name)) (map string_bytes c.args.names.now))
    c.in_err-device.field-0.0 c.from_residual.result c.in_err-device.ensures c.from_residual.ensures.1
    (λ n. none_here (λ name. file_of (first_value (found_of c.args.matches.now) name)) string_bytes c.args.names.now c.loop-name.devices.items c.loop-name.name-index c.name-item.result c.loop-name-test.true
    c.loop-name.invariant (sym here ∙ n))

pub loop-name-preserved : goal.loop-name-preserved
loop-name-preserved c =
    let here = ap (λ name. file_of (first_value (found_of c.args.matches.now) name)) (c.as_str.ensures.value ∙ ap string_bytes c.name-item.is) in
    let items = c.push.ensures.items ∙ is_pushed c.push.result (c.loop-name.devices.items ++ c.in_ok-device.device ∷ []) c.loop-name.devices.items
    (sym c.is_err.ensures.value ∙ c.if-is_err.false) in
    subst (λ xs. AreSoFar (λ name. file_of (first_value (found_of c.args.matches.now) name)) string_bytes c.args.names.now xs (c.loop-name.name-index + 1)) (sym items)
    (one_more (λ name. file_of (first_value (found_of c.args.matches.now) name)) string_bytes c.args.names.now c.loop-name.devices.items c.loop-name.name-index c.name-item.result c.loop-name-test.true
    c.loop-name.invariant c.in_ok-device.device (sym here ∙ c.in_ok-device.ensures))

pub returns : goal.returns
returns c = all_there (λ name. file_of (first_value (found_of c.args.matches.now) name)) string_bytes c.args.names.now c.loop-name.devices.items c.loop-name.name-index (omega (arith, c.loop-name-test.false)) c.loop-name.invariant
