use Rattle.std.proofs.Common.{arith, ◌∙◌, ◌++◌, [], ◌∷◌, sym, ap, map, string_bytes, decimal}
use Rattle.std.proofs.lemmas.List.{map-append}
use Rattle.std.proofs.lemmas.List.FromFn.{map-range_with_len_more}
use Rattle.mr_array_words.proofs.devices.device_names.Goals as goal

pub loop-number-preserved : goal.loop-number-preserved
loop-number-preserved c = ap (map string_bytes) c.in_ok-push.ensures.items
    ∙ map-append string_bytes c.loop-number.names.items (c.in_ok-name_of.field-0 ∷ [])
    ∙ (λ i. c.loop-number.invariant i ++ c.in_ok-name_of.ensures i ∷ [])
    ∙ sym (map-range_with_len_more decimal 0 c.loop-number.number c.loop-number.number (omega arith))
