use Rattle.std.proofs.Common.{rules, ◌≡◌, ℕ, ◌++◌, ◌/◌, length, take, drop, sym, ap, subst, ◌∙◌}
use Rattle.std.proofs.Math.Seq.{take-append_seam}
use Rattle.hex.specs.Hex.{IsBytes, decode_sized, encode_lower}
use Rattle.mr_ops.proofs.Digits.{decoded-err, decoded-ok, payload-bytes, payload-not_lower, payload-refused, payload-text}
use Rattle.mr_ops.proofs.payloads.read_payload.Goals as goal

pub returns-then-not-are_lower_digits-clause-none : goal.returns-then-not-are_lower_digits-clause-none
returns-then-not-are_lower_digits-clause-none c _ payload bytes spells =
    payload-not_lower c.args.text.now payload bytes spells (sym c.are_lower_digits.ensures ∙ c.if-not-are_lower_digits.true)

pub returns-in-Ok-clause-text : goal.returns-in-Ok-clause-text
returns-in-Ok-clause-text c =
    let new = c.decode_to_slice.new.out in
    let old = c.in_ok-bytes.bytes.items in
    let len : c.in_ok-bytes.bytes.len ≡ length new = search rules in
    let got : take c.in_ok-bytes.bytes.len (new ++ drop (length new) old) ≡ new = ap (λ (z : ℕ). take z (new ++ drop (length new) old)) len ∙ take-append_seam new (drop (length new) old) in
    payload-text c.args.text.now (length c.deref_mut.result.now) new (sym c.are_lower_digits.ensures ∙ c.if-not-are_lower_digits.false)
    (decoded-ok (decode_sized c.args.text.now (length c.deref_mut.result.now)) c.decode_to_slice.result new c.decode_to_slice.ensures.value c.in-Ok.is)
    ∙ ap encode_lower (sym got)

pub returns-in-Ok-clause-bytes : goal.returns-in-Ok-clause-bytes
returns-in-Ok-clause-bytes c =
    let new = c.decode_to_slice.new.out in
    let old = c.in_ok-bytes.bytes.items in
    let len : c.in_ok-bytes.bytes.len ≡ length new = search rules in
    let got : take c.in_ok-bytes.bytes.len (new ++ drop (length new) old) ≡ new = ap (λ (z : ℕ). take z (new ++ drop (length new) old)) len ∙ take-append_seam new (drop (length new) old) in
    subst IsBytes (sym got) (payload-bytes c.args.text.now (length c.deref_mut.result.now) new
    (decoded-ok (decode_sized c.args.text.now (length c.deref_mut.result.now)) c.decode_to_slice.result new c.decode_to_slice.ensures.value c.in-Ok.is))

pub returns-in-Err-clause-none : goal.returns-in-Err-clause-none
returns-in-Err-clause-none c _ payload bytes spells =
    let room : length c.deref_mut.result.now ≡ length c.args.text.now / 2 = search rules in
    payload-refused c.args.text.now payload bytes spells (length c.deref_mut.result.now) c.in-Err._fault room
    (decoded-err (decode_sized c.args.text.now (length c.deref_mut.result.now)) c.decode_to_slice.result c.decode_to_slice.new.out c.decode_to_slice.ensures.value c.in-Err._fault c.in-Err.is)
