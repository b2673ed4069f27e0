use Rattle.std.proofs.Common.{◌≡◌, ℕ, ◌+◌, ◌∙◌, ◌++◌, ◌-◌, length, max, get_or, replicate, take, drop, sym, ap, subst, arith, length-append}
use Rattle.std.proofs.lemmas.List.{with_items_is, length-replicate}
use Rattle.mr_devices.specs.Writing.{IsWritten}
use Rattle.mr_devices.proofs.WriteLaws.{get_or-zeros, written-is}
use Rattle.mr_devices.proofs.mem.write_into.Goals as goal

pub returns-clause-written : goal.returns-clause-written
returns-clause-written c =
    let long : length c.grow.new.file.items ≡ max (length c.args.file.now.items) (c.args.at + length c.args.bytes.now) =
    omega (arith, ap length c.in_ok-grow.ensures.grown, length-append c.args.file.now.items (replicate (c.args.at + length c.args.bytes.now - length c.args.file.now.items) 0), length-replicate {A = ℕ} (c.args.at + length c.args.bytes.now - length c.args.file.now.items) 0) in
    subst (IsWritten c.args.at c.args.bytes.now c.args.file.now.items) (sym (with_items_is c.grow.new.file c.paste.new.file (c.paste.auto.file ∙ c.deref_mut.ensures.len) ∙ c.paste.ensures ∙ ap (λ xs. take c.args.at xs ++ (c.args.bytes.now ++ drop (c.args.at + length c.args.bytes.now) xs)) c.deref_mut.ensures.value))
    (written-is c.args.at c.args.bytes.now c.args.file.now.items c.grow.new.file.items c.requires.some long
    (λ p. ap (λ xs. get_or xs p 0) c.in_ok-grow.ensures.grown ∙ get_or-zeros c.args.file.now.items _ p))
