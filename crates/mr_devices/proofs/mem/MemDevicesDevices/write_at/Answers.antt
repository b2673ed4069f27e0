use Rattle.std.proofs.Common.{◌≡◌, ◌∙◌, [], ap, get_or, map, set, subst, sym}
use Rattle.std.proofs.lemmas.List.{with_items_is}
use Rattle.std.specs.Vec.{with_items}
use Rattle.mr_io.specs.FilesStates.{contents_of}
use Rattle.mr_devices.specs.Writing.{IsWritten}
use Rattle.mr_devices.proofs.WriteLaws.{part-none, writes-is, same_shelf}
use Rattle.mr_devices.proofs.mem.MemDevicesDevices.write_at.Goals as goal

pub returns-then-contains-clause-part : goal.returns-then-contains-clause-part
returns-then-contains-clause-part c =
    part-none _ _ c.args.number c.args.at c.args.bytes.now c.requires.some (same_shelf _ _ _ _ (ap (λ m. contents_of m.files) c.self.view_is) (ap (λ m. m.opened) c.self.view_is))

pub returns-in-Ok-clause-written : goal.returns-in-Ok-clause-written
returns-in-Ok-clause-written c =
    let made = c.in-Ok.ensures.written in
    let items : (with_items c.self.inside.opened c.write_in.new.files).items ≡ c.write_in.new.files = with_items_is c.self.inside.opened c.write_in.new.files (c.write_in.auto.files ∙ c.deref_mut.ensures.len) in
    writes-is _ _ c.args.number c.args.at c.args.bytes.now made.0
    (subst (λ xs. IsWritten c.args.at c.args.bytes.now (get_or xs c.args.number []) made.0) (ap (map (λ file. file.items)) c.deref_mut.ensures.value ∙ ap (λ m. m.opened) c.self.view_is) made.1)
    (same_shelf _ _ _ _ (ap (λ m. contents_of m.files) c.self.view_is) (ap (map (λ file. file.items)) items ∙ made.2 ∙ ap (λ xs. set (map (λ file. file.items) xs) c.args.number made.0) c.deref_mut.ensures.value ∙ ap (λ m. set m.opened c.args.number made.0) c.self.view_is))

pub returns-in-Err-clause-part : goal.returns-in-Err-clause-part
returns-in-Err-clause-part c =
    let items : (with_items c.self.inside.opened c.write_in.new.files).items ≡ c.write_in.new.files = with_items_is c.self.inside.opened c.write_in.new.files (c.write_in.auto.files ∙ c.deref_mut.ensures.len) in
    part-none _ _ c.args.number c.args.at c.args.bytes.now c.requires.some
    (same_shelf _ _ _ _ (ap (λ m. contents_of m.files) c.self.view_is) (ap (map (λ file. file.items)) items ∙ c.in-Err.ensures.same ∙ ap (map (λ file. file.items)) c.deref_mut.ensures.value ∙ ap (λ m. m.opened) c.self.view_is))
