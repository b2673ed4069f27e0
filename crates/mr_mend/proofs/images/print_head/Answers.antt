use Rattle.std.proofs.Common.{rules, ◌≡◌, ◌∙◌, length, take, drop, arith, sym}
use Rattle.std.proofs.lemmas.List.{length-take-le, take_at}
use Rattle.mr_mend.proofs.images.print_head.Goals as goal

pub slice_bounds-copy_from_slice-end-2 : goal.slice_bounds-copy_from_slice-end-2
slice_bounds-copy_from_slice-end-2 c = sym (length-take-le 32 c.args.image.now (omega arith))

pub copy_from_slice-requires : goal.copy_from_slice-requires
copy_from_slice-requires c =
    let h : length (take 32 c.args.image.now) ≡ 32 = length-take-le 32 c.args.image.now (omega arith) in
    search rules

pub returns : goal.returns
returns c =
    let h : length c.copy_from_slice.new.self ≡ 32 = c.copy_from_slice.ensures.len ∙ length-take-le 32 c.args.image.now (omega arith) in
    take_at c.copy_from_slice.new.self (drop 32 c.args.image.now) 32 h ∙ c.copy_from_slice.ensures.after ∙ c.print-bytes.ensures
