use Rattle.std.proofs.Common.{◌≡◌, ◌∙◌, ◌∷◌, [], List, ℕ, length, ap, refl, subst, sym}
use Rattle.std.specs.Prelude.{IfSome, option_to_list}
use Rattle.mr_image.specs.Heads.{file_bytes}
use Rattle.mr_image.specs.Images.{image_of}
use Rattle.mr_io.specs.Counts.{Rose}
use Rattle.mr_mend.specs.Mending.{HoldsCopies, HoldsMended, KeepsMended}
use Rattle.mr_plan.specs.PlanLists.{recipes_at}
use Rattle.mr_mend.proofs.Wholes.{rebuilt-is, rejoined}
use Rattle.mr_ready.proofs.FinalLaws.{any-right, match-then, on-err-then, on-ok, on-ok-anyway, rose-first}
use Rattle.mr_ready.proofs.desks.finish.Goals as goal

pub returns-clause-image : goal.returns-clause-image
returns-clause-image g c =
    let head = c.args.order.now.head in
    let recipes = recipes_at c.args.order.now.plans in
    let made : c.as_mut_slice-2.result.now ≡ c.put_mended.new.image =
    c.as_mut_slice-2.ensures.value ∙ c.serve_after.ensures.image ∙ rejoined _ c.put_mended.new.image _ (c.put_mended.auto.image ∙ c.as_mut_slice.ensures.len) in
    let long : length c.copy_survivors.new.image ≡ file_bytes head = c.copy_survivors.auto.image ∙ ap length c.as_mut_slice-2.ensures.value ∙ c.serve_after.ensures.buffers.image in
    on-ok c.copy_survivors.result c.copy_survivors.ensures.copied (λ copied bytes board told.
    rejoined _ c.copy_survivors.new.image _ (c.copy_survivors.auto.image ∙ c.as_mut_slice-2.ensures.len)
    ∙ rebuilt-is head recipes c.put_mended.new.image c.put_mended.new.image c.copy_survivors.new.image bytes long c.put_mended.ensures.head refl (c.put_mended.ensures.mended bytes board)
    (subst (λ (xs : List ℕ). KeepsMended head recipes xs c.copy_survivors.new.image) made c.copy_survivors.ensures.kept)
    (subst (λ o. IfSome o (λ (file : List ℕ). HoldsCopies head recipes (image_of head file) c.copy_survivors.new.image)) told copied))

pub returns-clause-replies : goal.returns-clause-replies
returns-clause-replies g c =
    let head = c.args.order.now.head in
    let recipes = recipes_at c.args.order.now.plans in
    let whole = rejoined _ c.put_mended.new.image _ (c.put_mended.auto.image ∙ c.as_mut_slice.ensures.len) in
    on-ok-anyway c.copy_survivors.result
    (match-then _ c.args.desk.now.server _ _ c.in_ok-serve_after.ensures.replies (λ eye h bytes board told. h bytes (subst (HoldsMended head recipes (image_of head bytes)) (sym whole) (c.put_mended.ensures.mended bytes board)) told))

pub returns-clause-cause : goal.returns-clause-cause
returns-clause-cause g c =
    on-err-then c.copy_survivors.result c.copy_survivors.ensures.cause.failed (λ rose.
    any-right (λ eye. Rose 0 (g.E.Eye.faults eye)) (option_to_list c.serve_after.new.server) (c.copy_survivors.new.eye ∷ []) (rose-first g.E.Eye.faults c.copy_survivors.new.eye _ rose))
