use Rattle.std.proofs.Common.{◌≡◌, ◌∙◌, List, ℕ, take, ap, subst, rules, Some}
use Rattle.std.specs.Prelude.{IfSome}
use Rattle.mr_cache.specs.Cache.{budget_of}
use Rattle.mr_mend.proofs.Wholes.{rejoined, told-weaker}
use Rattle.mr_patch.specs.Copying.{KeepsFailed}
use Rattle.mr_patch.specs.Damages.{parts_of, patched_file}
use Rattle.mr_patch.proofs.Assembling.{patched-told}
use Rattle.mr_patch.proofs.patching.patch.Goals as goal

pub returns-in-Ok-clause-patched : goal.returns-in-Ok-clause-patched
returns-in-Ok-clause-patched g c =
    let head : c.deref_mut-3.result.now ≡ c.print_head.new.image =
    c.deref_mut-3.ensures.value ∙ rejoined _ c.print_head.new.image _ (c.print_head.auto.image ∙ c.deref_mut.ensures.len) in
    let made : c.deref_mut-4.result.now ≡ c.mend_failed.new.image =
    c.deref_mut-4.ensures.value ∙ rejoined _ c.mend_failed.new.image _ (c.mend_failed.auto.image ∙ c.deref_mut-3.ensures.len) in
    let told : IfSome (g.E.Eye.sight c.args.mend_eye.now).bytes (λ (bytes : List ℕ). (g.E.Eye.sight c.args.copy_eye.now).bytes ≡ Some bytes
    → c.copy_others.new.image ≡ patched_file (parts_of c.args.patching.now.damage) (budget_of c.args.cache.now) bytes) =
    patched-told (parts_of c.args.patching.now.damage) c.bytes-within_the_limits.ensures.limits (budget_of c.args.cache.now) c.shape-code.ensures.code c.requires.damage c.requires.determined
    c.print_head.new.image c.mend_failed.new.image c.copy_others.new.image (g.E.Eye.sight c.args.mend_eye.now).bytes (g.E.Eye.sight c.args.copy_eye.now).bytes
    (search rules) c.print_head.ensures (c.in_ok-reads.ensures.front ∙ ap (take 32) head) c.in_ok-reads.ensures.mended
    (subst (λ (xs : List ℕ). KeepsFailed (parts_of c.args.patching.now.damage) xs c.copy_others.new.image) made c.in-Ok.ensures.kept) c.in-Ok.ensures.copied in
    told-weaker (g.E.Eye.sight c.args.mend_eye.now).bytes _ _
    (λ bytes h copy. rejoined _ c.copy_others.new.image _ (c.copy_others.auto.image ∙ c.deref_mut-4.ensures.len) ∙ h copy) told
