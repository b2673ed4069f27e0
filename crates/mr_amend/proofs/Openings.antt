-- From the stripes as they are read to the stripes of the mended image.
use Rattle.std.proofs.Common.{◌≡◌, ℕ, List, [], slice_index_or, Option, Some, None, IfSome, sym, ap, ◌∙◌}
use Rattle.mr_image.specs.Images.{image_of}
use Rattle.mr_plan.specs.PlanLists.{recipes_at}
use Rattle.mr_kept.specs.Kept.{HoldsOpenings, mended_bytes}
use Rattle.mr_history.specs.Histories.{Names, OpensWith}
use Rattle.mr_history.proofs.HistoryLaws.{opening_is}

pub opens_told : (n : Names) (told : Option (List ℕ)) (stripes : List (List ℕ)) → n.image ≡ stripes
    → IfSome told (λ bytes. HoldsOpenings n.head (recipes_at n.plans) (image_of n.head bytes) stripes) → IfSome told (λ bytes. OpensWith (image_of n.head bytes) n)
opens_told n None stripes e h = tt
opens_told n (Some bytes) stripes e h = record {
  opens = λ t low. sym (opening_is n t) ∙ ap (λ (l : List (List ℕ)). mended_bytes n.head (recipes_at n.plans t) (slice_index_or l t [])) e ∙ h.opened t low;
}
