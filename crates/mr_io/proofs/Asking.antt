-- Fronts of the eyes that files are asked for.
use Rattle.std.proofs.Common.{arith, ◌≡◌, ◌+◌, List, [], ◌++◌, length, take, Option, Some, sym, ◌∙◌, ap, append_assoc}
use Rattle.std.proofs.Math.Seq.{take-append-add}
use Rattle.std.proofs.lemmas.List.{take-append-le, append-nil, length-append}
use Rattle.mr_io.specs.Telling.{AsksFront, Told, told_asking}
use Rattle.mr_io.specs.declared.asked.Asked.{Asked}

-- Where nothing more was asked for.
pub told_same : (told : Told) → ◌≡◌ {A = Option Told} (Some told) (Some (told_asking [] told))
told_same told = ap Some (λ j. record told { asked = sym (append-nil told.asked) j })

-- Nothing was asked for.
pub asks_nothing : (told : Told) (eyes : List Asked) → AsksFront told (Some told) eyes
asks_nothing told eyes = record { count = 0; within = omega arith; asked = told_same told }

-- A front of some eyes is a front of those and more.
pub asks_more : (told : Told) (new : Option Told) (eyes more : List Asked) → AsksFront told new eyes
    → AsksFront told new (eyes ++ more)
asks_more told new eyes more h = record {
  count = h.count;
  within = omega (arith, h.within, length-append eyes more);
  asked = h.asked ∙ ap (λ front. Some (told_asking front told)) (sym (take-append-le h.count eyes more h.within));
}

-- A front after all of the eyes before it.
pub asks_after : (told : Told) (new : Option Told) (before eyes : List Asked) → AsksFront (told_asking before told) new eyes
    → AsksFront told new (before ++ eyes)
asks_after told new before eyes h = record {
  count = length before + h.count;
  within = omega (arith, h.within, length-append before eyes);
  asked = h.asked ∙ ap Some (λ j. record told {
    asked = (append_assoc told.asked before (take h.count eyes)
        ∙ ap (λ front. told.asked ++ front) (sym (take-append-add before eyes h.count))) j;
  });
}
