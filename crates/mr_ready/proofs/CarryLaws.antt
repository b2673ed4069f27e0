-- What is written of a rebuild, and the eyes as they are lent.
use Rattle.std.proofs.Common.{arith, ◌≡◌, ℕ, zero, suc, ◌<◌, Bool, List, [], ◌∷◌, map, length, get_or, refl, sym, ◌∙◌, ap, subst}
use Rattle.std.specs.Prelude.{All, Option, option_map, None, Some, IfOk, IfSome, Result, Ok}
use Rattle.std.proofs.lemmas.List.{length-map}
use Rattle.mr_image.specs.Images.{image_of}
use Rattle.mr_io.specs.Sights.{Sight, fresh_sight}
use Rattle.mr_io.specs.Taking.{Held, Takes}
use Rattle.mr_io.specs.Telling.{Told}
use Rattle.mr_io.specs.declared.duty.Duty.{Duty}
use Rattle.mr_mend.specs.Mending.{mended_file}
use Rattle.mr_mend.specs.Replies.{replies_in}
use Rattle.mr_plan.specs.PlanLists.{recipes_at}
use Rattle.mr_ready.specs.Duties.{duties_of}
use Rattle.mr_ready.specs.Lawful.{AreReplies, IsLawful}
use Rattle.mr_ready.specs.Lent.{AreLent, told_by}
use Rattle.mr_ready.specs.Orders.{OrderParts, parts_of_order}
use Rattle.mr_ready.specs.Replying.{AreLawful}
use Rattle.mr_ready.specs.Writing.{IsOutput, WritesAll, WritesFront}
use Rattle.mr_ready.specs.Written.{output_of}
use Rattle.mr_ready.specs.declared.buffers.Buffers.{Buffers}
use Rattle.mr_ready.specs.declared.orders.Order.{Order}
use Rattle.mr_steps.specs.Sinks.{Output, Reports, TakesFront}
use Rattle.mr_ready.proofs.ReplyLaws.{asks-in}
use Rattle.mr_ready.proofs.ReplyPlaces.{replies-at}

-- ---- what is written

-- the replies in a buffer are those to the asks
are-replies : (order : Order) (bytes replies : List ℕ) → AreLawful (parts_of_order order) (Some bytes) replies
    → AreReplies (parts_of_order order) (image_of order.head bytes) (replies_in order.head.symbol_bytes order.asks.items replies)
are-replies order bytes replies lawful = record {
  asks = asks-in order.head.symbol_bytes order.asks.items replies;
  lawful = replies-at order.head.symbol_bytes order.asks.items replies (λ ask reply. IsLawful (parts_of_order order) (image_of order.head bytes) ask reply) lawful;
}

-- the mended file and lawful replies are what is written
pub is-output : (order : Order) (told : Option (List ℕ)) (buffers : Buffers)
    → IfSome told (λ bytes. buffers.image.items ≡ mended_file order.head (recipes_at order.plans) bytes)
    → AreLawful (parts_of_order order) told buffers.replies.items
    → IfSome told (λ bytes. IsOutput (parts_of_order order) bytes (output_of order buffers))
is-output order None buffers image lawful = tt
is-output order (Some bytes) buffers image lawful = record {
  replies = replies_in order.head.symbol_bytes order.asks.items buffers.replies.items;
  are = are-replies order bytes buffers.replies.items lawful;
  image = image;
  report = refl;
}

-- what is written of what was made
pub output-of-read : {F : Type 0} (order : Order) (told : Option (List ℕ)) (r : Result Buffers F) (buffers : Buffers) → r ≡ Ok buffers
    → IfOk r (λ (x : Buffers). IfSome told (λ bytes. x.image.items ≡ mended_file order.head (recipes_at order.plans) bytes))
    → IfOk r (λ (x : Buffers). AreLawful (parts_of_order order) told x.replies.items)
    → IfSome told (λ bytes. IsOutput (parts_of_order order) bytes (output_of order buffers))
output-of-read order told r buffers e image replies = is-output order told buffers
    (subst (λ r. IfOk r (λ (x : Buffers). IfSome told (λ bytes. x.image.items ≡ mended_file order.head (recipes_at order.plans) bytes))) e image)
    (subst (λ r. IfOk r (λ (x : Buffers). AreLawful (parts_of_order order) told x.replies.items)) e replies)

-- what is written of a file that is told
pub writes-all : (order : OrderParts) (told : Option (List ℕ)) (output : Output) (a b c d : Option Held) → IfSome told (λ bytes. IsOutput order bytes output) → Takes a b output.out → Takes c d output.report
    → IfSome told (λ bytes. WritesAll order bytes a b c d)
writes-all order None output a b c d is out report = tt
writes-all order (Some bytes) output a b c d is out report = record { output = output; is = is; out = out; report = report }

pub writes-front : (order : OrderParts) (told : Option (List ℕ)) (output : Output) (a b c d : Option Held) (failed : Type 0) → IfSome told (λ bytes. IsOutput order bytes output) → TakesFront a b output.out
    → Reports 10 (Ok output) a b c d failed → IfSome told (λ bytes. WritesFront order bytes a b c d failed)
writes-front order None output a b c d failed is out report = tt
writes-front order (Some bytes) output a b c d failed is out report = record { output = output; is = is; out = out; report = report }

-- ---- eyes as they are lent

duties-long : (workers : ℕ) (live : Bool) → 0 < workers → 0 < length (duties_of workers live)
duties-long zero live some = absurd (omega (arith, some))
duties-long (suc n) live some = omega arith

-- what the first tells is what all tell
pub told-first : {E : Type 0} (sight : E → Sight) (told : Option (List ℕ)) (workers : ℕ) (live : Bool) (eyes : List E)
    → map sight eyes ≡ map (fresh_sight told) (duties_of workers live) → 0 < workers → told_by sight eyes ≡ told
told-first sight told workers live [] e some =
    let long : 0 ≡ length (duties_of workers live) = ap length e ∙ length-map (duties_of workers live) (fresh_sight told) in
    absurd (omega (arith, long, duties-long workers live some))
told-first sight told zero live (eye ∷ eyes) e some = absurd (omega (arith, some))
told-first sight told (suc n) live (eye ∷ eyes) e some = ap (λ (xs : List Sight). (get_or xs 0 (sight eye)).bytes) e

module _ {E : Type 0} (sight : E → Sight) (faults : E → ℕ) (files : Option Told) (name : List ℕ) (workers : ℕ) (live : Bool) (duties : List Duty) (eyes : List E)
    (sights : map sight eyes ≡ map (fresh_sight (option_map (λ told. told.contents name) files)) duties) (are : duties ≡ duties_of workers live) (some : 0 < workers) where
  own : map sight eyes ≡ map (fresh_sight (option_map (λ told. told.contents name) files)) (duties_of workers live)
  own = sights ∙ ap (map (fresh_sight (option_map (λ told. told.contents name) files))) are

  -- they tell what the files tell
  pub lent-image : told_by sight eyes ≡ option_map (λ told. told.contents name) files
  lent-image = told-first sight (option_map (λ told. told.contents name) files) workers live eyes own some

  pub lent-eyes : All (λ eye. faults eye ≡ 0) eyes → AreLent sight faults (told_by sight eyes) workers live eyes
  lent-eyes quiet = record {
    sights = own ∙ ap (λ o. map (fresh_sight o) (duties_of workers live)) (sym lent-image);
    no_faults = quiet;
  }

  -- an image that fits
  pub lent-fits : (size : ℕ) → IfSome files (λ told. length (told.contents name) ≡ size) → IfSome (told_by sight eyes) (λ bytes. length bytes ≡ size)
  lent-fits size fits = subst (λ o. IfSome o (λ (bytes : List ℕ). length bytes ≡ size)) (sym lent-image) (go files fits)
    where
      go : (o : Option Told) → IfSome o (λ told. length (told.contents name) ≡ size) → IfSome (option_map (λ told. told.contents name) o) (λ bytes. length bytes ≡ size)
      go None h = tt
      go (Some told) h = h
