-- The single equations that are used for the rotations of an image, and what lawful replies are: without `live` symbols
-- of the mended image, and where the survivors come from data those of the codewords.
use Rattle.std.proofs.Common.{arith, ◌≡◌, inl, inr, ◌%◌, ◌<◌, ◌^◌, ℕ, Bool, true, false, cond, List, [], ◌∷◌, ◌++◌, All, map, length, get_or, refl, sym, ◌∙◌, ap, ap₂, subst}
use Rattle.std.specs.Int.{bit_at}
use Rattle.std.proofs.lemmas.Nat.{mod_below}
use Rattle.std.proofs.lemmas.List.Elements.{All-cons, All-head, All-tail}
use Rattle.std.proofs.lemmas.List.FromFn.{get_or-map-range_with_len, length-map-range_with_len}
use Rattle.mr_bits.specs.Matrices.{IsMatrixCode}
use Rattle.mr_choices.specs.Chosen.{singles_chosen}
use Rattle.mr_choices.proofs.AtLaws.{survivors-same}
use Rattle.mr_choices.proofs.ChosenLaws.{rotation-code}
use Rattle.mr_eq.specs.Singles.{SinglesOf}
use Rattle.mr_image.specs.Images.{Image, Layout, IsLayout, code_image, every_stripe, mended, near, singles_of, stripe_of, stripe_symbols, xor_symbols}
use Rattle.mr_image.specs.Rotated.{FitsCode, codes_by, rotations}
use Rattle.mr_image.proofs.RotatedLaws.{codes-at, rotations-some}
use Rattle.mr_mend.specs.Mending.{has_recipe}
use Rattle.mr_mend.specs.Replies.{Reply, reply_line, reply_lines}
use Rattle.mr_mend.specs.Rotations.{AreValidPlans, SurvivorsFrom}
use Rattle.mr_mend.specs.Scripts.{IsInRange}
use Rattle.mr_mend.proofs.CopySets.{copied-other}
use Rattle.mr_mend.proofs.Planned.{gives-rotated}
use Rattle.mr_mend.proofs.Turns.{has_recipe-stands}
use Rattle.mr_model.specs.Choice.{single}
use Rattle.mr_model.specs.Code.{Code}
use Rattle.mr_model.specs.Rotations.{rotated}
use Rattle.mr_model.specs.Plans.{Recipe}
use Rattle.mr_model.proofs.RotationLaws.{count-rotated}
use Rattle.mr_plan.specs.PlanLists.{recipes_at}
use Rattle.mr_plan.specs.Plans.{PlanParts, survivors}
use Rattle.mr_ready.specs.Lawful.{AreReplies, AreSinglesFor, IsLawful, no_singles, single_sets, singles_at}
use Rattle.mr_ready.specs.Orders.{OrderParts}
use Rattle.mr_ready.specs.Reports.{lines_of}
use Rattle.mr_top.specs.Rebuild.{singles_used}
use Rattle.mr_mend.proofs.Planned.{survivors_cover}
use Rattle.mr_top.proofs.RebuildSteps.{rows-are}
use Rattle.mr_top.proofs.Rotations.{plans-copied, plans-mendable}

-- ---- the single equations

module _ (l : Layout) (m : Code) (lost budget : ℕ) where
  abbrev all : List SinglesOf
  all = singles_chosen m lost budget (rotations l)

  count : length all ≡ rotations l
  count = length-map-range_with_len (λ r. record { code = rotated m r; lost = lost; budget = budget }) 0 (rotations l)

  -- those of a stripe are those of its rotation
  at-rotation : (s : ℕ) → singles_at all s ≡ record { code = rotated m (s % rotations l); lost = lost; budget = budget }
  at-rotation s =
      ap (λ n. get_or all (s % n) no_singles) count
      ∙ get_or-map-range_with_len (λ r. record { code = rotated m r; lost = lost; budget = budget }) 0 (rotations l) (s % rotations l) (s % rotations l) no_singles
      (mod_below s (rotations l) (rotations-some l)) (omega arith)

  -- and so they are for the code of the stripe
  pub singles-of_stripe : IsMatrixCode m → FitsCode l m → (s t : ℕ) → s < l.stripes
      → single_sets all s t ≡ singles_of (codes_by l m) (every_stripe (survivors m lost)) budget s t
  singles-of_stripe is fits s t here =
      let r : ℕ = s % rotations l in
      let code : rotated m r ≡ codes_by l m s =
      sym (rotation-code l m r is fits (mod_below s (rotations l) (rotations-some l)))
      ∙ sym (codes-at l m s (omega (arith, fits.devices, is.shape.some_devices)) fits.devices here) in
      ap (λ (x : SinglesOf). single x.code (survivors x.code x.lost) t x.budget) (at-rotation s)
      ∙ ap (λ a. single (rotated m r) a t budget) (survivors-same m lost r)
      ∙ ap (λ (k : Code). single k (survivors m lost) t budget) code

module _ (l : Layout) (m : Code) (lost : ℕ) (plans : List PlanParts) (is : IsMatrixCode m) (fits : FitsCode l m)
    (below : lost < 2 ^ length m.rows) (are : AreValidPlans l m lost plans) where
  symbol-low : (s i : ℕ) → has_recipe (recipes_at plans s) i ≡ true → i < stripe_symbols l
  unfolding recipes_at
  symbol-low s i holds =
      let at = has_recipe-stands (recipes_at plans s) i holds in
      let d : Recipe = record { symbol = 0; equation = 0 } in
      subst (λ k. k < stripe_symbols l) (at.is d) (((plans-mendable l m lost plans is fits are below).each s).symbols at.index d at.low)

  -- a symbol with a recipe is lost
  pub recipe-lost : (s i : ℕ) → has_recipe (recipes_at plans s) i ≡ true → bit_at lost i ≡ 1
  recipe-lost s i holds =
      let low : i < stripe_symbols l = symbol-low s i holds in
      let none : bit_at (survivors m lost) i ≡ 0 =
      ap (λ x. bit_at x i) (sym (plans-copied l m lost plans is fits are s)) ∙ copied-other l (recipes_at plans s) i low holds in
      elim ((survivors_cover l m lost is fits).each i low) [
        | inl survives ↦ absurd (omega (arith, none, survives))
        | inr gone ↦ gone
      ]

  pub singles-for : (budget : ℕ) → AreSinglesFor l plans (singles_chosen m lost budget (rotations l))
  singles-for budget = record {
    some = omega (arith, count l m lost budget, rotations-some l);
    shape = λ s. ap (λ (x : SinglesOf). length x.code.rows) (at-rotation l m lost budget s) ∙ count-rotated m (s % rotations l) ∙ rows-are m l is fits;
    lost = λ s i holds. ap (λ (x : SinglesOf). bit_at x.lost i) (at-rotation l m lost budget s) ∙ recipe-lost s i holds;
  }

  -- those that are used, where the reads are served meanwhile
  pub singles-used_for : (budget : ℕ) (singles : List SinglesOf) (live : Bool) → singles ≡ singles_used m lost budget (rotations l) live → live ≡ true
      → AreSinglesFor l plans singles
  singles-used_for budget singles live used on =
      subst (AreSinglesFor l plans) (sym (used ∙ ap (λ b. cond b (singles_chosen m lost budget (rotations l)) []) on)) (singles-for budget)

-- ---- the replies

near-same : (l : Layout) (f g : ℕ → ℕ → ℕ) (image : Image) (s t : ℕ) → f s t ≡ g s t → near l f image s t ≡ near l g image s t
unfolding near
near-same l f g image s t e = ap (xor_symbols l.symbol_bytes (stripe_of l image s)) e

-- replies that are symbols of an image have the lines of that image
lines-same : (image : Image) (replies : List Reply) → All (λ reply. reply.bytes ≡ image reply.ask.stripe reply.ask.symbol) replies
    → lines_of replies ≡ reply_lines image (map (λ reply. reply.ask) replies)
lines-same image [] each = refl
lines-same image (reply ∷ replies) each =
    ap₂ (λ a b. a ++ b) (ap (reply_line reply.ask) (All-head (λ (r : Reply). r.bytes ≡ image r.ask.stripe r.ask.symbol) reply replies each))
    (lines-same image replies (All-tail (λ (r : Reply). r.bytes ≡ image r.ask.stripe r.ask.symbol) reply replies each))

-- the reads of replies are in range
reads-inside : (l : Layout) (replies : List Reply) → All (IsInRange l) (map (λ reply. reply.ask) replies) → All (λ reply. IsInRange l reply.ask) replies
reads-inside l [] inside = λ k d low. absurd (omega arith)
reads-inside l (reply ∷ replies) inside =
    All-cons (λ (r : Reply). IsInRange l r.ask) reply replies (All-head (IsInRange l) reply.ask (map (λ r. r.ask) replies) inside)
    (reads-inside l replies (All-tail (IsInRange l) reply.ask (map (λ r. r.ask) replies) inside))

module _ (order : OrderParts) (image : Image) (replies : List Reply) (are : AreReplies order image replies) where
  -- without `live` each is the symbol of the mended image
  pub lines-mended : order.live ≡ false → lines_of replies ≡ reply_lines (mended order.head (recipes_at order.plans) image) order.asks
  lines-mended off =
      lines-same (mended order.head (recipes_at order.plans) image) replies (λ k d low. own (get_or replies k d) (are.lawful k d low))
      ∙ ap (reply_lines (mended order.head (recipes_at order.plans) image)) are.asks
    where
      own : (reply : Reply) → IsLawful order image reply.ask reply.bytes
          → reply.bytes ≡ mended order.head (recipes_at order.plans) image reply.ask.stripe reply.ask.symbol
      own reply (inl same) = same
      own reply (inr (live, gone, same)) = let clash : true ≡ false = sym live ∙ off in cc

  -- where the survivors come from data, each is a symbol of the codewords
  pub lines-own : (m : Code) (lost budget : ℕ) (columns : ℕ → List (List ℕ)) → IsLayout order.head → IsMatrixCode m → FitsCode order.head m
      → lost < 2 ^ length m.rows → AreValidPlans order.head m lost order.plans → All (IsInRange order.head) order.asks
      → (order.live ≡ true → order.singles ≡ singles_chosen m lost budget (rotations order.head))
      → SurvivorsFrom order.head m lost image columns
      → lines_of replies ≡ reply_lines (code_image order.head (codes_by order.head m) columns) order.asks
  lines-own m lost budget columns limits is fits below valid inside singles from =
      lines-same (code_image order.head (codes_by order.head m) columns) replies
      (λ k d low. own (get_or replies k d) (reads-inside order.head replies (subst (All (IsInRange order.head)) (sym are.asks) inside) k d low) (are.lawful k d low))
      ∙ ap (reply_lines (code_image order.head (codes_by order.head m) columns)) are.asks
    where
      own : (reply : Reply) → IsInRange order.head reply.ask → IsLawful order image reply.ask reply.bytes
          → reply.bytes ≡ code_image order.head (codes_by order.head m) columns reply.ask.stripe reply.ask.symbol
      own reply here (inl same) =
          same ∙ (gives-rotated order.head limits).symbols m lost order.plans image columns is fits valid from reply.ask.stripe reply.ask.symbol here.stripe here.symbol
      own reply here (inr (live, gone, same)) =
          same
          ∙ ap (λ list. near order.head (single_sets list) image reply.ask.stripe reply.ask.symbol) (singles live)
          ∙ near-same order.head (single_sets (singles_chosen m lost budget (rotations order.head))) (singles_of (codes_by order.head m) (every_stripe (survivors m lost)) budget) image
          reply.ask.stripe reply.ask.symbol (singles-of_stripe order.head m lost budget is fits reply.ask.stripe reply.ask.symbol here.stripe)
          ∙ (gives-rotated order.head limits).replies m lost order.plans image columns is fits valid from budget reply.ask.stripe reply.ask.symbol here.stripe here.symbol
          (recipe-lost order.head m lost order.plans is fits below valid reply.ask.stripe reply.ask.symbol gone)
