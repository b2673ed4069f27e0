-- What is made of an image of codewords that has lost symbols is the codewords' own.
use Rattle.std.proofs.Common.{arith, ◌≡◌, ◌∙◌, ◌+◌, ◌-◌, ◌*◌, ◌<◌, ◌≤◌, ◌^◌, ⊎_elim, inl, inr, ℕ, zero, suc, List, [], ◌∷◌, ◌++◌, All, Some, take, drop, flat_map, get_or, length, replicate, refl, sym, ap, ap₂, subst}
use Rattle.std.specs.Int.{bit_at}
use Rattle.std.specs.List.{range_with_len}
use Rattle.std.proofs.Math.Nat.{mul_assoc}
use Rattle.std.proofs.lemmas.Bool.{cases_lt}
use Rattle.std.proofs.lemmas.List.{drop-drop, length-append, length-drop, take_at, take-append-drop}
use Rattle.std.proofs.lemmas.List.FromFn.{length-map-range_with_len}
use Rattle.std.proofs.lemmas.Nat.Bits.{bit_at-lt, bit_at_above}
use Rattle.std.proofs.lemmas.Nat.{pow_pos}
use Rattle.mr_bits.specs.Matrices.{IsMatrixCode}
use Rattle.mr_choices.specs.Chosen.{singles_chosen}
use Rattle.mr_eq.specs.Singles.{SinglesOf}
use Rattle.mr_image.specs.Heads.{file_bytes, head_bytes, image_bytes}
use Rattle.mr_image.specs.Images.{Image, IsLayout, Layout, code_image, every_stripe, image_body, image_of, stripe_symbols}
use Rattle.mr_image.specs.Laws.{HasSizes}
use Rattle.mr_image.specs.Rotated.{FitsCode, codes_by, rotations}
use Rattle.mr_image.proofs.FileLaws.{image_of-image_bytes}
use Rattle.mr_image.proofs.RotatedLaws.{codes-first}
use Rattle.mr_mend.specs.Mending.{mended_file}
use Rattle.mr_mend.specs.Readers.{ask_at}
use Rattle.mr_mend.specs.Rotations.{AreValidPlans, SurvivorsFrom}
use Rattle.mr_mend.specs.Scripts.{IsInRange}
use Rattle.mr_mend.specs.Serving.{reply_bytes}
use Rattle.mr_mend.specs.declared.asks.Ask.{Ask}
use Rattle.mr_mend.proofs.Planned.{gives-rotated}
use Rattle.mr_model.specs.Code.{Code, survivors}
use Rattle.mr_model.specs.Codewords.{codeword}
use Rattle.mr_model.proofs.SetLaws.{bit_at_minus}
use Rattle.mr_plan.specs.PlanLists.{recipes_at}
use Rattle.mr_plan.specs.Plans.{PlanParts}
use Rattle.mr_ready.specs.Replying.{AreLawful}
use Rattle.mr_steps.specs.declared.choice_line.ChoiceLine.{ChoiceLine}
use Rattle.mr_drill_run.specs.Damage.{Clears}
use Rattle.mr_drill_run.specs.Drills.{order_of}
use Rattle.mr_drill_run.proofs.DrawnLaws.{length-pieces}
use Rattle.mr_drill_run.proofs.SinglesFor.{reply-own}

-- ---- bytes that stand one after another

-- bytes that are cut into pieces of one size are these pieces, joined
joined-at : (size : ℕ) (f : Ask → List ℕ) (asks : List Ask) (bytes : List ℕ) → length bytes ≡ length asks * size
    → ((j : ℕ) → j < length asks → take size (drop (j * size) bytes) ≡ f (ask_at asks j)) → bytes ≡ flat_map f asks
joined-at size f [] [] long each = refl
joined-at size f [] (b ∷ bytes) long each = absurd (omega (arith, long))
joined-at size f (ask ∷ asks) bytes long each =
    sym (take-append-drop size bytes)
    ∙ ap₂ (λ xs ys. xs ++ ys)
    (ap (λ k. take size (drop k bytes)) {x = 0} {y = 0 * size} (omega arith) ∙ each 0 (omega arith))
    (joined-at size f asks (drop size bytes) (length-drop size bytes ∙ omega (arith, long))
    (λ j low. ap (take size) (drop-drop (j * size) size bytes ∙ ap (λ k. drop k bytes) {x = size + j * size} {y = suc j * size} (omega arith)) ∙ each (suc j) (omega (arith, low))))

-- bytes that are written back to where they stood
pub written-back : (n : ℕ) (written before : List ℕ) → length written ≡ n → length (take n (written ++ drop (length written) before)) ≡ length written
written-back n written before long = ap length (take_at written (drop (length written) before) n long)

-- what stands behind the head
behind-head : (l : Layout) (body : List ℕ) → drop 32 (head_bytes l ++ body) ≡ body
unfolding head_bytes
behind-head l body = refl

-- ---- the codewords

length-codeword : (m : Code) (size : ℕ) (columns : List (List ℕ)) (i : ℕ) → length (codeword m size columns i) ≡ size
unfolding codeword
length-codeword m size columns i = length-map-range_with_len _ 0 size

length-head : (l : Layout) → length (head_bytes l) ≡ 32
unfolding head_bytes
length-head l = refl

-- the file of their image is as long as it is to be
pub length-image : (l : Layout) (m : Code) (columns : ℕ → List (List ℕ)) → length (image_bytes l (code_image l (every_stripe m) columns)) ≡ file_bytes l
length-image l m columns =
    let stripe : ℕ → List ℕ = λ s. flat_map (code_image l (every_stripe m) columns s) (range_with_len 0 (stripe_symbols l)) in
    let body : length (image_body l (code_image l (every_stripe m) columns)) ≡ l.stripes * (stripe_symbols l * l.symbol_bytes) =
    length-pieces stripe (stripe_symbols l * l.symbol_bytes) 0 l.stripes
    (λ s. length-pieces (code_image l (every_stripe m) columns s) l.symbol_bytes 0 (stripe_symbols l) (λ i. length-codeword m l.symbol_bytes (columns s) i)) in
    length-append (head_bytes l) (image_body l (code_image l (every_stripe m) columns))
    ∙ omega (arith, length-head l, body, mul_assoc l.stripes (stripe_symbols l) l.symbol_bytes)

module _ (l : Layout) (m : Code) (lost : ℕ) (columns : ℕ → List (List ℕ)) (limits : IsLayout l) (is : IsMatrixCode m) (fits : FitsCode l m)
    (first : l.version ≡ 1) (below : lost < 2 ^ length m.rows) where
  abbrev own : Image
  own = code_image l (every_stripe m) columns

  -- each stripe has the code itself
  codes-same : code_image l (codes_by l m) columns ≡ own
  codes-same = λ j s i. codeword (codes-first l m s first j) l.symbol_bytes (columns s) i

  sizes : HasSizes l own
  sizes = record { size = λ s i here low. length-codeword m l.symbol_bytes (columns s) i }

  module _ (damaged : List ℕ) (clears : Clears l lost 0 l.stripes (stripe_symbols l) (image_bytes l own) damaged) where
    -- what is not lost is of the codewords
    pub survivors-own : SurvivorsFrom l m lost (image_of l damaged) columns
    survivors-own = record {
      same = λ s i here member.
          let rows : length m.rows ≡ stripe_symbols l = is.count ∙ sym (λ j. fits.devices j * fits.symbols j) in
          let kept : (bit_at lost i ≡ 0) = omega (arith, member, bit_at_minus (2 ^ length m.rows - 1) lost i, bit_at-lt (2 ^ length m.rows - 1) i, bit_at-lt lost i) in
          let in_all : bit_at (2 ^ length m.rows - 1) i ≡ 1 = omega (arith, member, bit_at_minus (2 ^ length m.rows - 1) lost i, bit_at-lt (2 ^ length m.rows - 1) i, bit_at-lt lost i) in
          let low : i < stripe_symbols l = ⊎_elim (λ (h : i < stripe_symbols l). h)
          (λ (h : stripe_symbols l ≤ i). absurd (omega (arith, in_all, bit_at_above (2 ^ length m.rows - 1) (length m.rows) i (omega (arith, pow_pos (length m.rows))) (omega (arith, rows, h)))))
          (cases_lt i (stripe_symbols l)) in
          clears.others s i low (inr (inr (inr kept)))
          ∙ image_of-image_bytes l own sizes s i here low
          ∙ ap (λ (image : Image). image s i) (sym codes-same);
    }

    module _ (plans : List PlanParts) (are : AreValidPlans l m lost plans) where
      -- the mended image is theirs
      pub mended-own : (made : List ℕ) → made ≡ mended_file l (recipes_at plans) damaged → drop 32 made ≡ image_body l own
      mended-own made is_made =
          ap (drop 32) (is_made ∙ (gives-rotated l limits).file m lost plans (image_of l damaged) columns is fits are survivors-own
          ∙ ap (image_bytes l) codes-same)
          ∙ behind-head l (image_body l own)

      -- and so are lawful replies
      pub replies-own : (lines : List ChoiceLine) (singles : List SinglesOf) (asks : List Ask) (budget : ℕ) (replies : List ℕ) → singles ≡ singles_chosen m lost budget (rotations l)
          → All (IsInRange l) asks → AreLawful (order_of l plans lines singles asks) (Some damaged) replies → length replies ≡ length asks * l.symbol_bytes
          → replies ≡ reply_bytes own asks
      replies-own lines singles asks budget replies singles_are inside lawful long =
          joined-at l.symbol_bytes (λ ask. own ask.stripe ask.symbol) asks replies long (λ j low.
          let ask : Ask = ask_at asks j in
          reply-own l m lost plans is fits below are (order_of l plans lines singles asks) (image_of l damaged) budget columns ask (take l.symbol_bytes (drop (j * l.symbol_bytes) replies))
          limits refl refl singles_are survivors-own (inside j (record { stripe = 0; symbol = 0 }) low) (lawful j low)
          ∙ ap (λ (image : Image). image ask.stripe ask.symbol) codes-same)
