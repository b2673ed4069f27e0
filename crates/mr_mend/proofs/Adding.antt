-- A symbol is added to the slots of the recipes that have it, one slot after the other.
use Rattle.std.proofs.Common.{◌≡◌, ℕ, ◌+◌, ◌*◌, ◌<◌, Bool, true, false, cond, List, take, drop, length, get_or, bit_xor, sym, ap, ◌∙◌}
use Rattle.std.proofs.lemmas.Simd.{length-zip2}
use Rattle.mr_model.specs.Sets.{has}
use Rattle.mr_model.specs.Plans.{Recipe}
use Rattle.mr_kern.specs.Xor.{xor_bytes}
use Rattle.mr_mend.specs.Mending.{with_symbol}
use Rattle.mr_mend.proofs.Slots.{filled, filled-slot, filled-put, filled-keep}
use borrow.Rule.Slice.PartMut.{put_mid}

module _ (t : ℕ) (symbol : List ℕ) (recipes : List Recipe) (held : Recipe → List ℕ) (sizes : (r : Recipe) → length (held r) ≡ length symbol) where
  added : Recipe → List ℕ
  added r = with_symbol t symbol r (held r)

  sizes-added : (r : Recipe) → length (added r) ≡ length symbol
  unfolding added
  sizes-added r = go (has r.equation t)
    where
      go : (b : Bool) → length (cond b (xor_bytes (held r) symbol) (held r)) ≡ length symbol
      go true = length-zip2 bit_xor (held r) symbol (sizes r) ∙ sizes r
      go false = sizes r

  -- the slot of a recipe that has the symbol
  pub slot-added : (k size : ℕ) (r : Recipe) (set : ℕ) (test : Bool) (now y : List ℕ) → k < length recipes → r ≡ get_or recipes k r → set ≡ r.equation → test ≡ has set t → test ≡ true
      → size ≡ length symbol → now ≡ filled (λ (q : Recipe). with_symbol t symbol q (held q)) held k recipes → y ≡ xor_bytes (take size (drop (k * length symbol) now)) symbol
      → put_mid (k * length symbol) size now y ≡ filled (λ (q : Recipe). with_symbol t symbol q (held q)) held (k + 1) recipes
  unfolding added
  slot-added k size r set test now y h here of tested holds s e written =
      let member : has r.equation t ≡ true = ap (λ x. has x t) (sym of) ∙ sym tested ∙ holds in
      let had : take size (drop (k * length symbol) now) ≡ held (get_or recipes k r) =
      (λ j. take (s j) (drop (k * length symbol) (e j))) ∙ filled-slot added held (length symbol) recipes sizes-added sizes k r h in
      let whole : y ≡ added r = written ∙ ap (λ bytes. xor_bytes bytes symbol) (had ∙ ap held (sym here)) ∙ sym (λ j. cond (member j) (xor_bytes (held r) symbol) (held r)) in
      filled-put added held (length symbol) recipes sizes-added sizes k size r now y h s e (whole ∙ ap added here)

  -- the slot of one that has it not
  pub slot-kept : (k : ℕ) (r : Recipe) (set : ℕ) (test : Bool) (now : List ℕ) → k < length recipes → r ≡ get_or recipes k r → set ≡ r.equation → test ≡ has set t → test ≡ false
      → now ≡ filled (λ (q : Recipe). with_symbol t symbol q (held q)) held k recipes
      → now ≡ filled (λ (q : Recipe). with_symbol t symbol q (held q)) held (k + 1) recipes
  unfolding added
  slot-kept k r set test now h here of tested lacks e =
      let out : has r.equation t ≡ false = ap (λ x. has x t) (sym of) ∙ sym tested ∙ lacks in
      let same : held r ≡ added r = sym (λ j. cond (out j) (xor_bytes (held r) symbol) (held r)) in
      e ∙ filled-keep added held (length symbol) recipes sizes-added sizes k r h (ap held (sym here) ∙ same ∙ ap added here)
