-- Symbols that are cleared one after another in the bytes of a file, and what survives.
use Rattle.std.proofs.Common.{arith, ◌≡◌, ◌∙◌, ◌+◌, ◌-◌, ◌*◌, ◌<◌, ◌≤◌, ◌^◌, ◌⊎◌, ⊎_elim, inl, inr, ℕ, List, length, replicate, take, sym, ap, refl, subst}
use Rattle.std.specs.Int.{bit_at}
use Rattle.std.proofs.lemmas.Bool.{cases_eq}
use Rattle.std.proofs.lemmas.List.{length-replicate}
use Rattle.mr_image.specs.Heads.{file_bytes}
use Rattle.mr_image.specs.Images.{Layout, image_of, place, stripe_symbols}
use Rattle.mr_mend.proofs.Places.{IsPut, is_put}
use Rattle.mr_drill_run.specs.Damage.{Clears, ClearsSymbol}
use borrow.Rule.Slice.PartMut.{put_mid}

-- one symbol
pub clears-put : (l : Layout) (s i at size n : ℕ) (y before : List ℕ) → s < l.stripes → i < stripe_symbols l → length before ≡ file_bytes l
    → at ≡ place l s i → size ≡ l.symbol_bytes → y ≡ replicate n 0 → length y ≡ size → ClearsSymbol l s i before (put_mid at size before y)
clears-put l s i at size n y before here low long at_is size_is zeros y_long =
    let put : IsPut l s i y before (put_mid at size before y) = is_put l s i at size y before here low long at_is size_is y_long in
    let count : n ≡ l.symbol_bytes = sym (length-replicate n 0) ∙ sym (ap length zeros) ∙ y_long ∙ size_is in
    record {
      cleared = put.there ∙ zeros ∙ ap (λ k. replicate k 0) count;
      others = put.others;
      front = put.front;
    }

-- ---- the symbols of one stripe

pub clears-none : (l : Layout) (lost s t n : ℕ) (bytes : List ℕ) → t ≤ s → Clears l lost s t n bytes bytes
clears-none l lost s t n bytes empty = record {
  cleared = λ u i low high. absurd (omega (arith, low, high, empty));
  others = λ u i low out. refl;
  front = refl;
}

pub clears-first : (l : Layout) (lost s t : ℕ) (bytes : List ℕ) → Clears l lost s t 0 bytes bytes
clears-first l lost s t bytes = record {
  cleared = λ u i low high few. absurd (omega (arith, few));
  others = λ u i low out. refl;
  front = refl;
}

module _ (l : Layout) (lost s n : ℕ) (start before now : List ℕ) (h : Clears l lost s (s + 1) n start before) where
  -- the next symbol is lost, and was cleared
  pub clears-lost : n < stripe_symbols l → bit_at lost n ≡ 1 → ClearsSymbol l s n before now → Clears l lost s (s + 1) (n + 1) start now
  clears-lost small gone c = record {
    cleared = λ t i low high few is. ⊎_elim
        (λ (e : i ≡ n).
        let same : t ≡ s = omega (arith, low, high) in
        (λ j. image_of l now (same j) (e j)) ∙ c.cleared)
        (λ (other : i ≡ n → ⊥). c.others t i (omega (arith, few, small)) (λ _ e. other e) ∙ h.cleared t i low high (omega (arith, few, other)) is)
        (cases_eq i n);
    others = λ t i low out.
        c.others t i low (λ same e. keep t i same e out)
        ∙ h.others t i low (weaker t i out);
    front = c.front ∙ h.front;
  }
    where
      keep : (t i : ℕ) → t ≡ s → i ≡ n → (t < s) ⊎ ((s + 1 ≤ t) ⊎ ((n + 1 ≤ i) ⊎ (bit_at lost i ≡ 0))) → ⊥
      keep t i same e (inl less) = omega (arith, less, same)
      keep t i same e (inr (inl more)) = omega (arith, more, same)
      keep t i same e (inr (inr (inl high))) = omega (arith, high, e)
      keep t i same e (inr (inr (inr out))) = let clash : bit_at lost n ≡ 0 = ap (bit_at lost) (sym e) ∙ out in omega (arith, clash, gone)

      weaker : (t i : ℕ) → (t < s) ⊎ ((s + 1 ≤ t) ⊎ ((n + 1 ≤ i) ⊎ (bit_at lost i ≡ 0))) → (t < s) ⊎ ((s + 1 ≤ t) ⊎ ((n ≤ i) ⊎ (bit_at lost i ≡ 0)))
      weaker t i (inl less) = inl less
      weaker t i (inr (inl more)) = inr (inl more)
      weaker t i (inr (inr (inl high))) = inr (inr (inl (omega (arith, high))))
      weaker t i (inr (inr (inr out))) = inr (inr (inr out))

  -- the next symbol is not lost
  pub clears-kept : bit_at lost n ≡ 0 → Clears l lost s (s + 1) (n + 1) start before
  clears-kept none = record {
    cleared = λ t i low high few is. ⊎_elim
        (λ (e : i ≡ n). let clash : bit_at lost n ≡ 1 = ap (bit_at lost) (sym e) ∙ is in absurd (omega (arith, clash, none)))
        (λ (other : i ≡ n → ⊥). h.cleared t i low high (omega (arith, few, other)) is)
        (cases_eq i n);
    others = λ t i low out. h.others t i low (weaker t i out);
    front = h.front;
  }
    where
      weaker : (t i : ℕ) → (t < s) ⊎ ((s + 1 ≤ t) ⊎ ((n + 1 ≤ i) ⊎ (bit_at lost i ≡ 0))) → (t < s) ⊎ ((s + 1 ≤ t) ⊎ ((n ≤ i) ⊎ (bit_at lost i ≡ 0)))
      weaker t i (inl less) = inl less
      weaker t i (inr (inl more)) = inr (inl more)
      weaker t i (inr (inr (inl high))) = inr (inr (inl (omega (arith, high))))
      weaker t i (inr (inr (inr out))) = inr (inr (inr out))

-- ---- all stripes

pub clears-next : (l : Layout) (lost s : ℕ) (start before now : List ℕ) → Clears l lost 0 s (stripe_symbols l) start before
    → Clears l lost s (s + 1) (stripe_symbols l) before now → Clears l lost 0 (s + 1) (stripe_symbols l) start now
clears-next l lost s start before now h c = record {
  cleared = λ t i low high few is. ⊎_elim
      (λ (e : t ≡ s). c.cleared t i (omega (arith, e)) (omega (arith, e)) few is)
      (λ (other : t ≡ s → ⊥). let less : t < s = omega (arith, high, other) in c.others t i few (inl less) ∙ h.cleared t i low less few is)
      (cases_eq t s);
  others = λ t i low out. c.others t i low (later t i out) ∙ h.others t i low (earlier t i out);
  front = c.front ∙ h.front;
}
  where
    later : (t i : ℕ) → (t < 0) ⊎ ((s + 1 ≤ t) ⊎ ((stripe_symbols l ≤ i) ⊎ (bit_at lost i ≡ 0))) → (t < s) ⊎ ((s + 1 ≤ t) ⊎ ((stripe_symbols l ≤ i) ⊎ (bit_at lost i ≡ 0)))
    later t i (inl none) = absurd (omega (arith, none))
    later t i (inr rest) = inr rest

    earlier : (t i : ℕ) → (t < 0) ⊎ ((s + 1 ≤ t) ⊎ ((stripe_symbols l ≤ i) ⊎ (bit_at lost i ≡ 0))) → (t < 0) ⊎ ((s ≤ t) ⊎ ((stripe_symbols l ≤ i) ⊎ (bit_at lost i ≡ 0)))
    earlier t i (inl none) = inl none
    earlier t i (inr (inl more)) = inr (inl (omega (arith, more)))
    earlier t i (inr (inr out)) = inr (inr out)
