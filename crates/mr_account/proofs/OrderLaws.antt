-- How the asks of one caller stand in a history, and what stands in that of a stripe that no ask names.
use Rattle.std.proofs.Common.{◌≡◌, ℕ, zero, suc, ◌+◌, ◌<◌, ◌≤◌, Bool, cond, List, [], ◌∷◌, length, Some, slice_get, count_by, eq-eqb, sym, refl, ap, ◌∙◌, subst, arith}
use Rattle.std.proofs.lemmas.List.Sums.{sum_by-cons}
use Rattle.mr_model.proofs.WorkLaws.{sum_below-term}
use Rattle.mr_history.specs.declared.entry.Entry.{Entry}
use Rattle.mr_history.specs.declared.entry.Entry.TheVariants.{Ask, Mend}
use Rattle.mr_history.specs.Histories.{Names, ask_count, one_at, stripe_of, stripes}
use Rattle.mr_account.specs.Accounts.{Account, IsAmended, StandsInOrder, is_ask, is_mend}

-- ---- entries that are counted

abbrev weight : (Entry → Bool) → Entry → ℕ
weight p x = cond (p x) 1 0

counted : (p : Entry → Bool) (x : Entry) (es : List Entry) → count_by p (x ∷ es) ≡ weight p x + count_by p es
counted p x es = sum_by-cons (weight p) x es

same : (x y : Entry) → Some x ≡ Some y → x ≡ y
same x y e = cc

itself : (k : ℕ) (x : Entry) → Some x ≡ Some (Ask k) → weight (is_ask k) x ≡ 1
itself k x e = ap (weight (is_ask k)) (same x (Ask k) e) ∙ ap (λ (b : Bool). cond b 1 0) (eq-eqb k k refl)

pub here_one : (k i : ℕ) (es : List Entry) → slice_get es i ≡ Some (Ask k) → 1 ≤ count_by (is_ask k) es
here_one k i [] e = absurd (cc)
here_one k zero (x ∷ es) e = let a = itself k x e in omega (arith, a, counted (is_ask k) x es)
here_one k (suc i) (x ∷ es) e = omega (arith, here_one k i es e, counted (is_ask k) x es)

-- an ask that stands in a history once has one place there
one_place : (k i j : ℕ) (es : List Entry) → slice_get es i ≡ Some (Ask k) → slice_get es j ≡ Some (Ask k) → count_by (is_ask k) es ≤ 1 → i ≡ j
one_place k i j [] e f low = absurd (cc)
one_place k zero zero (x ∷ es) e f low = refl
one_place k zero (suc j) (x ∷ es) e f low = absurd (omega (arith, low, itself k x e, here_one k j es f, counted (is_ask k) x es))
one_place k (suc i) zero (x ∷ es) e f low = absurd (omega (arith, low, itself k x f, here_one k i es e, counted (is_ask k) x es))
one_place k (suc i) (suc j) (x ∷ es) e f low = ap suc (one_place k i j es e f (omega (arith, low, counted (is_ask k) x es)))

abbrev NoAsk : List Entry → Type 0
NoAsk es = (i k : ℕ) → slice_get es i ≡ Some (Ask k) → ⊥

nothing : (es : List Entry) → NoAsk es → count_by is_mend es ≡ 0 → es ≡ []
nothing [] free none = refl
nothing (Ask k ∷ es) free none = absurd (free 0 k refl)
nothing (Mend ∷ es) free none = absurd (omega (arith, none, counted is_mend Mend es))

one_mend : (es : List Entry) → NoAsk es → count_by is_mend es ≡ 1 → es ≡ Mend ∷ []
one_mend [] free one = absurd (omega (arith, one))
one_mend (Ask k ∷ es) free one = absurd (free 0 k refl)
one_mend (Mend ∷ es) free one = ap (λ (l : List Entry). Mend ∷ l) (nothing es (λ i k e. free (suc i) k e) (omega (arith, one, counted is_mend Mend es)))

-- ---- the laws

module _ (n : Names) (callers : ℕ) (a : Account) (r : IsAmended n callers a) where
  is_place : (t k i : ℕ) → t < stripes n → slice_get (a.history t) i ≡ Some (Ask k) → (k < length n.ops) × (stripe_of n k ≡ t) × (i ≡ a.place k)
  is_place t k i low e =
      let h = r.each t low in
      let o = h.others i k e in
      let c = h.asks k o.0 o.1 in
      let there : slice_get (a.history t) (a.place k) ≡ Some (Ask k) = subst (λ (s : ℕ). slice_get (a.history s) (a.place k) ≡ Some (Ask k)) o.1 (r.placed k o.0) in
      (o.0, o.1, one_place k i (a.place k) (a.history t) e there (omega (arith, c)))

  no_ask : (t : ℕ) → t < stripes n → ask_count n.ops t ≡ 0 → NoAsk (a.history t)
  no_ask t low none i k e =
      let o = (r.each t low).others i k e in
      let b = sum_below-term (length n.ops) (λ j. one_at t (stripe_of n j)) k o.0 in
      let c : one_at t (stripe_of n k) ≡ 1 = ap (one_at t) o.1 ∙ ap (λ (b : Bool). cond b 1 0) (eq-eqb t t refl) in
      omega (arith, none, b, c)

  pub stands : StandsInOrder n callers a
  stands = record {
    upwards = λ t i j k l low e f less alike.
        let p = is_place t k i low e in
        let q = is_place t l j low f in
        let u = r.upwards k l less q.0 alike (p.1 ∙ sym q.1) in
        omega (arith, p.2, q.2, u);
    alone = λ t low none. one_mend (a.history t) (no_ask t low none) (r.each t low).mends;
  }
