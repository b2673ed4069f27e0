-- The symbols that do not fail are copied, one stripe after the other.
use Rattle.std.proofs.Common.{◌≡◌, ℕ, ◌+◌, ◌-◌, ◌*◌, ◌^◌, ◌<◌, ◌≤◌, ⊎_elim, List, take, length, Option, Some, None, refl, sym, ap, subst, ◌∙◌, arith, add-one, zero-mul}
use Rattle.std.specs.Prelude.{IfSome}
use Rattle.std.specs.Int.{bit_at}
use Rattle.std.proofs.Math.Nat.{add-mul}
use Rattle.std.proofs.lemmas.Bool.{cases_eq}
use Rattle.std.proofs.lemmas.Nat.Bits.{bit_at_ones}
use Rattle.std.proofs.lemmas.Option.{IfSome_then}
use Rattle.mr_model.specs.Sets.{minus}
use Rattle.mr_model.specs.Members.{members}
use Rattle.mr_model.specs.Search.{sum_below}
use Rattle.mr_model.specs.Code.{survivors}
use Rattle.mr_model.proofs.SetLaws.{bit_at_minus}
use Rattle.mr_bits.specs.Matrices.{IsMatrixCode}
use Rattle.mr_eq.proofs.SingleLaws.{survivors-below}
use Rattle.mr_io.specs.Sights.{Sight, sight_with}
use Rattle.mr_io.proofs.Seeing.{sight_with-none, sight_with-more}
use Rattle.mr_image.specs.Images.{image_of, stripe_symbols}
use Rattle.mr_image.proofs.RotatedLaws.{codes-count}
use Rattle.mr_mend.specs.Mending.{HoldsSymbols, KeepsOthers}
use Rattle.mr_patch.specs.Damages.{DamageParts, IsDamage, failed_at, others_at, copy_reads}
use Rattle.mr_patch.specs.Copying.{HoldsOthers, KeepsFailed}
use Rattle.mr_patch.proofs.StripePlans.{rows-count}

-- the symbols of one stripe more
copies-more : (d : DamageParts) (n : ℕ) → copy_reads d (n + 1) ≡ copy_reads d n + length (members (others_at d n))
unfolding sum_below
copies-more d n = ap (copy_reads d) (add-one n)

copies-none : (d : DamageParts) → copy_reads d 0 ≡ 0
unfolding sum_below
copies-none d = refl

-- ---- the set that is copied in a stripe

module _ (d : DamageParts) (is : IsMatrixCode d.code) (damage : IsDamage d) (n set all failed : ℕ) (all_is : all ≡ 2 ^ length d.code.rows - 1)
    (failed_is : failed ≡ failed_at d n) (set_is : set ≡ minus all failed) where
  named : set ≡ survivors d.code (failed_at d n)
  named = set_is ∙ (λ j. minus (all_is j) (failed_is j))

  pub copied-is : set ≡ others_at d n
  copied-is = named ∙ ap (λ k. minus (2 ^ k - 1) (failed_at d n)) (sym (codes-count d.layout d.code n is.shape.some_devices))

  pub copied-low : set < 2 ^ stripe_symbols d.layout
  copied-low = subst (λ x. x < 2 ^ stripe_symbols d.layout) (sym named)
      (subst (λ k. survivors d.code (failed_at d n) < 2 ^ k) (rows-count d is damage) (survivors-below d.code (failed_at d n)))

  pub copied-member : (i : ℕ) → i < stripe_symbols d.layout → bit_at (failed_at d n) i ≡ 0 → bit_at set i ≡ 1
  copied-member i low out = ap (λ x. bit_at x i) named ∙ bit_at_minus (2 ^ length d.code.rows - 1) (failed_at d n) i
      ∙ omega (arith, out, bit_at_ones (length d.code.rows) i (omega (arith, rows-count d is damage, low)))

  pub copied-other : (i : ℕ) → i < stripe_symbols d.layout → bit_at (failed_at d n) i ≡ 1 → bit_at set i ≡ 0
  copied-other i low member = ap (λ x. bit_at x i) named ∙ bit_at_minus (2 ^ length d.code.rows - 1) (failed_at d n) i
      ∙ omega (arith, member, bit_at_ones (length d.code.rows) i (omega (arith, rows-count d is damage, low)))

-- ---- the stripes

-- the symbols that do not fail in the first n stripes stand as the file has them, and those that fail as before
pub record CopiedBelow (d : DamageParts) (n : ℕ) (old now : Sight) (before after : ℕ) (start bytes : List ℕ) : Type 0 where
  pub done : IfSome old.bytes (λ told. (s i : ℕ) → s < n → i < stripe_symbols d.layout → bit_at (failed_at d s) i ≡ 0
      → image_of d.layout bytes s i ≡ image_of d.layout told s i)
  pub kept : (s i : ℕ) → i < stripe_symbols d.layout → bit_at (failed_at d s) i ≡ 1 → image_of d.layout bytes s i ≡ image_of d.layout start s i
  pub front : take 32 bytes ≡ take 32 start
  pub taken : now ≡ sight_with old (copy_reads d n * d.layout.symbol_bytes)
  pub quiet : after ≡ before

module _ (d : DamageParts) (old : Sight) (before : ℕ) (start : List ℕ) where
  pub copied-start : CopiedBelow d 0 old old before before start start
  copied-start = record {
    done = go old.bytes;
    kept = λ s i low member. refl;
    front = refl;
    taken = sight_with-none old ∙ ap (sight_with old) (sym (ap (λ n. n * d.layout.symbol_bytes) (copies-none d) ∙ zero-mul d.layout.symbol_bytes));
    quiet = refl;
  }
    where
      go : (o : Option (List ℕ)) → IfSome o (λ told. (s i : ℕ) → s < 0 → i < stripe_symbols d.layout → bit_at (failed_at d s) i ≡ 0
          → image_of d.layout start s i ≡ image_of d.layout told s i)
      go None = tt
      go (Some told) = λ s i none low out. absurd (omega arith)

  pub copied-turn : (n set after after_next : ℕ) (now now_next : Sight) (bytes bytes_next : List ℕ) → set ≡ others_at d n
      → ((i : ℕ) → i < stripe_symbols d.layout → bit_at (failed_at d n) i ≡ 0 → bit_at set i ≡ 1)
      → ((i : ℕ) → i < stripe_symbols d.layout → bit_at (failed_at d n) i ≡ 1 → bit_at set i ≡ 0)
      → CopiedBelow d n old now before after start bytes
      → IfSome now.bytes (λ told. HoldsSymbols d.layout set n (image_of d.layout told) bytes_next) → KeepsOthers d.layout set n bytes bytes_next
      → now_next ≡ sight_with now (length (members set) * d.layout.symbol_bytes) → after_next ≡ after
      → CopiedBelow d (n + 1) old now_next before after_next start bytes_next
  copied-turn n set after after_next now now_next bytes bytes_next set_is inside outside h holds keeps took quiet =
      let size : ℕ = d.layout.symbol_bytes in
      let far : ℕ = copy_reads d n in
      let more : far + length (members set) ≡ copy_reads d (n + 1) = ap (λ x. far + length (members x)) set_is ∙ sym (copies-more d n) in
      record {
        done = go old.bytes h.done (subst (λ o. IfSome o (λ told. HoldsSymbols d.layout set n (image_of d.layout told) bytes_next)) (ap (λ (x : Sight). x.bytes) h.taken) holds);
        kept = λ s i low member. keeps.same s i low (λ (e : s ≡ n). outside i low (ap (λ t. bit_at (failed_at d t) i) (sym e) ∙ member)) ∙ h.kept s i low member;
        front = keeps.front ∙ h.front;
        taken = took ∙ ap (λ x. sight_with x (length (members set) * size)) h.taken ∙ sight_with-more old (far * size) (length (members set) * size)
            ∙ ap (sight_with old) (sym (add-mul far (length (members set)) size) ∙ ap (λ k. k * size) more);
        quiet = quiet ∙ h.quiet;
      }
    where
      go : (o : Option (List ℕ))
          → IfSome o (λ told. (s i : ℕ) → s < n → i < stripe_symbols d.layout → bit_at (failed_at d s) i ≡ 0 → image_of d.layout bytes s i ≡ image_of d.layout told s i)
          → IfSome o (λ told. HoldsSymbols d.layout set n (image_of d.layout told) bytes_next)
          → IfSome o (λ told. (s i : ℕ) → s < n + 1 → i < stripe_symbols d.layout → bit_at (failed_at d s) i ≡ 0 → image_of d.layout bytes_next s i ≡ image_of d.layout told s i)
      go None done held = tt
      go (Some told) done held = λ s i below low out. ⊎_elim
          (λ (e : s ≡ n). ap (λ t. image_of d.layout bytes_next t i) e ∙ held.same i (inside i low (ap (λ t. bit_at (failed_at d t) i) (sym e) ∙ out)) ∙ ap (λ t. image_of d.layout told t i) (sym e))
          (λ (other : s ≡ n → ⊥). keeps.same s i low (λ e. absurd (other e)) ∙ done s i (omega (arith, below, other)) low out)
          (cases_eq s n)

  pub copied-all : (n after : ℕ) (now : Sight) (bytes : List ℕ) → d.layout.stripes ≤ n → CopiedBelow d n old now before after start bytes
      → IfSome old.bytes (λ told. HoldsOthers d (image_of d.layout told) bytes)
  copied-all n after now bytes all h = IfSome_then old.bytes h.done (λ told done. record { same = λ s i here low out. done s i (omega (arith, here, all)) low out })

  pub copied-kept : (n after : ℕ) (now : Sight) (bytes : List ℕ) → CopiedBelow d n old now before after start bytes → KeepsFailed d start bytes
  copied-kept n after now bytes h = record { same = λ s i here low member. h.kept s i low member; front = h.front }
