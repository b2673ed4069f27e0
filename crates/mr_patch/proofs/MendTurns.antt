-- The stripes are mended one after the other, each by the plan of its pattern.
use Rattle.std.proofs.Common.{◌≡◌, ℕ, ◌+◌, ◌*◌, ◌<◌, ◌≤◌, ⊎_elim, Bool, true, false, List, [], take, length, Option, Some, None, refl, sym, ap, subst, ◌∙◌, arith, add-one, zero-mul}
use Rattle.std.specs.Prelude.{IfSome}
use Rattle.std.specs.Int.{bit_at}
use Rattle.std.proofs.Math.Nat.{add-mul}
use Rattle.std.proofs.lemmas.Bool.{cases_eq}
use Rattle.std.proofs.lemmas.Nat.Bits.{bit_at-zero}
use Rattle.std.proofs.lemmas.Option.{IfSome_then}
use Rattle.mr_model.specs.Members.{members}
use Rattle.mr_model.specs.Plans.{Recipe}
use Rattle.mr_model.specs.Search.{sum_below}
use Rattle.mr_model.proofs.Loops.{members-few}
use Rattle.mr_io.specs.Sights.{Sight, sight_with}
use Rattle.mr_io.proofs.Seeing.{sight_with-none, sight_with-more}
use Rattle.mr_image.specs.Images.{image_of, stripe_symbols, every_stripe, mended}
use Rattle.mr_mend.specs.Mending.{HoldsMended, has_recipe}
use Rattle.mr_mend.proofs.Turns.{own-mended}
use Rattle.mr_patch.specs.Damages.{DamageParts, failed_at, set_at, recipes_at, set_reads}
use Rattle.mr_patch.specs.Mending.{HoldsRebuilt, KeepsStripes}
use Rattle.mr_patch.proofs.StripePlans.{other-lacks}

-- the members of the set of one stripe more
reads-more : (d : DamageParts) (budget n : ℕ) → set_reads d budget (n + 1) ≡ set_reads d budget n + length (members (set_at d budget n))
unfolding sum_below
reads-more d budget n = ap (set_reads d budget) (add-one n)

reads-none : (d : DamageParts) (budget : ℕ) → set_reads d budget 0 ≡ 0
unfolding sum_below
reads-none d budget = refl

-- the symbols that fail in the first n stripes are mended, and so many symbols were read for them
pub record MendedBelow (d : DamageParts) (budget n reads : ℕ) (old now : Sight) (before after : ℕ) (start bytes : List ℕ) : Type 0 where
  pub done : IfSome old.bytes (λ told. (s i : ℕ) → s < n → i < stripe_symbols d.layout → has_recipe (recipes_at d budget s) i ≡ true
      → image_of d.layout bytes s i ≡ mended d.layout (recipes_at d budget) (image_of d.layout told) s i)
  pub front : take 32 bytes ≡ take 32 start
  pub taken : now ≡ sight_with old (set_reads d budget n * d.layout.symbol_bytes)
  pub quiet : after ≡ before
  pub reads_are : reads ≡ set_reads d budget n
  pub few : reads ≤ 128 * n

module _ (d : DamageParts) (budget : ℕ) (old : Sight) (before : ℕ) (start : List ℕ) where
  pub mended-start : (reads : ℕ) → reads ≡ 0 → MendedBelow d budget 0 reads old old before before start start
  mended-start reads none = record {
    done = go old.bytes;
    front = refl;
    taken = sight_with-none old ∙ ap (sight_with old) (sym (ap (λ n. n * d.layout.symbol_bytes) (reads-none d budget) ∙ zero-mul d.layout.symbol_bytes));
    quiet = refl;
    reads_are = none ∙ sym (reads-none d budget);
    few = omega (arith, none);
  }
    where
      go : (o : Option (List ℕ)) → IfSome o (λ told. (s i : ℕ) → s < 0 → i < stripe_symbols d.layout → has_recipe (recipes_at d budget s) i ≡ true
          → image_of d.layout start s i ≡ mended d.layout (recipes_at d budget) (image_of d.layout told) s i)
      go None = tt
      go (Some told) = λ s i none low holds. absurd (omega arith)

  -- a stripe in which nothing fails
  pub mended-skip : (n reads after : ℕ) (now : Sight) (bytes : List ℕ) → failed_at d n ≡ 0 → members (set_at d budget n) ≡ []
      → MendedBelow d budget n reads old now before after start bytes → MendedBelow d budget (n + 1) reads old now before after start bytes
  mended-skip n reads after now bytes none unread h =
      let more : set_reads d budget n ≡ set_reads d budget (n + 1) = omega (arith, reads-more d budget n, ap (λ (xs : List ℕ). length xs) unread) in
      record {
        done = IfSome_then old.bytes h.done (λ told done. λ s i below low holds. ⊎_elim
            (λ (e : s ≡ n). absurd (lacks (ap (λ t. has_recipe (recipes_at d budget t) i) (sym e) ∙ holds) (other-lacks d budget n i (ap (λ x. bit_at x i) none ∙ bit_at-zero i))))
            (λ (other : s ≡ n → ⊥). done s i (omega (arith, below, other)) low holds)
            (cases_eq s n));
        front = h.front;
        taken = h.taken ∙ ap (λ k. sight_with old (k * d.layout.symbol_bytes)) more;
        quiet = h.quiet;
        reads_are = h.reads_are ∙ more;
        few = omega (arith, h.few);
      }
    where
      lacks : {b : Bool} → b ≡ true → b ≡ false → ⊥
      lacks e f = cc

  -- a stripe that is mended
  pub mended-turn : (n reads reads_next set after after_next : ℕ) (recipes : List Recipe) (now now_next : Sight) (bytes bytes_next : List ℕ)
      → set ≡ set_at d budget n → recipes ≡ recipes_at d budget n
      → MendedBelow d budget n reads old now before after start bytes
      → IfSome now.bytes (λ told. HoldsRebuilt d.layout recipes n (image_of d.layout told) bytes_next)
      → KeepsStripes d.layout n bytes bytes_next
      → now_next ≡ sight_with now (length (members set) * d.layout.symbol_bytes) → after_next ≡ after → reads_next ≡ reads + length (members set)
      → MendedBelow d budget (n + 1) reads_next old now_next before after_next start bytes_next
  mended-turn n reads reads_next set after after_next recipes now now_next bytes bytes_next own_set own_recipes h made keeps took quiet counted =
      let size : ℕ = d.layout.symbol_bytes in
      let far : ℕ = set_reads d budget n in
      let more : far + length (members set) ≡ set_reads d budget (n + 1) = ap (λ x. far + length (members x)) own_set ∙ sym (reads-more d budget n) in
      record {
        done = go old.bytes h.done (subst (λ o. IfSome o (λ told. HoldsRebuilt d.layout recipes n (image_of d.layout told) bytes_next)) (ap (λ (x : Sight). x.bytes) h.taken) made);
        front = keeps.front ∙ h.front;
        taken = took ∙ ap (λ x. sight_with x (length (members set) * size)) h.taken ∙ sight_with-more old (far * size) (length (members set) * size)
            ∙ ap (sight_with old) (sym (add-mul far (length (members set)) size) ∙ ap (λ k. k * size) more);
        quiet = quiet ∙ h.quiet;
        reads_are = counted ∙ ap (λ k. k + length (members set)) h.reads_are ∙ more;
        few = omega (arith, h.few, counted, members-few set);
      }
    where
      here : (told : List ℕ) → HoldsRebuilt d.layout recipes n (image_of d.layout told) bytes_next → (i : ℕ) → has_recipe (recipes_at d budget n) i ≡ true
          → image_of d.layout bytes_next n i ≡ mended d.layout (recipes_at d budget) (image_of d.layout told) n i
      here told holds i has_one =
          holds.same i (ap (λ (rs : List Recipe). has_recipe rs i) own_recipes ∙ has_one)
          ∙ ap (λ (rs : List Recipe). mended d.layout (every_stripe rs) (image_of d.layout told) n i) own_recipes
          ∙ own-mended d.layout (recipes_at d budget) (image_of d.layout told) n i

      go : (o : Option (List ℕ))
          → IfSome o (λ told. (s i : ℕ) → s < n → i < stripe_symbols d.layout → has_recipe (recipes_at d budget s) i ≡ true
          → image_of d.layout bytes s i ≡ mended d.layout (recipes_at d budget) (image_of d.layout told) s i)
          → IfSome o (λ told. HoldsRebuilt d.layout recipes n (image_of d.layout told) bytes_next)
          → IfSome o (λ told. (s i : ℕ) → s < n + 1 → i < stripe_symbols d.layout → has_recipe (recipes_at d budget s) i ≡ true
          → image_of d.layout bytes_next s i ≡ mended d.layout (recipes_at d budget) (image_of d.layout told) s i)
      go None done holds = tt
      go (Some told) done holds = λ s i below low has_one. ⊎_elim
          (λ (e : s ≡ n). ap (λ t. image_of d.layout bytes_next t i) e ∙ here told holds i (ap (λ t. has_recipe (recipes_at d budget t) i) (sym e) ∙ has_one)
          ∙ ap (λ t. mended d.layout (recipes_at d budget) (image_of d.layout told) t i) (sym e))
          (λ (other : s ≡ n → ⊥). keeps.others s i other low ∙ done s i (omega (arith, below, other)) low has_one)
          (cases_eq s n)

  pub mended-all : (n reads after : ℕ) (now : Sight) (bytes : List ℕ) → d.layout.stripes ≤ n → MendedBelow d budget n reads old now before after start bytes
      → IfSome old.bytes (λ told. HoldsMended d.layout (recipes_at d budget) (image_of d.layout told) bytes)
  mended-all n reads after now bytes all h = IfSome_then old.bytes h.done (λ told done. record { same = λ s i here low has_one. done s i (omega (arith, here, all)) low has_one })
