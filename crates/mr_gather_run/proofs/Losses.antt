-- The members of what is read have device files.
use Rattle.std.proofs.Common.{arith, inl, inr, ◌≡◌, ◌∙◌, ◌<◌, ◌/◌, ◌^◌, ◌-◌, ◌*◌, ◌≤◌, ◌&&◌, ℕ, Bool, true, false, cond, get_or, length, List, Option, None, Some, refl, sym, ap, subst}
use Rattle.std.specs.Prelude.{IsSome}
use Rattle.std.specs.Int.{bit_at}
use Rattle.std.specs.Option.{is_none}
use Rattle.std.proofs.Math.Nat.{div-lt_iff_lt-mul}
use Rattle.std.proofs.lemmas.Nat.Bits.{bit_at-lt, bit_at_ones}
use Rattle.mr_bits.specs.Matrices.{IsMatrixCode}
use Rattle.mr_image.specs.Images.{Layout, stripe_symbols}
use Rattle.mr_losses.specs.Losses.{symbols_of_devices}
use Rattle.mr_model.specs.Code.{Code}
use Rattle.mr_model.specs.Sets.{filter_members, has, within}
use Rattle.mr_model.proofs.Finding.{bit_at_set_below}
use Rattle.mr_model.proofs.SetLaws.{Within, Within-le, bit_at_cases, bit_at_minus, false-has, has-true, member-below, member-lt, true-has, true-within}
use Rattle.mr_plan.specs.Plans.{survivors}
use Rattle.mr_steps.proofs.LostSymbols.{survivors-below}
use Rattle.mr_gather_run.specs.Tasks.{CanGather, lost_devices}

-- each member survives
abbrev pub Survives : Code → ℕ → ℕ → Type 0
Survives m lost set = (i : ℕ) → has set i ≡ true → has (survivors m lost) i ≡ true

pub within-survives : (m : Code) (lost set : ℕ) → within set (survivors m lost) ≡ true → Survives m lost set
within-survives m lost set h i is =
    let le : bit_at set i ≤ bit_at (survivors m lost) i = true-within set (survivors m lost) h i in
    has-true (survivors m lost) i (omega (arith, le, true-has set i is, bit_at-lt (survivors m lost) i))

there : (o : Option (List ℕ)) → is_none o ≡ false → IsSome o
there None e = absurd cc
there (Some x) e = refl

passes : (b : Bool) → ◌≡◌ {A = ℕ} (cond b 1 0) 0 → b ≡ false
passes true e = absurd (omega (arith, e))
passes false e = refl

module _ (m : Code) (devices : List (Option (List ℕ))) (code : IsMatrixCode m) (count : length devices ≡ m.devices) where
  -- a survivor is a symbol, and its device is not lost
  survivor-low : (i : ℕ) → bit_at (survivors m (symbols_of_devices m (lost_devices devices))) i ≡ 1 → i < length m.rows
  survivor-low i is = member-below (length m.rows) (survivors m (symbols_of_devices m (lost_devices devices))) i (survivors-below m (symbols_of_devices m (lost_devices devices))) is

  not-lost : (i : ℕ) → bit_at (survivors m (symbols_of_devices m (lost_devices devices))) i ≡ 1
      → has (lost_devices devices) (i / m.symbols_per_device) ≡ false
  unfolding symbols_of_devices filter_members
  not-lost i is =
      let all = 2 ^ length m.rows - 1 in
      let member : bit_at all i ≡ 1 = bit_at_ones (length m.rows) i (survivor-low i is) in
      let low : i < all = member-lt all i member in
      let apart = bit_at_minus all (symbols_of_devices m (lost_devices devices)) i in
      let out : bit_at (symbols_of_devices m (lost_devices devices)) i ≡ 0 = omega (arith, apart, is, member) in
      let in_all : has all i ≡ true = has-true all i member in
      passes (has (lost_devices devices) (i / m.symbols_per_device))
      (ap (λ b. cond (b && has (lost_devices devices) (i / m.symbols_per_device)) 1 0) (sym in_all)
      ∙ sym (bit_at_set_below all (λ j. has all j && has (lost_devices devices) (j / m.symbols_per_device)) i low) ∙ out)

  device-low : (i : ℕ) → i < length m.rows → i / m.symbols_per_device < length devices
  device-low i low =
      let within : i < m.devices * m.symbols_per_device = omega (arith, low, code.count) in
      let fits = (div-lt_iff_lt-mul {k = m.symbols_per_device} {x = i} {y = m.devices} (omega (arith, code.shape.some_symbols))).1 within in
      omega (arith, fits, count)

  has-file : (d : ℕ) → d < length devices → has (lost_devices devices) d ≡ false → IsSome (get_or devices d None)
  unfolding lost_devices has
  has-file d low h =
      there (get_or devices d None)
      (passes (is_none (get_or devices d None)) (sym (bit_at_set_below (length devices) (λ d. is_none (get_or devices d None)) d low) ∙ out))
    where
      out : bit_at (lost_devices devices) d ≡ 0
      out = false-has (lost_devices devices) d h

  pub can-gather : (l : Layout) (set first : ℕ) → l.devices ≡ m.devices → l.symbols_per_device ≡ m.symbols_per_device
      → Survives m (symbols_of_devices m (lost_devices devices)) set → CanGather devices (record { layout = l; set = set; first = first })
  can-gather l set first same width survives = record {
    count = count ∙ sym same;
    small = small;
    held = λ i is. subst (λ w. IsSome (get_or devices (i / w) None)) (sym width)
        (has-file (i / m.symbols_per_device) (device-low i (survivor-low i (true-has _ i (survives i is)))) (not-lost i (true-has _ i (survives i is))));
  }
    where
      lean : Within set (survivors m (symbols_of_devices m (lost_devices devices)))
      lean i = elim (bit_at_cases set i) [
        | inl is ↦ let one = true-has (survivors m (symbols_of_devices m (lost_devices devices))) i (survives i (has-true set i is)) in omega (arith, is, one)
        | inr is ↦ omega (arith, is)
      ]

      small : set < 2 ^ stripe_symbols l
      small =
          let le = Within-le set (survivors m (symbols_of_devices m (lost_devices devices))) lean in
          let below = survivors-below m (symbols_of_devices m (lost_devices devices)) in
          let same : 2 ^ length m.rows ≡ 2 ^ (l.devices * l.symbols_per_device) = ap (λ n. 2 ^ n) (code.count ∙ ap (λ n. n * m.symbols_per_device) (sym same) ∙ ap (λ n. l.devices * n) (sym width)) in
          omega (arith, le, below, same)
