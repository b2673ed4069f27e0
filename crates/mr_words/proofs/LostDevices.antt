-- The lost devices, read a number at a time.
use Rattle.std.proofs.Common.{◌≡◌, ◌∙◌, ◌+◌, ◌<◌, ◌≤◌, ◌==◌, ◌||◌, ◌^◌, ℕ, Bool, true, false, cond, max, List, [], ◌∷◌, drop, length, filter_map, nat_le, Option, Some, None, Result, Ok, Err, refl, sym, ap, arith, inl, inr, bit_or}
use Rattle.std.specs.Int.{bit_at}
use Rattle.std.specs.List.{cons_option, list_any, slice_index_or}
use Rattle.std.proofs.lemmas.Bool.{cases_lt, eq-eqb, le-leb, leb-false, lt-leb, ne_eqb}
use Rattle.std.proofs.lemmas.List.{at_drop_all, at_drop_more}
use Rattle.std.proofs.lemmas.Nat.Bits.{bit_at-lt, bit_at_or, same_from_bits}
use Rattle.mr_model.proofs.Finding.{bit_at_set_above, bit_at_set_below}
use Rattle.mr_model.proofs.SetLaws.{bit_at_pow_cases}
use Rattle.mr_text.specs.Numbers.{number_of}
use Rattle.mr_words.specs.Grammar.{Text}
use Rattle.mr_words.specs.Lost.{beyond_or, device_set, devices_of, first_beyond, lost_numbers, parts}

-- the answer from here on, where the set is lost already
abbrev pub devices_from : ℕ → ℕ → List ℕ → Result ℕ ℕ
devices_from devices lost [] = Ok lost
devices_from devices lost (n ∷ ns) = cond (nat_le devices n) (Err n) (devices_from devices (bit_or lost (2 ^ n)) ns)

-- one more number is one more member
one_more : (devices n lost : ℕ) (ns : List ℕ) → n < devices
    → bit_or (bit_or lost (2 ^ n)) (device_set devices ns) ≡ bit_or lost (device_set devices (n ∷ ns))
one_more devices n lost ns low = same_from_bits _ _ (λ i. elim (cases_lt i devices) [
  | inl inside ↦ elim (bit_at_pow_cases n i) [
    | inl here ↦
        let one : bit_at (device_set devices (n ∷ ns)) i ≡ 1 = bit_at_set_below devices (among (n ∷ ns)) i inside
        ∙ ap (λ b. cond (b || among ns i) 1 0) (eq-eqb n i (sym here.0)) in
        omega (arith, here.1, one, sums i, bit_at-lt lost i, bit_at-lt (device_set devices ns) i)
    | inr other ↦
        let same : bit_at (device_set devices (n ∷ ns)) i ≡ bit_at (device_set devices ns) i = bit_at_set_below devices (among (n ∷ ns)) i inside
        ∙ ap (λ b. cond (b || among ns i) 1 0) (ne_eqb n i (λ e. other.0 (sym e))) ∙ sym (bit_at_set_below devices (among ns) i inside) in
        omega (arith, other.1, same, sums i)
  ]
  | inr outside ↦ elim (bit_at_pow_cases n i) [
    | inl here ↦ absurd (omega (arith, here.0, low, outside))
    | inr other ↦ omega (arith, other.1, bit_at_set_above devices (among (n ∷ ns)) i outside, bit_at_set_above devices (among ns) i outside, sums i)
  ]
])
  where
    among : List ℕ → ℕ → Bool
    among xs i = list_any (λ x. x == i) xs

    sums : (i : ℕ) → (bit_at (bit_or (bit_or lost (2 ^ n)) (device_set devices ns)) i
        ≡ max (max (bit_at lost i) (bit_at (2 ^ n) i)) (bit_at (device_set devices ns) i))
        × (bit_at (bit_or lost (device_set devices (n ∷ ns))) i ≡ max (bit_at lost i) (bit_at (device_set devices (n ∷ ns)) i))
    sums i = (
      bit_at_or (bit_or lost (2 ^ n)) (device_set devices ns) i ∙ ap (λ b. max b (bit_at (device_set devices ns) i)) (bit_at_or lost (2 ^ n) i),
      bit_at_or lost (device_set devices (n ∷ ns)) i,
    )

none_more : (devices lost : ℕ) → lost ≡ bit_or lost (device_set devices [])
none_more devices lost = same_from_bits _ _ (λ i. omega (arith, bit_at_or lost (device_set devices []) i, no_bit i))
  where
    no_bit : (i : ℕ) → bit_at (device_set devices []) i ≡ 0
    no_bit i = elim (cases_lt i devices) [
      | inl inside ↦ bit_at_set_below devices (λ x. false) i inside
      | inr outside ↦ bit_at_set_above devices (λ x. false) i outside
    ]

from_is : (devices lost : ℕ) (ns : List ℕ) → devices_from devices lost ns ≡ beyond_or (first_beyond devices ns) (bit_or lost (device_set devices ns))
from_is devices lost [] = ap Ok (none_more devices lost)
from_is devices lost (n ∷ ns) = go (nat_le devices n) refl (from_is devices (bit_or lost (2 ^ n)) ns)
  where
    go : (b : Bool) → nat_le devices n ≡ b
        → devices_from devices (bit_or lost (2 ^ n)) ns ≡ beyond_or (first_beyond devices ns) (bit_or (bit_or lost (2 ^ n)) (device_set devices ns))
        → cond b (Err n) (devices_from devices (bit_or lost (2 ^ n)) ns) ≡ beyond_or (cond b (Some n) (first_beyond devices ns)) (bit_or lost (device_set devices (n ∷ ns)))
    go true e h = refl
    go false e h = h ∙ ap (beyond_or (first_beyond devices ns)) (one_more devices n lost ns (leb-false devices n e))

pub devices_are : (devices : ℕ) (word : Text) → devices_from devices 0 (filter_map number_of (parts word)) ≡ devices_of devices (lost_numbers word)
unfolding devices_of lost_numbers
devices_are devices word = from_is devices 0 (filter_map number_of (parts word))

-- ---- the loop over the parts

module _ (devices lost : ℕ) (ps : List Text) (i : ℕ) (text : Text) (lt : i < length ps) (at : text ≡ slice_index_or ps i text) where
  abbrev left : List Text → Result ℕ ℕ
  left xs = devices_from devices lost (filter_map number_of xs)

  one_part : left (drop i ps) ≡ left (text ∷ drop (i + 1) ps)
  one_part = at_drop_more left ps i text lt ∙ ap (λ t. left (t ∷ drop (i + 1) ps)) (sym at)

  part_is : (o : Option ℕ) → number_of text ≡ o → left (drop i ps) ≡ devices_from devices lost (cons_option o (filter_map number_of (drop (i + 1) ps)))
  part_is o is = one_part ∙ ap (λ v. devices_from devices lost (cons_option v (filter_map number_of (drop (i + 1) ps)))) is

  pub no_number : number_of text ≡ None → left (drop i ps) ≡ left (drop (i + 1) ps)
  no_number is = part_is None is

  pub number_beyond : (n : ℕ) → number_of text ≡ Some n → devices ≤ n → left (drop i ps) ≡ Err n
  number_beyond n is high = part_is (Some n) is
      ∙ ap (λ b. cond b (Err n) (devices_from devices (bit_or lost (2 ^ n)) (filter_map number_of (drop (i + 1) ps)))) (le-leb devices n high)

  pub number_low : (n : ℕ) → number_of text ≡ Some n → n < devices
      → left (drop i ps) ≡ devices_from devices (bit_or lost (2 ^ n)) (filter_map number_of (drop (i + 1) ps))
  number_low n is low = part_is (Some n) is
      ∙ ap (λ b. cond b (Err n) (devices_from devices (bit_or lost (2 ^ n)) (filter_map number_of (drop (i + 1) ps)))) (lt-leb devices n low)

pub no_part : (devices lost : ℕ) (ps : List Text) (i : ℕ) → length ps ≤ i → devices_from devices lost (filter_map number_of (drop i ps)) ≡ Ok lost
no_part devices lost ps i past = at_drop_all (λ xs. devices_from devices lost (filter_map number_of xs)) ps i past
