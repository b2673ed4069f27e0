-- Runs of neighbours: where they stand in a file, what one read of such a run changes, where they end, and how many members they have.
use Rattle.std.proofs.Common.{◌≡◌, ℕ, zero, suc, ◌+◌, ◌-◌, ◌*◌, ◌/◌, ◌%◌, ◌^◌, ◌<◌, ◌≤◌, ◌⊎◌, ⊎_elim, inl, inr, List, [], ◌∷◌, take, drop, length, Option, Some, None, sym, ap, ap₂, subst, ◌∙◌, arith}
use Rattle.std.specs.Prelude.{IfSome}
use mir.Syntax.{w128}
use Rattle.std.specs.Int.{bit_at, bit_not, trailing_zeros, trailing_ones}
use Rattle.std.specs.Int.Count.{trailing_of_zero}
use Rattle.std.proofs.Math.Nat.{add-mul, div-div-eq-div-mul, div-le_self}
use Rattle.std.proofs.lemmas.Bool.{cases_lt, cases_eq}
use Rattle.std.proofs.lemmas.List.{drop-drop, drop-take, take-take, length-append}
use Rattle.std.proofs.lemmas.Nat.{mul-le, pow-add}
use Rattle.std.proofs.lemmas.Nat.Bits.{bit_at_ones, bit_at_ones_above, bit_at-trailing_ones}
use Rattle.std.proofs.lemmas.Slice.{take-put_mid_below}
use Rattle.mr_model.specs.Sets.{below}
use Rattle.mr_model.specs.Members.{members}
use Rattle.mr_model.proofs.SetLaws.{member-below}
use Rattle.mr_model.proofs.Loops.{members-grow}
use Rattle.mr_image.specs.Images.{Layout, stripe_symbols, image_of, place}
use Rattle.mr_image.specs.Heads.{file_bytes}
use Rattle.mr_image.proofs.HeadLaws.{place-within}
use Rattle.mr_mend.specs.Mending.{HoldsRun, KeepsBesides, IsRunEnd}
use Rattle.mr_image.proofs.Places.{part-here, part-other, stripe-before, length-part}
use borrow.Rule.Slice.PartMut.{put_mid}

-- ---- parts of parts

-- a part of a part
part-part : (a k d m : ℕ) (xs : List ℕ) → d + m ≤ k → take m (drop d (take k (drop a xs))) ≡ take m (drop (a + d) xs)
part-part a k d m xs low =
    sym (drop-take d m (take k (drop a xs)))
    ∙ ap (drop d) (take-take (d + m) k (drop a xs) low)
    ∙ drop-take d m (drop a xs)
    ∙ ap (take m) (drop-drop d a xs)

-- ---- places

module _ (l : Layout) where
  -- a symbol further on in the same stripe
  place-on : (s f i : ℕ) → f ≤ i → place l s i ≡ place l s f + (i - f) * l.symbol_bytes
  place-on s f i on =
      let split : s * stripe_symbols l + i ≡ s * stripe_symbols l + f + (i - f) = omega arith in
      omega (arith, ap (λ n. n * l.symbol_bytes) split, add-mul (s * stripe_symbols l + f) (i - f) l.symbol_bytes)

  -- a symbol not before another one
  place-from : (s i t j : ℕ) → s * stripe_symbols l + i ≤ t * stripe_symbols l + j → place l s i ≤ place l t j
  place-from s i t j from =
      let row : (s * stripe_symbols l + i) * l.symbol_bytes ≤ (t * stripe_symbols l + j) * l.symbol_bytes =
      mul-le (s * stripe_symbols l + i) l.symbol_bytes (t * stripe_symbols l + j) l.symbol_bytes from (omega arith) in
      omega (arith, row)

  -- the end of a symbol
  place-next : (s i : ℕ) → place l s (i + 1) ≡ place l s i + l.symbol_bytes
  place-next s i =
      let split : s * stripe_symbols l + (i + 1) ≡ s * stripe_symbols l + i + 1 = omega arith in
      omega (arith, ap (λ n. n * l.symbol_bytes) split, add-mul (s * stripe_symbols l + i) 1 l.symbol_bytes)

  -- a run stands within the file
  run-within : (s first «end» : ℕ) → s < l.stripes → first < «end» → «end» ≤ stripe_symbols l
      → place l s first + («end» - first) * l.symbol_bytes ≤ file_bytes l
  run-within s first «end» here some low =
      let last : «end» - 1 + 1 ≡ «end» = omega arith in
      omega (arith, place-on s first «end» (omega arith), place-next s («end» - 1), ap (place l s) last, place-within l s («end» - 1) here (omega arith))

  -- the other symbols are apart from it
  run-apart : (s first «end» t j : ℕ) → first < «end» → «end» ≤ stripe_symbols l → j < stripe_symbols l → (t ≡ s → (j < first) ⊎ («end» ≤ j))
      → (place l t j + l.symbol_bytes ≤ place l s first) ⊎ (place l s «end» ≤ place l t j)
  run-apart s first «end» t j some low low_j other = ⊎_elim
      (λ (before : t < s). inl (ahead t j s first (stripe-before l t j s first low_j before)))
      (λ (from : s ≤ t). ⊎_elim
      (λ (behind : s < t). inr (after (stripe-before l s («end» - 1) t j (omega arith) behind)))
      (λ (to : t ≤ s).
      let same : t ≡ s = omega arith in
      ⊎_elim
      (λ (less : j < first). inl (ahead t j s first (omega (arith, less, ap (λ u. u * stripe_symbols l) same))))
      (λ (more : «end» ≤ j). inr (place-from s «end» t j (omega (arith, more, ap (λ u. u * stripe_symbols l) same))))
      (other same))
      (cases_lt s t))
      (cases_lt t s)
    where
      ahead : (t j s i : ℕ) → t * stripe_symbols l + j < s * stripe_symbols l + i → place l t j + l.symbol_bytes ≤ place l s i
      ahead t j s i before = omega (arith, place-next t j, place-from t (j + 1) s i (omega (arith, before)))

      after : s * stripe_symbols l + («end» - 1) < t * stripe_symbols l + j → place l s «end» ≤ place l t j
      after behind = place-from s «end» t j (omega (arith, behind, some))

  -- ---- one run

  -- y was put as the symbols from first up to the end
  pub record IsRunPut (s first «end» : ℕ) (y before now : List ℕ) : Type 0 where
    pub there : take ((«end» - first) * l.symbol_bytes) (drop (place l s first) now) ≡ y
    pub kept : KeepsBesides l s first «end» before now

  is_run_put : (s first «end» at size : ℕ) (y before : List ℕ) → s < l.stripes → first < «end» → «end» ≤ stripe_symbols l → length before ≡ file_bytes l
      → at ≡ place l s first → size ≡ («end» - first) * l.symbol_bytes → length y ≡ size → IsRunPut s first «end» y before (put_mid at size before y)
  is_run_put s first «end» at size y before here some low long at_is size_is y_long =
      let inside : at + size ≤ length before = omega (arith, run-within s first «end» here some low, at_is, size_is, long) in
      let reach : at ≤ length before = omega arith in
      let stop : at + size ≡ place l s «end» = omega (arith, at_is, size_is, place-on s first «end» (omega arith)) in
      record {
        there = (λ k. take (sym size_is k) (drop (sym at_is k) (put_mid at size before y))) ∙ part-here at size before y reach y_long;
        kept = record {
          same = λ t j low_j other.
              part-other at size (place l t j) l.symbol_bytes before y reach y_long
              (subst (λ p. (place l t j + l.symbol_bytes ≤ p) ⊎ (at + size ≤ place l t j)) (sym at_is)
              (subst (λ q. (place l t j + l.symbol_bytes ≤ place l s first) ⊎ (q ≤ place l t j)) (sym stop) (run-apart s first «end» t j some low low_j other)));
          front = take-put_mid_below at size before y 32 (omega (arith, at_is)) reach;
        };
      }

  -- where the bytes of a run are those of another file, each symbol of it is
  run-same : (s first «end» : ℕ) (told now : List ℕ)
      → take ((«end» - first) * l.symbol_bytes) (drop (place l s first) now) ≡ take ((«end» - first) * l.symbol_bytes) (drop (place l s first) told)
      → HoldsRun l s first «end» (image_of l told) now
  run-same s first «end» told now same = record {
    same = λ i from low.
        let d : ℕ = (i - first) * l.symbol_bytes in
        let k : ℕ = («end» - first) * l.symbol_bytes in
        let room : d + l.symbol_bytes ≤ k = fits i from low in
        (λ j. take l.symbol_bytes (drop (place-on s first i from j) now))
        ∙ sym (part-part (place l s first) k d l.symbol_bytes now room)
        ∙ ap (λ ys. take l.symbol_bytes (drop d ys)) same
        ∙ part-part (place l s first) k d l.symbol_bytes told room
        ∙ (λ j. take l.symbol_bytes (drop (sym (place-on s first i from) j) told));
  }
    where
      fits : (i : ℕ) → first ≤ i → i < «end» → (i - first) * l.symbol_bytes + l.symbol_bytes ≤ («end» - first) * l.symbol_bytes
      fits i from low =
          let row : (i - first + 1) * l.symbol_bytes ≤ («end» - first) * l.symbol_bytes = mul-le (i - first + 1) l.symbol_bytes («end» - first) l.symbol_bytes (omega arith) (omega arith) in
          omega (arith, row, add-mul (i - first) 1 l.symbol_bytes)

  run-held : (s first «end» at size : ℕ) (told : Option (List ℕ)) (y before now : List ℕ) → IsRunPut s first «end» y before now
      → at ≡ place l s first → size ≡ («end» - first) * l.symbol_bytes → IfSome told (λ bytes. y ≡ take size (drop at bytes))
      → IfSome told (λ bytes. HoldsRun l s first «end» (image_of l bytes) now)
  run-held s first «end» at size None y before now put at_is size_is read = tt
  run-held s first «end» at size (Some told) y before now put at_is size_is read =
      run-same s first «end» told now (put.there ∙ read ∙ ap₂ (λ n a. take n (drop a told)) size_is at_is)

  -- ---- as the code counts its bytes

  run-size : (first «end» at count bytes : ℕ) → count ≡ «end» - first → bytes ≡ l.symbol_bytes → at + count * bytes - at ≡ («end» - first) * l.symbol_bytes
  run-size first «end» at count bytes count_is bytes_is = omega (arith, ap₂ (λ a b. a * b) count_is bytes_is)

  pub run-inside : (s first «end» at count bytes : ℕ) (before : List ℕ) → s < l.stripes → first < «end» → «end» ≤ stripe_symbols l → length before ≡ file_bytes l
      → at ≡ place l s first → count ≡ «end» - first → bytes ≡ l.symbol_bytes → at + count * bytes ≤ length before
  run-inside s first «end» at count bytes before here some low long at_is count_is bytes_is =
      omega (arith, run-within s first «end» here some low, ap₂ (λ a b. a * b) count_is bytes_is, at_is, long)

  pub run-put : (s first «end» at count bytes : ℕ) (y before : List ℕ) → s < l.stripes → first < «end» → «end» ≤ stripe_symbols l → length before ≡ file_bytes l
      → at ≡ place l s first → count ≡ «end» - first → bytes ≡ l.symbol_bytes → length y ≡ length (take (at + count * bytes - at) (drop at before))
      → IsRunPut s first «end» y before (put_mid at (at + count * bytes - at) before y)
  run-put s first «end» at count bytes y before here some low long at_is count_is bytes_is y_long =
      let inside : at + count * bytes ≤ length before = run-inside s first «end» at count bytes before here some low long at_is count_is bytes_is in
      let part : length (take (at + count * bytes - at) (drop at before)) ≡ count * bytes = length-part at (count * bytes) before inside in
      is_run_put s first «end» at (at + count * bytes - at) y before here some low long at_is (run-size first «end» at count bytes count_is bytes_is) (omega (arith, y_long, part))

  pub run-read : (s first «end» at count bytes : ℕ) (told : Option (List ℕ)) (y before now : List ℕ) → s < l.stripes → first < «end» → «end» ≤ stripe_symbols l → length before ≡ file_bytes l
      → at ≡ place l s first → count ≡ «end» - first → bytes ≡ l.symbol_bytes → IsRunPut s first «end» y before now
      → IfSome told (λ bytes_told. y ≡ take (length (take (at + count * bytes - at) (drop at before))) (drop at bytes_told))
      → IfSome told (λ bytes_told. HoldsRun l s first «end» (image_of l bytes_told) now)
  run-read s first «end» at count bytes told y before now here some low long at_is count_is bytes_is put read =
      let inside : at + count * bytes ≤ length before = run-inside s first «end» at count bytes before here some low long at_is count_is bytes_is in
      let part : length (take (at + count * bytes - at) (drop at before)) ≡ count * bytes = length-part at (count * bytes) before inside in
      run-held s first «end» at (length (take (at + count * bytes - at) (drop at before))) told y before now put at_is (part ∙ ap₂ (λ a b. a * b) count_is bytes_is) read

-- ---- the end of a run

shifted-bit : (set first j : ℕ) → bit_at (set / 2 ^ first) j ≡ bit_at set (first + j)
shifted-bit set first j = ap (λ x. x % 2) (div-div-eq-div-mul set (2 ^ first) (2 ^ j) ∙ ap (λ m. set / m) (sym (pow-add 2 first j)))

-- how many of the lowest bits are ones, also where all are
ones-end : (x : ℕ) → x < 2 ^ 128
    → (trailing_ones w128 x ≤ 128) × (bit_at x (trailing_ones w128 x) ≡ 0) × ((i : ℕ) → i < trailing_ones w128 x → bit_at x i ≡ 1)
ones-end x low = ⊎_elim
    (λ (some : x + 1 < 2 ^ 128). let h = bit_at-trailing_ones w128 x some in (omega (arith, h.0), h.1, h.2))
    (λ (none : 2 ^ 128 ≤ x + 1).
    let all : x ≡ 2 ^ 128 - 1 = omega arith in
    let zero_left : bit_not w128 x ≡ 0 = omega arith in
    let count : trailing_ones w128 x ≡ 128 = ap (trailing_zeros w128) zero_left ∙ trailing_of_zero 128 in (
      omega (arith, count),
      ap₂ bit_at all count ∙ bit_at_ones_above 128 128 (omega arith),
      λ i here. ap (λ y. bit_at y i) all ∙ bit_at_ones 128 i (omega (arith, here, count)),
    ))
    (cases_lt (x + 1) (2 ^ 128))

run-ends : (set first : ℕ) → set < 2 ^ 128 → bit_at set first ≡ 1 → IsRunEnd set first (first + trailing_ones w128 (set / 2 ^ first))
run-ends set first low here =
    let x : ℕ = set / 2 ^ first in
    let n : ℕ = trailing_ones w128 x in
    let h = ones-end x (omega (arith, low, div-le_self set (2 ^ first))) in
    let h_none : bit_at x n ≡ 0 = h.1 in
    let h_all : (i : ℕ) → i < n → bit_at x i ≡ 1 = h.2 in
    let start : first + 0 ≡ first = omega arith in
    let first_in : bit_at x 0 ≡ 1 = shifted-bit set first 0 ∙ ap (bit_at set) start ∙ here in
    record {
      some = ⊎_elim
          (λ (none : n ≡ 0). absurd (omega (arith, first_in, ap (bit_at x) (sym none) ∙ h_none)))
          (λ (some : n ≡ 0 → ⊥). omega (arith, some))
          (cases_eq n 0);
      members = λ i from before.
          let split : first + (i - first) ≡ i = omega arith in
          ap (bit_at set) (sym split) ∙ sym (shifted-bit set first (i - first)) ∙ h_all (i - first) (omega (arith, from, before));
      whole = sym (shifted-bit set first n) ∙ h_none;
    }

-- as the code finds it
pub run-found : (set number first count : ℕ) → number < 2 ^ 128 → number ≡ set → bit_at set first ≡ 1 → count ≡ trailing_ones w128 (number / 2 ^ first) → IsRunEnd set first (first + count)
run-found set number first count low is here found =
    subst (λ n. IsRunEnd set first (first + n)) (sym (found ∙ ap (λ x. trailing_ones w128 (x / 2 ^ first)) is)) (run-ends set first (omega arith) here)

pub run-few : (number first count : ℕ) → number < 2 ^ 128 → count ≡ trailing_ones w128 (number / 2 ^ first) → count ≤ 128
run-few number first count low found =
    let h = ones-end (number / 2 ^ first) (omega (arith, low, div-le_self number (2 ^ first))) in
    omega (arith, found, h.0)

pub run-low : (set first «end» n : ℕ) → set < 2 ^ n → IsRunEnd set first «end» → «end» ≤ n
run-low set first «end» n few run = omega (arith, run.some, member-below n set («end» - 1) few (run.members («end» - 1) (omega (arith, run.some)) (omega (arith, run.some))))

-- ---- the members of a run

-- with a run more, there are as many members more as it is long
pub members-run : (set first n : ℕ) → first + n ≤ 128 → ((i : ℕ) → first ≤ i → i < first + n → bit_at set i ≡ 1)
    → length (members (below (first + n) set)) ≡ length (members (below first set)) + n
members-run set first zero few all =
    let same : first + 0 ≡ first = omega arith in
    let none : length (members (below first set)) ≡ length (members (below first set)) + 0 = omega arith in
    ap (λ k. length (members (below k set))) same ∙ none
members-run set first (suc n) few all =
    let same : first + suc n ≡ first + n + 1 = omega arith in
    let more : length (members (below (first + n + 1) set)) ≡ length (members (below (first + n) set)) + 1 =
    ap length (members-grow set (first + n) (omega arith) (all (first + n) (omega arith) (omega arith)))
    ∙ length-append (members (below (first + n) set)) ((first + n) ∷ []) in
    ap (λ k. length (members (below k set))) same
    ∙ omega (arith, more, members-run set first n (omega arith) (λ i from low. all i from (omega arith)))
