-- The steps of `rebuild`, each with what comes after it, and what they need.
use Rattle.std.proofs.Common.{arith, ◌≡◌, ◌*◌, ◌<◌, ◌≤◌, ℕ, List, length, take, drop, option_map, Option, Some, None, IfSome, IfOk, Result, Ok, Err, subst, sym, ◌∙◌, ap}
use Rattle.std.specs.Option.{ForSome}
use Rattle.mr_model.specs.Code.{Code, Dimensions, dimensions}
use Rattle.mr_bits.specs.Matrices.{IsMatrixCode}
use Rattle.mr_image.specs.Images.{Layout, stripe_symbols}
use Rattle.mr_image.specs.Heads.{file_bytes, read_head}
use Rattle.mr_image.specs.declared.faults.HeadFault.{HeadFault}
use Rattle.mr_image.specs.declared.faults.ImageKind.TheVariants.{Head as OfHead}
use Rattle.mr_io.specs.Telling.{Told, told_giving, told_retiring}
use Rattle.mr_io.specs.declared.duty.Duty.{Duty}
use Rattle.mr_image.specs.Rotated.{FitsCode}
use Rattle.mr_top.specs.Encode.{or_head_fault}
use Rattle.mr_top.specs.Rebuild.{head_given}
use Rattle.mr_steps.specs.declared.fault.Fault.{Fault}
use Rattle.mr_steps.specs.declared.fault.Fault.TheVariants.{BadImage}

-- ---- the head

given-short : (m : Code) (bytes : List ℕ) → length bytes < 32 → head_given m bytes ≡ Err (BadImage OfHead)
unfolding head_given
given-short m bytes short = grind (arith, short)

given-read : (m : Code) (bytes : List ℕ) → 32 ≤ length bytes → head_given m bytes ≡ or_head_fault (read_head (take 32 bytes) (dimensions m) (length bytes))
unfolding head_given
given-read m bytes whole = grind (arith, whole)

-- a file told to have n bytes, fewer than those of a head
pub head-short : (told : Option (List ℕ)) (n : ℕ) (m : Code) → IfSome told (λ bytes. n ≡ length bytes) → n < 32
    → (x : List ℕ) → told ≡ Some x → head_given m x ≡ Err (BadImage OfHead)
head-short told n m says short x there =
    let n_is : n ≡ length x = subst (λ o. IfSome o (λ bytes. n ≡ length bytes)) there says in
    given-short m x (omega (arith, n_is, short))

-- what the head of a file spells
pub head-read : (told seen : Option (List ℕ)) (n : ℕ) (m : Code) (d : Dimensions) (head : List ℕ) (read : Result Layout HeadFault) → seen ≡ told
    → IfSome told (λ bytes. n ≡ length bytes) → 32 ≤ n → IfSome seen (λ bytes. head ≡ take 32 (drop 0 bytes)) → d ≡ dimensions m → read ≡ read_head head d n
    → (x : List ℕ) → told ≡ Some x → head_given m x ≡ or_head_fault read
head-read told seen n m d head read same says whole taken shape value x there =
    let n_is : n ≡ length x = subst (λ o. IfSome o (λ bytes. n ≡ length bytes)) there says in
    let head_is : head ≡ take 32 x = subst (λ o. IfSome o (λ bytes. head ≡ take 32 (drop 0 bytes))) (same ∙ there) taken in
    given-read m x (omega (arith, n_is, whole))
    ∙ sym (ap or_head_fault (value ∙ (λ j. read_head (head_is j) (shape j) (n_is j))))

-- the length that a head names is that of the file, also after its eye was given back
pub fits-after : (old lent new : Option Told) (bytes : Option (List ℕ)) (name name' : List ℕ) (duty : Duty) (result : Result Layout Fault) → name' ≡ name
    → lent ≡ option_map (told_giving name' duty) old → new ≡ option_map told_retiring lent → bytes ≡ option_map (λ told. told.contents name') old
    → IfOk result (λ l. ForSome bytes (λ b. length b ≡ file_bytes l)) → IfOk result (λ l. ForSome new (λ told. length (told.contents name) ≡ file_bytes l))
fits-after None lent new bytes name name' duty (Ok l) same giving back sees fits = λ told there.
    let clash : ◌≡◌ {A = Option Told} None (Some told) = sym (back ∙ ap (option_map told_retiring) giving) ∙ there in cc
fits-after (Some t) lent new bytes name name' duty (Ok l) same giving back sees fits = λ told there.
    let kept : told.contents ≡ t.contents = ap (λ o. contents_or t o) (sym there ∙ back ∙ ap (option_map told_retiring) giving) in
    ap (λ f. length (f name)) kept ∙ ap (λ n. length (t.contents n)) (sym same) ∙ fits (t.contents name') sees
  where
    contents_or : Told → Option Told → List ℕ → List ℕ
    contents_or other None = other.contents
    contents_or other (Some told) = told.contents
fits-after old lent new bytes name name' duty (Err fault) same giving back sees fits = tt

-- ---- the survivors

pub rows-are : (m : Code) (l : Layout) → IsMatrixCode m → FitsCode l m → length m.rows ≡ stripe_symbols l
rows-are m l code fits = code.count ∙ sym (λ j. fits.devices j * fits.symbols j)
