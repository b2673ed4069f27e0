-- Scripts of reads and writes: the lines of asks, and why a script is refused.
use Rattle.std.specs.Prelude.{◌≡◌, ◌≢◌, ℕ, ◌+◌, ◌*◌, ◌<◌, ◌&&◌, ◌||◌, nat_le, Bool, true, false, List, ◌++◌, flat_map, length, count_by, All, codes, decimal}
use Rattle.hex.specs.Hex.{IsBytes, encode_lower}
use Rattle.mr_bits.specs.declared.errors.Large.{Large}
use Rattle.mr_bits.specs.declared.errors.What.TheVariants.{ReplyBytes}
use Rattle.mr_image.specs.Images.{Layout}
use Rattle.mr_mend.specs.Scripts.{IsInRange, ask_line}
use Rattle.mr_mend.specs.declared.limits.TheConstants.{REPLY_LIMIT}
use Rattle.mr_ops.specs.declared.ops.Op.{Op}
use Rattle.mr_ops.specs.declared.ops.Op.TheVariants.{Read, Write}

-- ---- one ask

-- its stripe
abbrev pub op_stripe : Op → ℕ
op_stripe (Read t i) = t
op_stripe (Write t p) = t

-- whether it reads
abbrev pub is_read : Op → Bool
is_read (Read t i) = true
is_read (Write t p) = false

-- the bytes of k symbols
pub record IsPayload (l : Layout) (k : ℕ) (payload : List ℕ) : Type 0 where
  pub long : length payload ≡ k * l.symbol_bytes
  pub bytes : IsBytes payload

-- an ask of this image, with a payload of k symbols
abbrev pub IsOpOf : Layout → ℕ → Op → Type 0
IsOpOf l k (Read t i) = IsInRange l (record { stripe = t; symbol = i })
IsOpOf l k (Write t p) = (t < l.stripes) × IsPayload l k p

-- ---- its line

-- `0` to `9`, which are 48 to 57, and `a` to `f`, which are 97 to 102
abbrev pub is_lower_digit : ℕ → Bool
is_lower_digit b = nat_le 48 b && nat_le b 57 || nat_le 97 b && nat_le b 102

-- the line of an ask, with its line feed
abbrev pub op_line : Op → List ℕ
op_line (Read t i) = codes "r " ++ ask_line (record { stripe = t; symbol = i })
op_line (Write t p) = codes "w " ++ decimal t ++ codes " " ++ encode_lower p ++ codes "\n"

-- the text of a script
abbrev pub ops_text : List Op → List ℕ
ops_text ops = flat_map (λ op. op_line op) ops

-- ---- why a script is refused

-- the bytes do not begin with the line of an ask of this image
abbrev pub BeginsWithNone : Layout → ℕ → List ℕ → Type 0
BeginsWithNone l k bytes =
    (op : Op) (more : List ℕ) → IsOpOf l k op → bytes ≢ op_line op ++ more

-- Line n is the first that is not of its form: the n - 1 lines before it are those of asks. What stands behind them is not
-- empty, and does not begin with the line of an ask.
pub record HasFirstBadLine (l : Layout) (k : ℕ) (bytes : List ℕ) (n : ℕ) : Type 0 where
  pub ops : List Op
  pub rest : List ℕ
  pub number : n ≡ length ops + 1
  pub in_range : All (IsOpOf l k) ops
  pub parts : bytes ≡ ops_text ops ++ rest
  pub some : 0 < length rest
  pub bad : BeginsWithNone l k rest

-- It is the text of asks, and the replies to their reads have this number of bytes, above the limit.
pub record HasLargeReplies (l : Layout) (k : ℕ) (bytes : List ℕ) (large : Large) : Type 0 where
  pub ops : List Op
  pub in_range : All (IsOpOf l k) ops
  pub text : bytes ≡ ops_text ops
  pub what : large.what ≡ ReplyBytes
  pub number : large.number ≡ count_by is_read ops * l.symbol_bytes
  pub above : REPLY_LIMIT < large.number

-- A text is the lines of one list of asks at most, and then has no first line that is not of its form.
pub record AreOneOf (l : Layout) : Type 0 where
  pub same : (k : ℕ) (xs ys : List Op) → All (IsOpOf l k) xs → All (IsOpOf l k) ys
      → ops_text xs ≡ ops_text ys → xs ≡ ys
  pub not_both : (k : ℕ) (bytes : List ℕ) (ops : List Op) (n : ℕ) → bytes ≡ ops_text ops
      → All (IsOpOf l k) ops → HasFirstBadLine l k bytes n → ⊥
