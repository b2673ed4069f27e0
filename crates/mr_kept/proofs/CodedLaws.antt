-- The codeword of a payload in the bytes of a stripe, symbol by symbol.
use Rattle.std.proofs.Common.{◌≡◌, ℕ, ◌+◌, ◌*◌, ◌^◌, ◌<◌, List, [], take, drop, flat_map, length, sym, ap, subst, ◌∙◌, arith, zero-add}
use Rattle.std.specs.Int.{bit_at}
use Rattle.std.specs.List.{range_with_len}
use borrow.Rule.Slice.PartMut.{put_mid}
use Rattle.mr_model.specs.Code.{Code, row}
use Rattle.mr_model.proofs.SetLaws.{member-below}
use Rattle.mr_bits.specs.Matrices.{IsMatrixCode}
use Rattle.mr_image.specs.Images.{Layout, stripe_symbols, xor_symbols}
use Rattle.mr_image.proofs.SymbolLaws.{codeword-is}
use Rattle.mr_encode.specs.Data.{symbols_in}
use Rattle.mr_encode.proofs.ColumnLaws.{row_columns}
use Rattle.mr_encode.proofs.FrontLaws.{HasFront, front-all}
use Rattle.mr_encode.proofs.StripeLaws.{symbols_of, length-part, stripe-turn}
use Rattle.mr_kept.specs.Kept.{stripe_bytes, coded_bytes, IsAround, StandsAround}
use Rattle.mr_kept.proofs.PartLaws.{payload-around, payload-stands}

module _ (l : Layout) (m : Code) (is : IsMatrixCode m) (rows : length m.rows ≡ stripe_symbols l) (payload : List ℕ) (long : length payload ≡ m.columns * l.symbol_bytes) where
  -- symbol n, as the code writes its place, its length and its row
  module _ (size n at width k set : ℕ) (bytes : List ℕ) (size_is : size ≡ l.symbol_bytes) (whole : length bytes ≡ stripe_bytes l) (low : n < stripe_symbols l)
      (at_is : at ≡ n) (width_is : width ≡ size) (k_is : k ≡ m.columns) (set_is : set ≡ row m n) where
    sized : length bytes ≡ stripe_symbols l * size
    sized = whole ∙ ap (λ z. stripe_symbols l * z) (sym size_is)

    part-size : length (take width (drop (at * size) bytes)) ≡ l.symbol_bytes
    part-size = length-part size (stripe_symbols l) at width bytes sized (omega (arith, at_is, low)) width_is ∙ size_is

    set-low : set < 2 ^ m.columns
    set-low = subst (λ x. x < 2 ^ m.columns) (sym set_is) (row_columns m n is (omega (arith, low, rows)))

    pub payload-there : (i : ℕ) → bit_at set i ≡ 1 → StandsAround (length (take width (drop (at * size) bytes))) k i payload []
    payload-there i member =
        subst (λ s. StandsAround s k i payload []) (sym part-size)
        (subst (λ c. StandsAround l.symbol_bytes c i payload []) (sym k_is)
        (payload-stands l.symbol_bytes m.columns i payload long (member-below m.columns set i set-low member)))

    pub coded-turn : (piece : List ℕ)
        → ((c : ℕ) (stripe : List ℕ) → set < 2 ^ c → IsAround (length (take width (drop (at * size) bytes))) k stripe payload []
        → piece ≡ xor_symbols (length (take width (drop (at * size) bytes))) (symbols_in (length (take width (drop (at * size) bytes))) c stripe) set)
        → HasFront (symbols_of m size payload) size 0 n bytes → HasFront (symbols_of m size payload) size 0 (n + 1) (put_mid (at * size) width bytes piece)
    coded-turn piece made h =
        let s : ℕ = length (take width (drop (at * size) bytes)) in
        let around : IsAround s k payload payload [] = payload-around s k payload (long ∙ (λ j. sym k_is j * sym part-size j)) in
        stripe-turn m size payload 0 n at width (stripe_symbols l) bytes piece sized low at_is width_is h
        (made m.columns payload set-low around
        ∙ ap (xor_symbols s (symbols_in s m.columns payload)) set_is
        ∙ sym (codeword-is m s (symbols_in s m.columns payload) n)
        ∙ ap (symbols_of m s payload) (sym (zero-add n)))

  pub coded-all : (size n : ℕ) (bytes : List ℕ) → size ≡ l.symbol_bytes → length bytes ≡ stripe_bytes l → n ≡ stripe_symbols l
      → HasFront (symbols_of m size payload) size 0 n bytes → bytes ≡ coded_bytes l m payload
  unfolding coded_bytes
  coded-all size n bytes size_is whole all h =
      front-all (symbols_of m size payload) size 0 (stripe_symbols l) bytes (subst (λ c. HasFront (symbols_of m size payload) size 0 c bytes) all h)
      (whole ∙ ap (λ z. stripe_symbols l * z) (sym size_is))
      ∙ ap (λ z. flat_map (symbols_of m z payload) (range_with_len 0 (stripe_symbols l))) size_is
