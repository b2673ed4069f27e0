-- The XOR of symbols as a loop over the members of a set makes it: nothing at first, then one symbol after another.
use Rattle.std.proofs.Common.{◌≡◌, ℕ, ◌+◌, ◌^◌, ◌<◌, List, [], map, length, get_or, replicate, bit_xor, sym, ap₂, ◌∙◌, arith}
use Rattle.std.specs.List.{range_with_len}
use Rattle.std.specs.Simd.Lanes.{zip2}
use Rattle.std.proofs.lemmas.Grind.{same_number_lists}
use Rattle.std.proofs.lemmas.Simd.{length-zip2, get_or-zip2, zip2-map}
use Rattle.std.proofs.lemmas.List.{length-replicate, get_or-replicate}
use Rattle.mr_model.specs.Sets.{below, sum}
use Rattle.mr_model.proofs.Loops.{IsTurn, sum-turn}
use Rattle.mr_model.proofs.SumLaws.{sum-none, sum-xor, sum-single}
use Rattle.mr_image.specs.Images.{xor_symbols}
use Rattle.mr_image.proofs.SymbolLaws.{bytes_at, byte-of, length-xor_symbols, xor_symbols-at}

module _ (size : ℕ) (symbols : List (List ℕ)) where
  -- bytes that are the sum at each place
  pub xor_symbols-is : (x : ℕ) (bytes : List ℕ) → length bytes ≡ size → ((place : ℕ) → place < size → sum (bytes_at place symbols) x ≡ get_or bytes place 0)
      → xor_symbols size symbols x ≡ bytes
  xor_symbols-is x bytes long same =
      same_number_lists (xor_symbols size symbols x) bytes (length-xor_symbols size symbols x ∙ sym long)
      (λ place low. let here : place < size = omega (arith, low, length-xor_symbols size symbols x) in xor_symbols-at size symbols x place here ∙ same place here)

  -- of no symbol it is zero bytes
  pub xor_symbols-none : xor_symbols size symbols 0 ≡ replicate size 0
  xor_symbols-none = xor_symbols-is 0 (replicate size 0) (length-replicate size 0)
      (λ place here. sum-none (bytes_at place symbols) ∙ sym (get_or-replicate size place 0 0 here))

  -- of one symbol it is that symbol
  pub xor_symbols-single : (i : ℕ) → length (get_or symbols i []) ≡ size → xor_symbols size symbols (2 ^ i) ≡ get_or symbols i []
  xor_symbols-single i long = xor_symbols-is (2 ^ i) (get_or symbols i []) long (λ place here. sum-single (bytes_at place symbols) i ∙ byte-of symbols place i)

  -- of the XOR of two sets it is the XOR
  pub xor_symbols-xor : (x y : ℕ) → xor_symbols size symbols (bit_xor x y) ≡ zip2 bit_xor (xor_symbols size symbols x) (xor_symbols size symbols y)
  unfolding xor_symbols
  xor_symbols-xor x y =
      (λ j. map (λ place. sum-xor (bytes_at place symbols) x y j) (range_with_len 0 size))
      ∙ sym (zip2-map bit_xor (λ place. sum (bytes_at place symbols) x) (λ place. sum (bytes_at place symbols) y) (range_with_len 0 size))

  -- one symbol more
  pub xor_symbols-step : (x y t : ℕ) → ((rows : List ℕ) → sum rows y ≡ bit_xor (sum rows x) (get_or rows t 0)) → length (get_or symbols t []) ≡ size
      → xor_symbols size symbols y ≡ zip2 bit_xor (xor_symbols size symbols x) (get_or symbols t [])
  xor_symbols-step x y t step long =
      let before : List ℕ = xor_symbols size symbols x in
      let same : length before ≡ length (get_or symbols t []) = length-xor_symbols size symbols x ∙ sym long in
      xor_symbols-is y (zip2 bit_xor before (get_or symbols t [])) (length-zip2 bit_xor before (get_or symbols t []) same ∙ length-xor_symbols size symbols x)
      (λ place here.
      step (bytes_at place symbols)
      ∙ ap₂ bit_xor (sym (xor_symbols-at size symbols x place here)) (byte-of symbols place t)
      ∙ sym (get_or-zip2 bit_xor before (get_or symbols t []) place 0 0 0 (omega (arith, here, length-xor_symbols size symbols x)) (omega (arith, here, long))))

  -- a turn of a loop over the members of a set, upwards
  pub xor_symbols-turn : (set n t rest : ℕ) → IsTurn set n t rest → length (get_or symbols t []) ≡ size
      → xor_symbols size symbols (below (t + 1) set) ≡ zip2 bit_xor (xor_symbols size symbols (below n set)) (get_or symbols t [])
  xor_symbols-turn set n t rest turn long = xor_symbols-step (below n set) (below (t + 1) set) t (λ rows. sum-turn rows set n t rest turn) long
