-- The head of a stream: its layout does not depend on the length that is not known.
use Rattle.std.proofs.Common.{◌≡◌, ◌∙◌, ◌+◌, ◌*◌, ◌<◌, ◌≤◌, ◌==◌, ◌%◌, ◌||◌, not, ℕ, Bool, true, false, cond, nat_lt, drop, length, take, List, ◌++◌, min, Option, Some, None, Result, Ok, Err, refl, sym, ap, subst, arith, length-append, length-take}
use Rattle.std.specs.Prelude.{IfSome, OnOk}
use Rattle.std.specs.Option.{ForSome}
use Rattle.std.specs.Result.{result_map_both}
use Rattle.std.specs.Io.KnownBytes.{Consumes, IsAtEnd}
use Rattle.std.proofs.Math.Nat.{min-eq_left}
use Rattle.std.proofs.lemmas.Bool.{le-ltb, lt-ltb, ltb-false}
use Rattle.std.proofs.lemmas.List.{drop_at, take_all, take_at}
use Rattle.mr_model.specs.Code.{Dimensions}
use Rattle.mr_image.specs.Heads.{checked_layout, file_bytes, has_marks, is_of_shape, layout, number_at, of_length, read_head, version_of}
use Rattle.mr_image.specs.Images.{Layout, body_bytes}
use Rattle.mr_bits.specs.declared.errors.What.TheVariants.{ImageBytes, SymbolBytes}
use Rattle.mr_image.specs.declared.faults.HeadFault.{HeadFault}
use Rattle.mr_image.specs.declared.faults.HeadFault.TheVariants.{Bad, Large as TooLarge}
use Rattle.mr_image.specs.declared.limits.TheConstants.{HEAD_BYTES, IMAGE_LIMIT, SYMBOL_LIMIT}
use Rattle.mr_image.specs.declared.faults.ImageKind.TheVariants.{Bytes, Head as OfHead, Shape as OfShape}
use Rattle.mr_steps.specs.Faults.{head_fault}
use Rattle.mr_steps.specs.Steps.{Gives}
use Rattle.mr_steps.specs.declared.fault.Fault.{Fault}
use Rattle.mr_steps.specs.declared.fault.Fault.TheVariants.{BadImage}
use Rattle.mr_scatter_run.specs.Tasks.{head_given, named_length, stream_head}

module _ (d : Dimensions) (bytes stripes len version : ℕ) (is : len ≡ HEAD_BYTES + stripes * (d.devices * d.symbols_per_device) * min bytes SYMBOL_LIMIT) where
  abbrev named : ℕ
  named = file_bytes (layout d bytes stripes)

  -- the length is right where the symbols are not too large
  right-length : nat_lt SYMBOL_LIMIT bytes ≡ false → len ≡ named
  right-length small = is ∙ ap (λ m. HEAD_BYTES + stripes * (d.devices * d.symbols_per_device) * m) (min-eq_left {n = bytes} {m = SYMBOL_LIMIT} (ltb-false SYMBOL_LIMIT bytes small))

  any-length : of_length version len (checked_layout d bytes stripes) ≡ of_length version named (checked_layout d bytes stripes)
  any-length = go (bytes == 0 || not (bytes % 8 == 0))
    where
      large : (t : Bool) → nat_lt SYMBOL_LIMIT bytes ≡ t → (fault : HeadFault) (next : Result Layout HeadFault) → of_length version len (cond t (Err fault) next) ≡ of_length version named (cond t (Err fault) next)
      large true e fault next = refl
      large false e fault next = ap (λ n. of_length version n next) (right-length e)

      rest : Result Layout HeadFault
      rest = cond (nat_lt IMAGE_LIMIT (body_bytes (layout d bytes stripes))) (Err (TooLarge (record { what = ImageBytes; number = body_bytes (layout d bytes stripes) }))) (Ok (layout d bytes stripes))

      small : Result Layout HeadFault
      small = cond (nat_lt SYMBOL_LIMIT bytes) (Err (TooLarge (record { what = SymbolBytes; number = bytes }))) rest

      go : (t : Bool) → of_length version len (cond t (Err (Bad Bytes)) small) ≡ of_length version named (cond t (Err (Bad Bytes)) small)
      go true = refl
      go false = large (nat_lt SYMBOL_LIMIT bytes) refl (TooLarge (record { what = SymbolBytes; number = bytes })) rest

-- the layout of a head by this length
pub head-any : (d : Dimensions) (head : List ℕ) (len : ℕ) → len ≡ HEAD_BYTES + number_at 20 head * (d.devices * d.symbols_per_device) * min (number_at 16 head) SYMBOL_LIMIT
    → read_head head d len ≡ read_head head d (named_length d head)
unfolding read_head
head-any d head len is =
    ap (λ r. cond (not (has_marks head)) (Err (Bad OfHead)) (cond (not (is_of_shape d head)) (Err (Bad OfShape)) r)) (any-length d (number_at 16 head) (number_at 20 head) len (version_of head) is)

pub head-given : (d : Dimensions) (head : List ℕ) (len : ℕ) (read : Result Layout HeadFault)
    → len ≡ HEAD_BYTES + number_at 20 head * (d.devices * d.symbols_per_device) * min (number_at 16 head) SYMBOL_LIMIT
    → read ≡ read_head head d len → head_given d head ≡ result_map_both (λ l. l) head_fault read
unfolding head_given
head-given d head len read is value = ap (result_map_both (λ (l : Layout). l) head_fault) (sym (value ∙ head-any d head len is))

-- ---- what is read of the stream

-- what was left begins with what was read
module _ (d : Dimensions) (rest : Option (List ℕ)) (buf : List ℕ) (n : ℕ) (size : length buf ≡ 32) where
  -- fewer bytes are left than a head has
  pub stream-refused : (left : Option (List ℕ)) → Consumes left rest (take n buf) → IsAtEnd rest → n < 32
      → (x : List ℕ) → left ≡ Some x → stream_head d x ≡ Err (BadImage OfHead)
  unfolding stream_head
  stream-refused left read ended low x told =
      ap (λ t. cond t (Err (BadImage OfHead)) (head_given d (take HEAD_BYTES x))) (lt-ltb (length x) HEAD_BYTES (short left rest read ended x told))
    where
      short : (left rest : Option (List ℕ)) → Consumes left rest (take n buf) → IsAtEnd rest → (x : List ℕ) → left ≡ Some x → length x < 32
      short None rest read ended x told = absurd (grind (arith, told))
      short (Some xs) None read ended x told = absurd read
      short (Some xs) (Some more) read ended x told =
          subst (λ o. IfSome o (λ ys. length ys < 32)) told (omega (arith, ap length read, length-append (take n buf) more, ap length ended, length-take n buf, low))

  whole : (left : Option (List ℕ)) → Consumes left rest (take n buf) → 32 ≤ n → (x : List ℕ) → left ≡ Some x → (more : List ℕ) × (x ≡ buf ++ more) × (rest ≡ Some more)
  whole left read many x told = go left rest read told
    where
      go : (l r : Option (List ℕ)) → Consumes l r (take n buf) → l ≡ Some x → (more : List ℕ) × (x ≡ buf ++ more) × (r ≡ Some more)
      go None r read told = absurd (grind (arith, told))
      go (Some xs) None read told = absurd read
      go (Some xs) (Some more) read told =
          let same : xs ≡ x = subst (λ o. IfSome o (λ ys. xs ≡ ys)) told refl in
          (more, sym same ∙ read ∙ ap (λ front. front ++ more) (take_all n buf (omega (arith, size, many))), refl)

  -- the head is what was read
  pub stream-whole : (left : Option (List ℕ)) → Consumes left rest (take n buf) → 32 ≤ n → (x : List ℕ) → left ≡ Some x → stream_head d x ≡ head_given d buf
  unfolding stream_head
  stream-whole left read many x told =
      let w : (more : List ℕ) × (x ≡ buf ++ more) × (rest ≡ Some more) = whole left read many x told in
      ap (λ t. cond t (Err (BadImage OfHead)) (head_given d (take HEAD_BYTES x))) (le-ltb (length x) HEAD_BYTES (omega (arith, ap length w.1, length-append buf w.0, size)))
      ∙ ap (head_given d) (ap (take HEAD_BYTES) w.1 ∙ take_at buf w.0 HEAD_BYTES size)

  -- the others are left
  pub stream-rest : (left : Option (List ℕ)) → Consumes left rest (take n buf) → 32 ≤ n → ForSome left (λ x. rest ≡ Some (drop HEAD_BYTES x))
  stream-rest left read many x told =
      let w : (more : List ℕ) × (x ≡ buf ++ more) × (rest ≡ Some more) = whole left read many x told in
      w.2 ∙ ap Some (sym (ap (drop HEAD_BYTES) w.1 ∙ drop_at buf w.0 HEAD_BYTES size))

  -- what the head gives is what the stream gives
  pub stream-gives : {X : Type 0} (view : X → Layout) (result : Result X Fault) (left : Option (List ℕ)) → Consumes left rest (take n buf) → 32 ≤ n → Gives view result (head_given d buf)
      → ForSome left (λ x. Gives view result (stream_head d x))
  stream-gives view result left read many gives x told = subst (λ r. Gives view result r) (sym (stream-whole left read many x told)) gives

-- what holds in any case holds where the result is a value
pub on-ok : {T E : Type 0} {P : Type 0} (result : Result T E) → P → OnOk result P
on-ok (Ok x) h = h
on-ok (Err e) h = tt
