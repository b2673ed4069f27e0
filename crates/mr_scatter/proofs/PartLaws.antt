-- Parts that are written one after another.
use Rattle.std.proofs.Common.{◌≡◌, ℕ, zero, suc, add-one, ap₂, ◌+◌, ◌-◌, ◌*◌, ◌^◌, ◌<◌, ◌≤◌, ◌⊎◌, inl, inr, ⊎_elim, List, [], ◌++◌, length, take, drop, get_or, max, set, sym, ap, subst, ◌∙◌, refl, arith, zero-add, zero-mul, length-append, length-take, length-drop}
use Rattle.std.specs.Prelude.{◌≢◌, All, Option, None, Some, IfSome}
use Rattle.std.specs.Option.{ForSome}
use Rattle.std.specs.Io.KnownBytes.{Consumes, IsAtEnd}
use Rattle.std.proofs.Math.Nat.{add-mul, suc-mul, mul_assoc, mul-le-mul_right}
use Rattle.std.proofs.Math.Seq.{get_or-append_right}
use Rattle.std.proofs.Math.ListN.{get_or-append}
use Rattle.std.proofs.lemmas.List.{append-nil, drop-append-le, get_or-set_same, get_or-set_other, length-set, take-append-le}
use Rattle.std.proofs.Math.Seq.{drop-append-add, take-append-add}
use Rattle.std.proofs.lemmas.Bool.{cases_eq, cases_lt}
use Rattle.std.proofs.lemmas.List.{take-take}
use Rattle.std.proofs.lemmas.List.Elements.{All-get_or}
use Rattle.std.proofs.lemmas.Slice.{take-put_mid}
use borrow.Rule.Slice.PartMut.{put_mid}
use Rattle.mr_encode.proofs.FrontLaws.{flat_map-more}
use Rattle.mr_image.specs.Images.{Layout, IsLayout, body_bytes, stripe_symbols}
use Rattle.mr_devices.specs.Places.{part_bytes}
use Rattle.mr_devices.specs.Writing.{IsWritten, Shelf, Writes}
use Rattle.mr_devices.proofs.WriteLaws.{written-none}
use Rattle.mr_io.proofs.Consuming.{consumes_nothing, consumes_more}
use Rattle.mr_encode.proofs.ColumnLaws.{place_end}
use Rattle.mr_scatter.specs.Parts.{StoresIn, Stores, device_text, part_in}

-- what is read into the middle of a buffer
module _ (a k n : ℕ) (xs ys : List ℕ) (low : a ≤ length xs) (few : n ≤ length ys) where
  front_is : take (a + length ys) (put_mid a k xs ys) ≡ take a xs ++ ys
  front_is = take-put_mid a k xs ys (a + length ys) refl low

  pub put-fits : a + n ≤ length (put_mid a k xs ys)
  put-fits = omega (arith, ap length front_is, length-append (take a xs) ys, length-take a xs, length-take (a + length ys) (put_mid a k xs ys), few, low)

  pub take-put : take (a + n) (put_mid a k xs ys) ≡ take a xs ++ take n ys
  take-put =
      let e : length (take a xs) ≡ a = omega (arith, length-take a xs, low) in
      sym (take-take (a + n) (a + length ys) (put_mid a k xs ys) (omega (arith, few)))
      ∙ ap (take (a + n)) front_is
      ∙ subst (λ m. take (m + n) (take a xs ++ ys) ≡ take a xs ++ take n ys) e (take-append-add (take a xs) ys n)

-- bytes that are written behind those before
pub written-more : (at next : ℕ) (xs ys old mid new : List ℕ) → next ≡ at + length xs → IsWritten at xs old mid → IsWritten next ys mid new → IsWritten at (xs ++ ys) old new
written-more at next xs ys old mid new e h k = record {
  inside = inside_is;
  outside = outside_is;
  grown = λ some. grown_is some;
  none = λ empty. k.none (omega (arith, empty, length-append xs ys)) ∙ h.none (omega (arith, empty, length-append xs ys));
}
  where
    inside_is : (p : ℕ) → p < length (xs ++ ys) → get_or new (at + p) 0 ≡ get_or (xs ++ ys) p 0
    inside_is p low = ⊎_elim
        (λ first. k.outside (at + p) (inl (omega (arith, e, first))) ∙ h.inside p first ∙ sym (get_or-append xs ys 0 p first))
        (λ then. ap (λ q. get_or new q 0) (omega (arith, e, then)) ∙ k.inside (p - length xs) (omega (arith, then, low, length-append xs ys)) ∙ sym (get_or-append_right xs ys p 0 then))
        (cases_lt p (length xs))

    outside_is : (p : ℕ) → (p < at) ⊎ (at + length (xs ++ ys) ≤ p) → get_or new p 0 ≡ get_or old p 0
    outside_is p out = ⊎_elim
        (λ before. k.outside p (inl (omega (arith, e, before))) ∙ h.outside p (inl before))
        (λ behind. k.outside p (inr (omega (arith, e, behind, length-append xs ys))) ∙ h.outside p (inr (omega (arith, behind, length-append xs ys))))
        out

    grown_is : 0 < length (xs ++ ys) → length new ≡ max (length old) (at + length (xs ++ ys))
    grown_is some = ⊎_elim
        (λ first. ⊎_elim
        (λ then. omega (arith, k.grown then, h.grown first, e, length-append xs ys))
        (λ last. omega (arith, ap length (k.none (omega (arith, last))), h.grown first, length-append xs ys, last))
        (cases_lt 0 (length ys)))
        (λ no_first. omega (arith, k.grown (omega (arith, some, no_first, length-append xs ys)), ap length (h.none (omega (arith, no_first))), e, length-append xs ys, no_first))
        (cases_lt 0 (length xs))

-- ---- the files of a stripe

-- the first n open files are written
pub record StoresBelow (n : ℕ) (shelf : Shelf) (new : Option Shelf) (at : ℕ → ℕ) (bytes : ℕ → List ℕ) : Type 0 where
  pub files : List (List ℕ)
  pub tells : new ≡ Some (record shelf { opened = files })
  pub same : length files ≡ length shelf.opened
  pub done : (k : ℕ) → k < n → k < length shelf.opened → IsWritten (at k) (bytes k) (get_or shelf.opened k []) (get_or files k [])
  pub left : (k : ℕ) → n ≤ k → get_or files k [] ≡ get_or shelf.opened k []

-- the same where the files are told, and files that tell nothing go on so
pub record StoresSome (n : ℕ) (old new : Option Shelf) (at : ℕ → ℕ) (bytes : ℕ → List ℕ) : Type 0 where
  pub told : ForSome old (λ shelf. StoresBelow n shelf new at bytes)
  pub untold : old ≡ None → new ≡ None

pub some-start : (n : ℕ) (o : Option Shelf) (at : ℕ → ℕ) (bytes : ℕ → List ℕ) → n ≡ 0 → StoresSome n o o at bytes
some-start n o at bytes e = record {
  told = λ shelf told. record {
    files = shelf.opened;
    tells = told;
    same = refl;
    done = λ k low there. absurd (omega (arith, low, e));
    left = λ k low. refl;
  };
  untold = λ none. none;
}

module _ (n : ℕ) (old now next : Option Shelf) (at : ℕ → ℕ) (bytes : ℕ → List ℕ) (piece : List ℕ) (so_far : StoresSome n old now at bytes)
    (writes : Writes now next n (at n) piece) (is : piece ≡ bytes n) (quiet : now ≡ None → next ≡ None) (count : ℕ) (opened : IfSome old (λ shelf. length shelf.opened ≡ count)) (low : n < count) where
  pub some-turn : StoresSome (n + 1) old next at bytes
  some-turn = record { told = told_is; untold = λ none. quiet (so_far.untold none) }
    where
      told_is : (shelf : Shelf) → old ≡ Some shelf → StoresBelow (n + 1) shelf next at bytes
      told_is shelf told =
          let h : StoresBelow n shelf now at bytes = so_far.told shelf told in
          let w : (file : List ℕ) × IsWritten (at n) piece (get_or h.files n []) file × (next ≡ Some (record shelf { opened = set h.files n file })) = writes.told (record shelf { opened = h.files }) h.tells in
          let all : length shelf.opened ≡ count = subst (λ o. IfSome o (λ x. length x.opened ≡ count)) told opened in
          let here : n < length h.files = omega (arith, low, all, h.same) in
          let new_file : get_or (set h.files n w.0) n [] ≡ w.0 = get_or-set_same h.files n w.0 [] here in
          record {
            files = set h.files n w.0;
            tells = w.2;
            same = length-set h.files n w.0 ∙ h.same;
            done = λ k below there. ⊎_elim
                (λ e. subst (λ x. IsWritten (at x) (bytes x) (get_or shelf.opened x []) (get_or (set h.files n w.0) x [])) (sym e)
                (subst (λ f. IsWritten (at n) (bytes n) (get_or shelf.opened n []) f) (sym new_file)
                (subst (λ f. IsWritten (at n) (bytes n) f w.0) (h.left n (omega arith))
                (subst (λ b. IsWritten (at n) b (get_or h.files n []) w.0) is w.1))))
                (λ other. subst (λ f. IsWritten (at k) (bytes k) (get_or shelf.opened k []) f) (sym (get_or-set_other h.files n k w.0 [] other)) (h.done k (omega (arith, below, other)) there))
                (cases_eq k n);
            left = λ k high. get_or-set_other h.files n k w.0 [] (λ e. omega (arith, high, e)) ∙ h.left k (omega (arith, high));
          }

-- there is a file for the next
pub some-there : (n : ℕ) (old now : Option Shelf) (at : ℕ → ℕ) (bytes : ℕ → List ℕ) (count : ℕ) → StoresSome n old now at bytes → IfSome old (λ shelf. length shelf.opened ≡ count) → n < count
    → IfSome now (λ shelf. n < length shelf.opened)
some-there n None now at bytes count h opened low = subst (λ o. IfSome o (λ shelf. n < length shelf.opened)) (sym (h.untold refl)) tt
some-there n (Some shelf) now at bytes count h opened low =
    subst (λ o. IfSome o (λ s. n < length s.opened)) (sym (h.told shelf refl).tells) (omega (arith, (h.told shelf refl).same, opened, low))

-- all are written
pub some-all : (n : ℕ) (old now : Option Shelf) (at : ℕ → ℕ) (bytes : ℕ → List ℕ) (count : ℕ) → StoresSome n old now at bytes → IfSome old (λ shelf. length shelf.opened ≡ count) → n ≡ count
    → Stores old now at bytes
some-all n old now at bytes count h opened e shelf told =
    let so_far : StoresBelow n shelf now at bytes = h.told shelf told in
    let all : length shelf.opened ≡ count = subst (λ o. IfSome o (λ x. length x.opened ≡ count)) told opened in
    record { files = so_far.files; tells = so_far.tells; same = so_far.same; each = λ k low. so_far.done k (omega (arith, low, all, e)) low }

-- as many are open as before
pub open-kept : (old now : Option Shelf) (at : ℕ → ℕ) (bytes : ℕ → List ℕ) (count : ℕ) → Stores old now at bytes → (old ≡ None → now ≡ None) → IfSome old (λ shelf. length shelf.opened ≡ count)
    → IfSome now (λ shelf. length shelf.opened ≡ count)
open-kept None now at bytes count h untold opened = subst (λ o. IfSome o (λ shelf. length shelf.opened ≡ count)) (sym (untold refl)) tt
open-kept (Some shelf) now at bytes count h untold opened = subst (λ o. IfSome o (λ s. length s.opened ≡ count)) (sym (h shelf refl).tells) ((h shelf refl).same ∙ opened)

-- ---- the parts of a device

-- the bytes at a place of a front are those of the front
in_front : (at len : ℕ) (xs ys : List ℕ) → at + len ≤ length xs → take len (drop at (xs ++ ys)) ≡ take len (drop at xs)
in_front at len xs ys low =
    ap (take len) (drop-append-le at xs ys (omega (arith, low))) ∙ take-append-le len (drop at xs) ys (omega (arith, low, length-drop at xs))

module _ (l : Layout) (d : ℕ) (low : d < l.devices) where
  abbrev size_of_stripe : ℕ
  size_of_stripe = stripe_symbols l * l.symbol_bytes

  -- the part ends within its stripe
  pub part-end : d * part_bytes l + part_bytes l ≤ size_of_stripe
  part-end = place_end (part_bytes l) l.devices size_of_stripe d (mul_assoc l.devices l.symbols_per_device l.symbol_bytes) low

  part_low : (n s : ℕ) (body : List ℕ) → length body ≡ n * size_of_stripe → s < n → s * size_of_stripe + d * part_bytes l + part_bytes l ≤ length body
  part_low n s body long below = omega (arith, part-end, place_end size_of_stripe n (length body) s long below)

  -- a part has its bytes
  pub part-length : (n s : ℕ) (body : List ℕ) → length body ≡ n * size_of_stripe → s < n → length (part_in l body s d) ≡ part_bytes l
  part-length n s body long below =
      omega (arith, part_low n s body long below, length-take (part_bytes l) (drop (s * size_of_stripe + d * part_bytes l) body), length-drop (s * size_of_stripe + d * part_bytes l) body)

  -- so many parts have their bytes
  pub text-length : (n m : ℕ) (body : List ℕ) → length body ≡ n * size_of_stripe → m ≤ n → length (device_text l body d m) ≡ m * part_bytes l
  text-length n zero body long few = sym (zero-mul (part_bytes l))
  text-length n (suc m) body long few =
      ap (λ k. length (device_text l body d k)) (sym (add-one m))
      ∙ ap length (flat_map-more (λ s. part_in l body s d) 0 m)
      ∙ omega (arith, length-append (device_text l body d m) (part_in l body (0 + m) d), text-length n m body long (omega (arith, few)), part-length n (0 + m) body long (omega (arith, few)), suc-mul m (part_bytes l))

  -- the stripes so far are the same where more follow
  pub text-front : (n m : ℕ) (body more : List ℕ) → length body ≡ n * size_of_stripe → m ≤ n → device_text l (body ++ more) d m ≡ device_text l body d m
  text-front n zero body more long few = refl
  text-front n (suc m) body more long few =
      ap (λ k. device_text l (body ++ more) d k) (sym (add-one m))
      ∙ flat_map-more (λ s. part_in l (body ++ more) s d) 0 m
      ∙ ap₂ (λ xs ys. xs ++ ys) (text-front n m body more long (omega (arith, few)))
      (in_front ((0 + m) * size_of_stripe + d * part_bytes l) (part_bytes l) body more (part_low n (0 + m) body long (omega (arith, few))))
      ∙ sym (flat_map-more (λ s. part_in l body s d) 0 m)
      ∙ ap (λ k. device_text l body d k) (add-one m)

  -- the next stripe
  next_part : (n : ℕ) (body more : List ℕ) → length body ≡ n * size_of_stripe → part_in l (body ++ more) (0 + n) d ≡ part_in l more 0 d
  next_part n body more long =
      ap (λ k. take (part_bytes l) (drop k (body ++ more))) (omega (arith, long, ap (λ k. k * size_of_stripe) (zero-add n)))
      ∙ ap (take (part_bytes l)) (drop-append-add body more (d * part_bytes l))
      ∙ ap (λ k. take (part_bytes l) (drop k more)) (omega (arith, zero-mul size_of_stripe))

  -- the parts of one stripe more
  pub text-more : (n : ℕ) (body more : List ℕ) → length body ≡ n * size_of_stripe → device_text l (body ++ more) d (n + 1) ≡ device_text l body d n ++ part_in l more 0 d
  text-more n body more long =
      flat_map-more (λ s. part_in l (body ++ more) s d) 0 n ∙ ap₂ (λ xs ys. xs ++ ys) (text-front n n body more long (omega arith)) (next_part n body more long)

  -- one stripe more is written
  pub text-turn : (n first : ℕ) (body more old mid new : List ℕ) → length body ≡ n * size_of_stripe
      → IsWritten (first * part_bytes l) (device_text l body d n) old mid
      → IsWritten ((first + n) * part_bytes l) (part_in l more 0 d) mid new
      → IsWritten (first * part_bytes l) (device_text l (body ++ more) d (n + 1)) old new
  text-turn n first body more old mid new long so_far next =
      subst (λ text. IsWritten (first * part_bytes l) text old new) (sym (text-more n body more long))
      (written-more (first * part_bytes l) ((first + n) * part_bytes l) (device_text l body d n) (part_in l more 0 d) old mid new
      (omega (arith, text-length n n body long (omega arith), add-mul first n (part_bytes l))) so_far next)

-- ---- where they stand

-- a device has at most so many bytes in a stripe
pub part-few : (l : Layout) → IsLayout l → part_bytes l ≤ 2 ^ 23
part-few l h =
    let few : l.devices * l.symbols_per_device ≤ 128 = h.few_symbols in
    let width : l.symbols_per_device ≤ 128 = omega (arith, few, mul-le-mul_right {m = 1} {n = l.devices} l.symbols_per_device h.some_devices) in
    let size : l.symbol_bytes ≤ 65536 = h.few_bytes in
    omega (arith, size, mul-le-mul_right {m = l.symbols_per_device} {n = 128} l.symbol_bytes width)

pub place-few : (x part : ℕ) → x ≤ 2 ^ 33 → part ≤ 2 ^ 23 → x * part ≤ 2 ^ 56
place-few x part low few = omega (arith, few, mul-le-mul_right {m = x} {n = 2 ^ 33} part low)

module _ (l : Layout) (lost stripe : List ℕ) (k from part : ℕ) (few : All (λ d. d < l.devices) lost) (low : k < length lost)
    (e : from ≡ get_or lost k 0) (width : part ≡ part_bytes l) (long : length stripe ≡ stripe_symbols l * l.symbol_bytes) where
  -- the part of a lost device ends within its stripe
  pub piece-end : from * part + part ≤ length stripe
  piece-end =
      subst (λ p. from * p + p ≤ length stripe) (sym width)
      (subst (λ f. f * part_bytes l + part_bytes l ≤ length stripe) (sym e)
      (subst (λ n. get_or lost k 0 * part_bytes l + part_bytes l ≤ n) (sym long)
      (part-end l (get_or lost k 0) (All-get_or (λ d. d < l.devices) lost k 0 low few))))

  pub piece-is : take (from * part + part - from * part) (drop (from * part) stripe) ≡ part_in l stripe 0 (get_or lost k 0)
  piece-is =
      let count : from * part + part - from * part ≡ part = omega arith in
      let at : get_or lost k 0 * part_bytes l ≡ 0 * (stripe_symbols l * l.symbol_bytes) + get_or lost k 0 * part_bytes l = omega (arith, zero-mul (stripe_symbols l * l.symbol_bytes)) in
      ap (λ n. take n (drop (from * part) stripe)) count
      ∙ ap₂ (λ f p. take p (drop (f * p) stripe)) e width
      ∙ ap (λ n. take (part_bytes l) (drop n stripe)) at

  pub piece-some : 0 < part_bytes l → 0 < length (take (from * part + part - from * part) (drop (from * part) stripe))
  piece-some some = omega (arith, some, width, piece-end, length-take (from * part + part - from * part) (drop (from * part) stripe), length-drop (from * part) stripe)

-- a device has some bytes in a stripe
pub part-some : (l : Layout) → IsLayout l → 0 < part_bytes l
part-some l h = omega (arith, h.some_symbols, h.some_bytes, mul-le-mul_right {m = 1} {n = l.symbols_per_device} l.symbol_bytes h.some_symbols)

-- ---- what is left of the source

-- what was left is shorter than the buffer
pub short-left : (left new : Option (List ℕ)) (buf : List ℕ) (n : ℕ) → Consumes left new (take n buf) → IsAtEnd new → n < length buf → ForSome left (λ all. length all < length buf)
short-left None new buf n read ended low all told = absurd (grind (arith, told))
short-left (Some xs) None buf n read ended low all told = absurd read
short-left (Some xs) (Some more) buf n read ended low all told =
    subst (λ o. IfSome o (λ ys. length ys < length buf)) told (omega (arith, ap length read, length-append (take n buf) more, ap length ended, length-take n buf, low))

-- ---- all stripes

module _ (l : Layout) (first : ℕ) (lost : List ℕ) where
  abbrev place_of : ℕ → ℕ
  place_of k = first * part_bytes l

  -- n stripes are read and written
  pub record IsScattered (n : ℕ) (left rest : Option (List ℕ)) (old now : Option Shelf) (a b c d : ℕ) : Type 0 where
    pub body : List ℕ
    pub read : Consumes left rest body
    pub long : length body ≡ n * (stripe_symbols l * l.symbol_bytes)
    pub stored : ForSome old (λ shelf. StoresIn shelf now place_of (λ k. device_text l body (get_or lost k 0) n))
    pub untold : old ≡ None → now ≡ None
    pub source : b ≡ a
    pub device : d ≡ c

  pub scattered-start : (n : ℕ) (left : Option (List ℕ)) (told : Option Shelf) (a c : ℕ) → n ≡ 0 → IsScattered n left left told told a a c c
  scattered-start n left told a c e = record {
    body = [];
    read = consumes_nothing left;
    long = sym (ap (λ k. k * (stripe_symbols l * l.symbol_bytes)) e ∙ zero-mul (stripe_symbols l * l.symbol_bytes));
    stored = λ shelf is. record {
      files = shelf.opened;
      tells = is;
      same = refl;
      each = λ k low. subst (λ m. IsWritten (first * part_bytes l) (device_text l [] (get_or lost k 0) m) (get_or shelf.opened k []) (get_or shelf.opened k [])) (sym e) (written-none (first * part_bytes l) (get_or shelf.opened k []));
    };
    untold = λ none. none;
    source = refl;
    device = refl;
  }

  pub scattered-turn : (n : ℕ) (left rest next : Option (List ℕ)) (old now new : Option Shelf) (a b c d e f : ℕ) (more : List ℕ) → IsScattered n left rest old now a b c d
      → Consumes rest next more → length more ≡ stripe_symbols l * l.symbol_bytes
      → Stores now new (λ k. (first + n) * part_bytes l) (λ k. part_in l more 0 (get_or lost k 0)) → (now ≡ None → new ≡ None)
      → IfSome old (λ shelf. length shelf.opened ≡ length lost) → ((k : ℕ) → k < length lost → get_or lost k 0 < l.devices)
      → e ≡ b → f ≡ d → IsScattered (n + 1) left next old new a e c f
  scattered-turn n left rest next old now new a b c d e f more h reads size stores untold opened few source device = record {
    body = h.body ++ more;
    read = consumes_more left rest next h.body more h.read reads;
    long = omega (arith, length-append h.body more, h.long, size, add-mul n 1 (stripe_symbols l * l.symbol_bytes));
    stored = λ shelf is.
        let so_far : StoresIn shelf now place_of (λ k. device_text l h.body (get_or lost k 0) n) = h.stored shelf is in
        let then : StoresIn (record shelf { opened = so_far.files }) new (λ k. (first + n) * part_bytes l) (λ k. part_in l more 0 (get_or lost k 0)) = stores (record shelf { opened = so_far.files }) so_far.tells in
        let all : length shelf.opened ≡ length lost = subst (λ o. IfSome o (λ x. length x.opened ≡ length lost)) is opened in
        record {
          files = then.files;
          tells = then.tells;
          same = then.same ∙ so_far.same;
          each = λ k low. text-turn l (get_or lost k 0) (few k (omega (arith, low, all))) n first h.body more (get_or shelf.opened k []) (get_or so_far.files k []) (get_or then.files k []) h.long
              (so_far.each k low) (then.each k (omega (arith, low, so_far.same)));
        };
    untold = λ none. untold (h.untold none);
    source = source ∙ h.source;
    device = device ∙ h.device;
  }

  pub scattered-open : (n : ℕ) (left rest : Option (List ℕ)) (old now : Option Shelf) (a b c d : ℕ) → IsScattered n left rest old now a b c d
      → IfSome old (λ shelf. length shelf.opened ≡ length lost) → IfSome now (λ shelf. length shelf.opened ≡ length lost)
  scattered-open n left rest old now a b c d h opened = open-kept old now place_of (λ k. device_text l h.body (get_or lost k 0) n) (length lost) h.stored h.untold opened

  -- what was left is what was read, where nothing is left
  whole_of : (left rest : Option (List ℕ)) (body : List ℕ) → Consumes left rest body → ForSome rest (λ more. more ≡ []) → ForSome left (λ all. all ≡ body)
  whole_of None rest body read ended all told = absurd (grind (arith, told))
  whole_of (Some xs) None body read ended all told = absurd read
  whole_of (Some xs) (Some more) body read ended all told =
      subst (λ o. IfSome o (λ ys. ys ≡ body)) told (read ∙ ap (λ ys. body ++ ys) (ended more refl) ∙ append-nil body)

  short_of : (left rest : Option (List ℕ)) (done body : List ℕ) (n size total : ℕ) → Consumes left rest done → left ≡ Some body → length done ≡ n * size
      → ForSome rest (λ more. length more < size) → n * size + size ≤ total → length body ≡ total → ⊥
  short_of left None done body n size total read told long short fits whole = absurd (subst (λ o. Consumes o None done) told read)
  short_of left (Some more) done body n size total read told long short fits whole =
      let e : body ≡ done ++ more = subst (λ o. Consumes o (Some more) done) told read in
      omega (arith, ap length e, length-append done more, long, short more refl, fits, whole)

  -- too few bytes are left
  pub scattered-short : (n : ℕ) (left rest : Option (List ℕ)) (old now : Option Shelf) (a b c d size : ℕ) → IsScattered n left rest old now a b c d → n < l.stripes
      → size ≡ stripe_symbols l * l.symbol_bytes → ForSome rest (λ more. length more < size) → ForSome left (λ body. length body ≢ body_bytes l)
  scattered-short n left rest old now a b c d size h low e short body told whole =
      short_of left rest h.body body n (stripe_symbols l * l.symbol_bytes) (l.stripes * (stripe_symbols l * l.symbol_bytes)) h.read told h.long
      (subst (λ m. ForSome rest (λ more. length more < m)) e short)
      (place_end (stripe_symbols l * l.symbol_bytes) l.stripes (l.stripes * (stripe_symbols l * l.symbol_bytes)) n refl low)
      (whole ∙ mul_assoc l.stripes (stripe_symbols l) l.symbol_bytes)

  pub scattered-all : (n : ℕ) (left rest : Option (List ℕ)) (old now : Option Shelf) (a b c d : ℕ) → IsScattered n left rest old now a b c d → n ≡ l.stripes
      → ForSome rest (λ more. more ≡ [])
      → ForSome left (λ body. (length body ≡ body_bytes l) × Stores old now place_of (λ k. device_text l body (get_or lost k 0) l.stripes))
  scattered-all n left rest old now a b c d h e ended body told =
      let is : body ≡ h.body = whole_of left rest h.body h.read ended body told in (
        ap length is ∙ h.long ∙ ap (λ k. k * (stripe_symbols l * l.symbol_bytes)) e ∙ sym (mul_assoc l.stripes (stripe_symbols l) l.symbol_bytes),
        subst (λ m. Stores old now place_of (λ k. device_text l body (get_or lost k 0) m)) e
            (subst (λ xs. Stores old now place_of (λ k. device_text l xs (get_or lost k 0) n)) (sym is) h.stored),
      )
