-- Where scattering stops: the fronts that are written, and the stripes that are whole.
use Rattle.std.proofs.Common.{◌≡◌, ℕ, ◌+◌, ◌*◌, ◌/◌, ◌<◌, ◌≤◌, ⊎_elim, List, [], ◌++◌, length, take, get_or, set, sym, ap, subst, ◌∙◌, refl, arith, length-append}
use Rattle.std.specs.Prelude.{◌≢◌, OnErr, Result, Ok, Err, Option, None, Some, IfSome}
use Rattle.std.specs.Option.{ForSome}
use Rattle.std.specs.Io.KnownBytes.{Consumes}
use Rattle.std.proofs.Math.Nat.{add-mul, mul_assoc, mul-le-mul_right, div-eq_of_lt-le, min-eq_left, min-eq_right}
use Rattle.std.proofs.Math.Seq.{take-append-add, take-length}
use Rattle.std.proofs.lemmas.Bool.{cases_eq, cases_lt}
use Rattle.std.proofs.lemmas.List.{get_or-set_same, get_or-set_other, length-set}
use Rattle.std.proofs.lemmas.Nat.{le-div}
use Rattle.mr_image.specs.Images.{Layout, IsLayout, body_bytes, stripe_symbols}
use Rattle.mr_devices.specs.Places.{part_bytes}
use Rattle.mr_devices.specs.Writing.{IsWritten, Shelf, WritesPart}
use Rattle.mr_devices.proofs.WriteLaws.{written-none}
use Rattle.mr_io.proofs.Consuming.{consumes_more}
use Rattle.mr_scatter.specs.Parts.{StoresIn, Stores, StoresFrontIn, StoresFront, device_text, part_in, whole_stripes}
use Rattle.mr_scatter.proofs.PartLaws.{IsScattered, StoresBelow, StoresSome, text-length, text-front, text-more, written-more}

-- what holds in any case holds where the result is a refusal
pub on-err : {T E : Type 0} {P : Type 0} (result : Result T E) → P → OnErr result P
on-err (Ok x) h = tt
on-err (Err e) h = h

zero-le : {n : ℕ} → 0 ≤ n
zero-le = omega arith

-- ---- the files of a stripe

module _ (n : ℕ) (old now next : Option Shelf) (at : ℕ → ℕ) (bytes : ℕ → List ℕ) (piece : List ℕ) (so_far : StoresSome n old now at bytes)
    (writes : WritesPart now next n (at n) piece) (is : piece ≡ bytes n) (count : ℕ) (opened : IfSome old (λ shelf. length shelf.opened ≡ count)) (low : n < count) where
  -- the next file has a front of its bytes, those before it have all, and the others none
  pub some-part : StoresFront 0 old next at bytes
  some-part = λ shelf told. front-in shelf told
    where
      front-in : (shelf : Shelf) → old ≡ Some shelf → StoresFrontIn 0 shelf next at bytes
      front-in shelf told =
          let h : StoresBelow n shelf now at bytes = so_far.told shelf told in
          let w : (file : List ℕ) × IsWritten (at n) (take writes.0 piece) (get_or h.files n []) file × (next ≡ Some (record shelf { opened = set h.files n file })) = writes.2.told (record shelf { opened = h.files }) h.tells in
          let all : length shelf.opened ≡ count = subst (λ o. IfSome o (λ x. length x.opened ≡ count)) told opened in
          let here : n < length h.files = omega (arith, low, all, h.same) in
          let new_file : get_or (set h.files n w.0) n [] ≡ w.0 = get_or-set_same h.files n w.0 [] here in
          let keeps : (k : ℕ) → k ≢ n → get_or (set h.files n w.0) k [] ≡ get_or h.files k [] = λ k other. get_or-set_other h.files n k w.0 [] other in
          record {
            files = set h.files n w.0;
            tells = w.2;
            same = length-set h.files n w.0 ∙ h.same;
            each = λ k there. ⊎_elim
                (λ e. (
                  writes.0,
                  zero-le,
                  subst (λ x. IsWritten (at x) (take writes.0 (bytes x)) (get_or shelf.opened x []) (get_or (set h.files n w.0) x [])) (sym e)
                      (subst (λ f. IsWritten (at n) (take writes.0 (bytes n)) (get_or shelf.opened n []) f) (sym new_file)
                      (subst (λ f. IsWritten (at n) (take writes.0 (bytes n)) f w.0) (h.left n (omega arith))
                      (subst (λ b. IsWritten (at n) (take writes.0 b) (get_or h.files n []) w.0) is w.1))),
                ))
                (λ other. ⊎_elim
                (λ below. (
                  length (bytes k),
                  zero-le,
                  subst (λ b. IsWritten (at k) b (get_or shelf.opened k []) (get_or (set h.files n w.0) k [])) (sym (take-length (bytes k)))
                      (subst (λ f. IsWritten (at k) (bytes k) (get_or shelf.opened k []) f) (sym (keeps k other)) (h.done k below there)),
                ))
                (λ above. (
                  0,
                  zero-le,
                  subst (λ f. IsWritten (at k) [] (get_or shelf.opened k []) f) (sym (keeps k other ∙ h.left k above)) (written-none (at k) (get_or shelf.opened k [])),
                ))
                (cases_lt k n))
                (cases_eq k n);
          }

-- ---- all stripes

module _ (l : Layout) (first : ℕ) (lost : List ℕ) where
  abbrev place_of : ℕ → ℕ
  place_of k = first * part_bytes l

  abbrev size_of_stripe : ℕ
  size_of_stripe = stripe_symbols l * l.symbol_bytes

  -- what was left begins with what was read
  pub front_of : (left rest : Option (List ℕ)) (done body : List ℕ) → Consumes left rest done → left ≡ Some body → (more : List ℕ) × (body ≡ done ++ more) × (rest ≡ Some more)
  front_of left None done body read told = absurd (subst (λ o. Consumes o None done) told read)
  front_of left (Some more) done body read told = (more, subst (λ o. Consumes o (Some more) done) told read, refl)

  module _ (n : ℕ) (left rest : Option (List ℕ)) (old now : Option Shelf) (a b c d : ℕ) (h : IsScattered l first lost n left rest old now a b c d)
      (opened : IfSome old (λ shelf. length shelf.opened ≡ length lost)) (few : (k : ℕ) → k < length lost → get_or lost k 0 < l.devices) where
    many : (shelf : Shelf) → old ≡ Some shelf → length shelf.opened ≡ length lost
    many shelf told = subst (λ o. IfSome o (λ x. length x.opened ≡ length lost)) told opened

    -- the stripes so far stand in the files
    pub scattered-kept : (new : Option Shelf) → new ≡ now → ForSome left (λ body. Stores old new place_of (λ k. device_text l body (get_or lost k 0) n))
    scattered-kept new e body told shelf is =
        let more : (rest_of : List ℕ) × (body ≡ h.body ++ rest_of) × (rest ≡ Some rest_of) = front_of left rest h.body body h.read told in
        let so_far : StoresIn shelf now place_of (λ k. device_text l h.body (get_or lost k 0) n) = h.stored shelf is in
        record {
          files = so_far.files;
          tells = e ∙ so_far.tells;
          same = so_far.same;
          each = λ k low. subst (λ text. IsWritten (first * part_bytes l) text (get_or shelf.opened k []) (get_or so_far.files k []))
              (sym (ap (λ xs. device_text l xs (get_or lost k 0) n) more.1 ∙ text-front l (get_or lost k 0) (few k (omega (arith, low, many shelf is))) n n h.body more.0 h.long (omega arith)))
              (so_far.each k low);
        }

    -- the next stripe is read, and a front of each of its parts is written
    pub scattered-front : (next : Option (List ℕ)) (new : Option Shelf) (more : List ℕ) → Consumes rest next more → length more ≡ size_of_stripe
        → StoresFront 0 now new (λ k. (first + n) * part_bytes l) (λ k. part_in l more 0 (get_or lost k 0))
        → ForSome left (λ body. StoresFront (n * part_bytes l) old new place_of (λ k. device_text l body (get_or lost k 0) (n + 1)))
    scattered-front next new more reads size front body told shelf is =
        let read : Consumes left next (h.body ++ more) = consumes_more left rest next h.body more h.read reads in
        let then : (rest_of : List ℕ) × (body ≡ (h.body ++ more) ++ rest_of) × (next ≡ Some rest_of) = front_of left next (h.body ++ more) body read told in
        let so_far : StoresIn shelf now place_of (λ k. device_text l h.body (get_or lost k 0) n) = h.stored shelf is in
        let fronts : StoresFrontIn 0 (record shelf { opened = so_far.files }) new (λ k. (first + n) * part_bytes l) (λ k. part_in l more 0 (get_or lost k 0)) = front (record shelf { opened = so_far.files }) so_far.tells in
        record {
          files = fronts.files;
          tells = fronts.tells;
          same = fronts.same ∙ so_far.same;
          each = λ k low.
              let part : (count : ℕ) × (0 ≤ count) × IsWritten ((first + n) * part_bytes l) (take count (part_in l more 0 (get_or lost k 0))) (get_or so_far.files k []) (get_or fronts.files k []) = fronts.each k (omega (arith, low, so_far.same)) in
              one_front k (few k (omega (arith, low, many shelf is))) body more then.0 then.1 size (get_or shelf.opened k []) (get_or so_far.files k []) (get_or fronts.files k []) (so_far.each k low) part.0 part.2;
        }
      where
        one_front : (k : ℕ) → get_or lost k 0 < l.devices → (body more behind : List ℕ) → body ≡ (h.body ++ more) ++ behind → length more ≡ size_of_stripe → (old mid new : List ℕ)
            → IsWritten (first * part_bytes l) (device_text l h.body (get_or lost k 0) n) old mid → (count : ℕ)
            → IsWritten ((first + n) * part_bytes l) (take count (part_in l more 0 (get_or lost k 0))) mid new
            → (whole : ℕ) × (n * part_bytes l ≤ whole) × IsWritten (first * part_bytes l) (take whole (device_text l body (get_or lost k 0) (n + 1))) old new
        one_front k inside body more behind e size old mid new so_far count then =
            let width : length (device_text l h.body (get_or lost k 0) n) ≡ n * part_bytes l = text-length l (get_or lost k 0) inside n n h.body h.long (omega arith) in
            let long : length (h.body ++ more) ≡ (n + 1) * size_of_stripe = omega (arith, length-append h.body more, h.long, size, add-mul n 1 size_of_stripe) in
            let text : device_text l body (get_or lost k 0) (n + 1) ≡ device_text l h.body (get_or lost k 0) n ++ part_in l more 0 (get_or lost k 0) =
            ap (λ xs. device_text l xs (get_or lost k 0) (n + 1)) e ∙ text-front l (get_or lost k 0) inside (n + 1) (n + 1) (h.body ++ more) behind long (omega arith)
            ∙ text-more l (get_or lost k 0) inside n h.body more h.long in (
              n * part_bytes l + count,
              omega arith,
              subst (λ bytes. IsWritten (first * part_bytes l) bytes old new)
                  (sym (ap (take (n * part_bytes l + count)) text ∙ ap (λ m. take (m + count) (device_text l h.body (get_or lost k 0) n ++ part_in l more 0 (get_or lost k 0))) (sym width)
                  ∙ take-append-add (device_text l h.body (get_or lost k 0) n) (part_in l more 0 (get_or lost k 0)) count))
                  (written-more (first * part_bytes l) ((first + n) * part_bytes l) (device_text l h.body (get_or lost k 0) n) (take count (part_in l more 0 (get_or lost k 0))) old mid new
                  (omega (arith, width, add-mul first n (part_bytes l))) so_far then),
            )

  -- the stripes that are whole, where fewer bytes are left than the next one has
  whole-short : (n count : ℕ) → n < l.stripes → n * size_of_stripe ≤ count → count < n * size_of_stripe + size_of_stripe → n ≡ whole_stripes l count
  whole-short n count low least most =
      let div : count / size_of_stripe ≡ n = div-eq_of_lt-le {k = n} size_of_stripe {m = count} least (omega (arith, most, add-mul n 1 size_of_stripe)) in
      sym (min-eq_right {n = count / size_of_stripe} {m = l.stripes} (omega (arith, div, low)) ∙ div)

  -- and where bytes follow the last one
  whole-long : (n count : ℕ) → n ≡ l.stripes → n * size_of_stripe ≤ count → 0 < size_of_stripe → n ≡ whole_stripes l count
  whole-long n count e least some =
      let div : n ≤ count / size_of_stripe = le-div n count size_of_stripe some least in
      e ∙ sym (min-eq_left {n = l.stripes} {m = count / size_of_stripe} (omega (arith, div, e)))

  -- too few bytes are left
  pub stopped-short : (n : ℕ) (left rest : Option (List ℕ)) (old now : Option Shelf) (a b c d size : ℕ) → IsScattered l first lost n left rest old now a b c d → n < l.stripes
      → size ≡ size_of_stripe → ForSome rest (λ more. length more < size) → ForSome left (λ body. n ≡ whole_stripes l (length body))
  stopped-short n left rest old now a b c d size h low e short body told =
      let more : (rest_of : List ℕ) × (body ≡ h.body ++ rest_of) × (rest ≡ Some rest_of) = front_of left rest h.body body h.read told in
      let few : length more.0 < size = short more.0 more.2 in
      whole-short n (length body) low (omega (arith, ap length more.1, length-append h.body more.0, h.long)) (omega (arith, ap length more.1, length-append h.body more.0, h.long, few, e))

  -- bytes follow
  pub stopped-long : (n : ℕ) (left rest : Option (List ℕ)) (old now : Option Shelf) (a b c d : ℕ) → IsScattered l first lost n left rest old now a b c d → n ≡ l.stripes
      → 0 < size_of_stripe → ForSome rest (λ more. 0 < length more) → ForSome left (λ body. (length body ≢ body_bytes l) × (n ≡ whole_stripes l (length body)))
  stopped-long n left rest old now a b c d h e some follows body told =
      let more : (rest_of : List ℕ) × (body ≡ h.body ++ rest_of) × (rest ≡ Some rest_of) = front_of left rest h.body body h.read told in
      let long : 0 < length more.0 = follows more.0 more.2 in
      let count : length body ≡ n * size_of_stripe + length more.0 = omega (arith, ap length more.1, length-append h.body more.0, h.long) in (
        λ whole. omega (arith, whole, count, long, ap (λ k. k * size_of_stripe) e, mul_assoc l.stripes (stripe_symbols l) l.symbol_bytes),
        whole-long n (length body) e (omega (arith, count)) some,
      )

-- a stripe has some bytes
pub stripe-some : (l : Layout) → IsLayout l → 0 < stripe_symbols l * l.symbol_bytes
stripe-some l h =
    let symbols : 1 * l.symbols_per_device ≤ stripe_symbols l = mul-le-mul_right {m = 1} {n = l.devices} l.symbols_per_device h.some_devices in
    let many : 1 ≤ stripe_symbols l = omega (arith, symbols, h.some_symbols) in
    omega (arith, h.some_bytes, mul-le-mul_right {m = 1} {n = stripe_symbols l} l.symbol_bytes many)
