-- Bytes that are written at a place, byte by byte.
use Rattle.std.proofs.Common.{◌≡◌, cond, ℕ, add-one, suc, ◌+◌, ◌-◌, ◌<◌, ◌≤◌, ◌⊎◌, ⊎_elim, List, [], ◌∷◌, ◌++◌, take, drop, get_or, length, map, max, replicate, set, Some, refl, sym, ap, subst, ◌∙◌, arith, length-append, length-take, length-drop}
use Rattle.std.specs.Prelude.{IfSome, Vec, Result, OnOk, OnErr, Ok, Err}
use Rattle.std.specs.Global.{Global}
use Rattle.std.proofs.Math.Seq.{get_or-append_right, map-set_same}
use Rattle.std.proofs.Math.ListN.{get_or-append, get_or-eq_default}
use Rattle.std.proofs.lemmas.List.{get_or-take, get_or-drop, get_or-map, get_or-replicate, set-get_or, length-replicate, map-set}
use Rattle.std.proofs.lemmas.Grind.{common_steps}
use Rattle.std.specs.Prelude.{bytes_eq}
use Rattle.std.proofs.Math.Seq.{drop-cons}
use Rattle.mr_io.specs.FilesStates.{file_of}
use Rattle.mr_devices.specs.Writing.{IsWritten, Shelf, Writes, WritesPart}

lt_or_le : (a b : ℕ) → (a < b) ⊎ (b ≤ a)
lt_or_le a b = grind arith

zeros-at : (n i : ℕ) → ◌≡◌ {A = ℕ} (get_or {A = ℕ} (replicate {A = ℕ} n 0) i 0) 0
zeros-at n i = ⊎_elim
    (λ low. let zero_byte : ℕ = 0 in get_or-replicate {A = ℕ} n i zero_byte zero_byte low)
    (λ high. get_or-eq_default (replicate {A = ℕ} n 0) 0 (subst (λ k. k ≤ i) (sym (length-replicate {A = ℕ} n 0)) high))
    (lt_or_le i n)

-- zero bytes behind a file change no byte of it
pub get_or-zeros : (old : List ℕ) (n p : ℕ) → get_or (old ++ replicate n 0) p 0 ≡ get_or old p 0
get_or-zeros old n p = ⊎_elim
    (λ low. get_or-append old (replicate n 0) 0 p low)
    (λ high. get_or-append_right old (replicate n 0) p 0 high ∙ zeros-at n (p - length old) ∙ sym (get_or-eq_default old 0 high))
    (lt_or_le p (length old))

-- the bytes stand at the place of a file that is long enough
module _ (at : ℕ) (bytes old grown : List ℕ) (some : 0 < length bytes) (long : length grown ≡ max (length old) (at + length bytes))
    (same : (p : ℕ) → get_or grown p 0 ≡ get_or old p 0) where
  front : length (take at grown) ≡ at
  front = omega (arith, long, length-take at grown)

  inside_is : (p : ℕ) → p < length bytes → get_or (take at grown ++ (bytes ++ drop (at + length bytes) grown)) (at + p) 0 ≡ get_or bytes p 0
  inside_is p low =
      get_or-append_right (take at grown) (bytes ++ drop (at + length bytes) grown) (at + p) 0 (omega (arith, front))
      ∙ ap (λ n. get_or (bytes ++ drop (at + length bytes) grown) n 0) (omega (arith, front))
      ∙ get_or-append bytes (drop (at + length bytes) grown) 0 p low

  before_is : (p : ℕ) → p < at → get_or (take at grown ++ (bytes ++ drop (at + length bytes) grown)) p 0 ≡ get_or old p 0
  before_is p low =
      get_or-append (take at grown) (bytes ++ drop (at + length bytes) grown) 0 p (omega (arith, front, low))
      ∙ get_or-take at grown p 0 low
      ∙ same p

  behind_is : (p : ℕ) → at + length bytes ≤ p → get_or (take at grown ++ (bytes ++ drop (at + length bytes) grown)) p 0 ≡ get_or old p 0
  behind_is p high =
      get_or-append_right (take at grown) (bytes ++ drop (at + length bytes) grown) p 0 (omega (arith, front, high))
      ∙ get_or-append_right bytes (drop (at + length bytes) grown) (p - length (take at grown)) 0 (omega (arith, front, high))
      ∙ get_or-drop (at + length bytes) grown (p - length (take at grown) - length bytes) 0
      ∙ ap (λ n. get_or grown n 0) (omega (arith, front, high))
      ∙ same p

  pub written-is : IsWritten at bytes old (take at grown ++ (bytes ++ drop (at + length bytes) grown))
  written-is = record {
    inside = inside_is;
    outside = λ p out. ⊎_elim (before_is p) (behind_is p) out;
    grown = λ _. omega (arith, front, long, length-append (take at grown) (bytes ++ drop (at + length bytes) grown), length-append bytes (drop (at + length bytes) grown), length-drop (at + length bytes) grown);
    none = λ e. absurd (omega (arith, e, some));
  }

-- nothing was written
pub written-none : (at : ℕ) (old : List ℕ) → IsWritten at [] old old
written-none at old = record {
  inside = λ p low. omega (arith, low);
  outside = λ p out. refl;
  grown = λ some. omega (arith, some);
  none = λ e. refl;
}

pub part-none : (shelf new : Shelf) (number at : ℕ) (bytes : List ℕ) → 0 < length bytes → new ≡ shelf → WritesPart (Some shelf) (Some new) number at bytes
part-none shelf new number at bytes some e = (
  0,
  some,
  record {
    told = λ s told. (
      get_or s.opened number [],
      written-none at (get_or s.opened number []),
      ap Some e ∙ told ∙ ap (λ files. Some (record s { opened = files })) (sym (set-get_or s.opened number [])),
    );
  },
)

pub writes-is : (shelf new : Shelf) (number at : ℕ) (bytes file : List ℕ) → IsWritten at bytes (get_or shelf.opened number []) file
    → new ≡ record shelf { opened = set shelf.opened number file } → Writes (Some shelf) (Some new) number at bytes
writes-is shelf new number at bytes file h e = record {
  told = λ s told. subst (λ p. IfSome p (λ x. (f : List ℕ) × IsWritten at bytes (get_or x.opened number []) f × (Some new ≡ Some (record x { opened = set x.opened number f })))) told
      (file, h, ap Some e);
}

pub same_shelf : (a b : List ℕ → List ℕ) (xs ys : List (List ℕ)) → a ≡ b → xs ≡ ys
    → ◌≡◌ {A = Shelf} (record { contents = a; opened = xs }) (record { contents = b; opened = ys })
same_shelf a b xs ys e f = cc

-- one of several files is written
pub written-one : (files : List (Vec ℕ Global)) (v w : Vec ℕ Global) (number at : ℕ) (bytes : List ℕ) → number < length files
    → IsWritten at bytes (get_or files number v).items w.items
    → (file : List ℕ) × IsWritten at bytes (get_or (map (λ (f : Vec ℕ Global). f.items) files) number []) file
    × (map (λ (f : Vec ℕ Global). f.items) (set files number w) ≡ set (map (λ (f : Vec ℕ Global). f.items) files) number file)
written-one files v w number at bytes low h = (
  w.items,
  subst (λ xs. IsWritten at bytes xs w.items) (sym (get_or-map (λ (f : Vec ℕ Global). f.items) files number v [] low)) h,
  map-set (λ (f : Vec ℕ Global). f.items) files number w,
)

-- the look-up of a file from an index on
pub file-step : (xs : List (List ℕ × Vec ℕ Global)) (i : ℕ) (x : List ℕ × Vec ℕ Global) (name : List ℕ) → i < length xs → x ≡ get_or xs i x
    → file_of (map (λ (f : List ℕ × Vec ℕ Global). (f.0, f.1.items)) (drop i xs)) name
    ≡ cond (bytes_eq x.0 name) (Some x.1.items) (file_of (map (λ (f : List ℕ × Vec ℕ Global). (f.0, f.1.items)) (drop (i + 1) xs)) name)
file-step xs i x name h e =
    ap (λ ys. file_of (map (λ (f : List ℕ × Vec ℕ Global). (f.0, f.1.items)) ys) name) (drop-cons xs i x h ∙ ap (λ y. y ∷ drop (suc i) xs) (sym e))
    ∙ ap (λ n. cond (bytes_eq x.0 name) (Some x.1.items) (file_of (map (λ (f : List ℕ × Vec ℕ Global). (f.0, f.1.items)) (drop n xs)) name)) (sym (add-one i))
