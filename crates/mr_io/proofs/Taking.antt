-- How the bytes that a sink took add up over several puts.
use Rattle.std.proofs.Common.{add-one, flat_map, get_or, ◌≡◌, ℕ, ◌+◌, ◌-◌, ◌<◌, ◌≤◌, List, [], ◌∷◌, ◌++◌, length, take, drop, Some, arith, ap, sym, ◌∙◌, subst}
use Rattle.std.specs.Prelude.{Option, IsErr, Result, Ok, Err}
use Rattle.std.proofs.lemmas.List.{append_assoc, append-nil, length-append, take-append-le, take-append-drop, take-take, take_more, take_rest, drop-take, take_all}
use Rattle.std.proofs.Math.Seq.{drop-cons, take-append-add}
use Rattle.std.proofs.lemmas.Grind.{flat_map-append}
use Rattle.mr_io.specs.Taking.{Held, held_with, Takes, TakesPart, Puts}

same_held : (bytes more : List ℕ) (room less : ℕ) → bytes ≡ more → room ≡ less
    → ◌≡◌ {A = Held} (record { bytes = bytes; room = room }) (record { bytes = more; room = less })
same_held bytes more room less e f = cc

held_with-nil : (held : Held) → held ≡ held_with held []
held_with-nil held = same_held _ _ _ _ (sym (append-nil held.bytes)) (omega arith)

held_with-append : (held : Held) (xs ys : List ℕ) → held_with (held_with held xs) ys ≡ held_with held (xs ++ ys)
held_with-append held xs ys = same_held _ _ _ _ (append_assoc held.bytes xs ys) (omega (arith, length-append xs ys))

-- Where nothing was put, nothing was taken.
pub takes_nothing : (held : Option Held) → Takes held held []
takes_nothing held = record { told = λ h e _. e ∙ ap Some (held_with-nil h) }

-- What two puts took, one after the other.
pub takes_more : (a b c : Option Held) (xs ys : List ℕ) → Takes a b xs → Takes b c ys → Takes a c (xs ++ ys)
takes_more a b c xs ys first then = record {
  told = λ h e room.
      then.told (held_with h xs) (first.told h e (omega (arith, length-append xs ys))) (omega (arith, length-append xs ys))
      ∙ ap Some (held_with-append h xs ys);
}

take_more_front : (bytes : List ℕ) (done n : ℕ) → take done bytes ++ take n (drop done bytes) ≡ take (done + n) bytes
take_more_front bytes done n =
    rw (← take-take done (done + n) bytes (omega arith), ← drop-take done n bytes) (take-append-drop done (take (done + n) bytes))

-- The next put of a text that is put from an offset on.
pub takes_next : (a b c : Option Held) (bytes : List ℕ) (done n : ℕ)
    → Takes a b (take done bytes) → Takes b c (take n (drop done bytes)) → Takes a c (take (done + n) bytes)
takes_next a b c bytes done n first then =
    subst (λ xs. Takes a c xs) (take_more_front bytes done n) (takes_more a b c _ _ first then)

-- The next put, where the rest of the text is written as a range up to its length.
pub takes_next_range : (a b c : Option Held) (bytes : List ℕ) (done n : ℕ)
    → Takes a b (take done bytes) → Takes b c (take n (take (length bytes - done) (drop done bytes))) → Takes a c (take (done + n) bytes)
takes_next_range a b c bytes done n first then =
    takes_next a b c bytes done n first (subst (λ xs. Takes b c (take n xs)) (take_rest bytes done) then)

-- All is taken where the front is as long as the whole.
pub takes_all : (a b : Option Held) (bytes : List ℕ) (done : ℕ) → length bytes ≤ done → Takes a b (take done bytes) → Takes a b bytes
takes_all a b bytes done h taken = subst (λ xs. Takes a b xs) (take_all done bytes h) taken

-- A put that took nothing leaves a front that is not all.
pub part_here : (a b c : Option Held) (bytes : List ℕ) (done : ℕ) → done < length bytes
    → Takes a b (take done bytes) → Takes b c [] → TakesPart a c bytes
part_here a b c bytes done h first none =
    (done, h, subst (λ xs. Takes a c xs) (append-nil (take done bytes)) (takes_more a b c _ [] first none))

-- A part of the second text, after all of the first.
pub part_more : (a b c : Option Held) (xs ys : List ℕ) → Takes a b xs → TakesPart b c ys → TakesPart a c (xs ++ ys)
part_more a b c xs ys first then = (
  length xs + then.0,
  omega (arith, length-append xs ys),
  subst (λ zs. Takes a c zs) (sym (take-append-add xs ys then.0)) (takes_more a b c _ _ first then.2),
)

-- A part of the first text is a part of both.
pub part_after : (a b : Option Held) (xs ys : List ℕ) → TakesPart a b xs → TakesPart a b (xs ++ ys)
part_after a b xs ys part = (
  part.0,
  omega (arith, length-append xs ys),
  subst (λ zs. Takes a b zs) (sym (take-append-le part.0 xs ys (omega arith))) part.2,
)

-- A call that fails with a part of the text taken.
pub puts_err : {T E : Type 0} (a b : Option Held) (result : Result T E) (bytes : List ℕ)
    → IsErr result → TakesPart a b bytes → Puts a b result bytes
puts_err a b (Ok value) bytes failed part = absurd (grind arith)
puts_err a b (Err error) bytes failed part = record { ok = tt; err = part }

-- A call that puts the second text, after one that put the first.
pub puts_then : {T E : Type 0} (a b c : Option Held) (result : Result T E) (xs ys : List ℕ)
    → Takes a b xs → Puts b c result ys → Puts a c result (xs ++ ys)
puts_then a b c (Ok value) xs ys first then = record { ok = takes_more a b c xs ys first then.ok; err = tt }
puts_then a b c (Err error) xs ys first then = record { ok = tt; err = part_more a b c xs ys first then.err }

-- The text at an index, between those before it and those after it.
flat_map-at : {X : Type 0} (f : X → List ℕ) (xs : List X) (i : ℕ) (x : X) → i < length xs
    → flat_map f (take i xs) ++ f (get_or xs i x) ++ flat_map f (drop (i + 1) xs) ≡ flat_map f xs
flat_map-at f xs i x h =
    append_assoc (flat_map f (take i xs)) (f (get_or xs i x)) (flat_map f (drop (i + 1) xs))
    ∙ ap (λ bytes. flat_map f (take i xs) ++ bytes)
    (ap (λ n. f (get_or xs i x) ++ flat_map f (drop n xs)) (add-one i) ∙ sym (ap (flat_map f) (drop-cons xs i x h)))
    ∙ sym (flat_map-append f (take i xs) (drop i xs))
    ∙ ap (flat_map f) (take-append-drop i xs)

-- The texts before an index, and the one there.
pub flat_map-take : {X : Type 0} (f : X → List ℕ) (xs : List X) (i : ℕ) (x : X) → i < length xs
    → flat_map f (take i xs) ++ f (get_or xs i x) ≡ flat_map f (take (i + 1) xs)
flat_map-take f xs i x h =
    ap (λ bytes. flat_map f (take i xs) ++ bytes) (sym (append-nil (f (get_or xs i x))))
    ∙ sym (flat_map-append f (take i xs) (get_or xs i x ∷ []))
    ∙ sym (ap (flat_map f) (take_more xs i x h))

-- Texts that are put one after the other: the next one.
pub takes_piece : {X : Type 0} (f : X → List ℕ) (a b c : Option Held) (xs : List X) (i : ℕ) (x : X) → i < length xs
    → Takes a b (flat_map f (take i xs)) → Takes b c (f (get_or xs i x)) → Takes a c (flat_map f (take (i + 1) xs))
takes_piece f a b c xs i x h first then =
    subst (λ bytes. Takes a c bytes) (flat_map-take f xs i x h) (takes_more a b c _ _ first then)

-- Texts that are put one after the other, where the next one stops within.
pub part_piece : {X : Type 0} (f : X → List ℕ) (a b c : Option Held) (xs : List X) (i : ℕ) (x : X) → i < length xs
    → Takes a b (flat_map f (take i xs)) → TakesPart b c (f (get_or xs i x)) → TakesPart a c (flat_map f xs)
part_piece f a b c xs i x h first then =
    subst (λ bytes. TakesPart a c bytes) (flat_map-at f xs i x h) (part_after a c _ _ (part_more a b c _ _ first then))
