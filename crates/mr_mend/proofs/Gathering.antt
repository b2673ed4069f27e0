-- Text that is gathered in a buffer, and put where the buffer is full.
use Rattle.std.proofs.Common.{◌≡◌, ℕ, ◌+◌, ◌≤◌, List, [], ◌++◌, take, drop, length, refl, sym, ap, subst, ◌∙◌, arith}
use Rattle.std.specs.Prelude.{Option, Result}
use Rattle.std.proofs.Math.Seq.{take-append-add}
use Rattle.std.proofs.lemmas.List.{append_assoc, length-append, length-take-le, take-append-le}
use borrow.Rule.Slice.PartMut.{put_mid}
use Rattle.mr_io.specs.Taking.{Held, Takes, TakesPart, Puts}
use Rattle.mr_io.proofs.Taking.{takes_nothing, takes_more, part_more, part_after, puts_then}
use Rattle.mr_mend.specs.Replies.{PutsFront}

-- the text so far: a front of it is put, and the rest stands in front of the buffer
pub record IsGathering (old now : Option Held) (before after : ℕ) (buffer : List ℕ) (gathered : ℕ) (text : List ℕ) : Type 0 where
  pub within : gathered ≤ length buffer
  pub front : List ℕ
  pub parts : text ≡ front ++ take gathered buffer
  pub taken : Takes old now front
  pub quiet : after ≡ before

pub gathering-start : (sink : Option Held) (faults : ℕ) (buffer : List ℕ) → IsGathering sink sink faults faults buffer 0 []
gathering-start sink faults buffer = record { within = omega arith; front = []; parts = refl; taken = takes_nothing sink; quiet = refl }

-- what stands in front of a buffer after more was written behind its front
take-written : (buffer piece : List ℕ) (from width count : ℕ) → from ≤ length buffer → count ≤ length piece
    → take (from + count) (put_mid from width buffer piece) ≡ take from buffer ++ take count piece
take-written buffer piece from width count within few =
    let behind : List ℕ = piece ++ drop width (drop from buffer) in
    ap (λ n. take (n + count) (take from buffer ++ behind)) (sym (length-take-le from buffer within))
    ∙ take-append-add (take from buffer) behind count
    ∙ ap (λ xs. take from buffer ++ xs) (take-append-le count piece (drop width (drop from buffer)) few)

module _ (a b c : Option Held) (f g h : ℕ) (buffer : List ℕ) (gathered : ℕ) (text : List ℕ) (so_far : IsGathering a b f g buffer gathered text) where
  -- a line more, behind what is left in the buffer
  pub gathering-turn : (left width count : ℕ) (piece line : List ℕ) → PutsFront b c (take gathered buffer) (take left buffer) → h ≡ g
      → left ≤ length buffer → count ≤ length piece → take count piece ≡ line
      → IsGathering a c f h (put_mid left width buffer piece) (left + count) (text ++ line)
  gathering-turn left width count piece line put quiet within few is =
      let behind : List ℕ = piece ++ drop width (drop left buffer) in
      record {
        within = omega (arith, few, length-append (take left buffer) behind, length-append piece (drop width (drop left buffer)), length-take-le left buffer within);
        front = so_far.front ++ put.front;
        parts =
            ap (λ xs. xs ++ line) (so_far.parts ∙ ap (λ xs. so_far.front ++ xs) put.parts ∙ sym (append_assoc so_far.front put.front (take left buffer)))
            ∙ append_assoc (so_far.front ++ put.front) (take left buffer) line
            ∙ ap (λ xs. (so_far.front ++ put.front) ++ xs)
            (ap (λ xs. take left buffer ++ xs) (sym is) ∙ sym (take-written buffer piece left width count within few));
        taken = takes_more a b c so_far.front put.front so_far.taken put.taken;
        quiet = quiet ∙ so_far.quiet;
      }

  -- what is gathered is put in part, and more of the text was to come
  pub gathering-cut : (rest : List ℕ) → TakesPart b c (take gathered buffer) → TakesPart a c (text ++ rest)
  gathering-cut rest cut =
      part_after a c text rest
      (subst (λ xs. TakesPart a c xs) (sym so_far.parts) (part_more a b c so_far.front (take gathered buffer) so_far.taken cut))

  -- what is gathered is put at the end
  pub gathering-end : {T E : Type 0} (result : Result T E) → Puts b c result (take gathered buffer) → Puts a c result text
  gathering-end result puts =
      subst (λ xs. Puts a c result xs) (sym so_far.parts) (puts_then a b c result so_far.front (take gathered buffer) so_far.taken puts)
