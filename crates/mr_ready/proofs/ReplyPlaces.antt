-- The replies are put one after another in the order of the reads.
use Rattle.std.proofs.Common.{◌≡◌, ℕ, zero, suc, ◌+◌, ◌*◌, ◌/◌, ◌%◌, ◌<◌, ◌≤◌, ⊎_elim, inl, List, [], ◌∷◌, take, drop, length, get_or, All, Any, Option, IfSome, sym, ap, ap₂, subst, ◌∙◌, arith}
use Rattle.std.proofs.Math.Nat.{mul-le-mul_right}
use Rattle.std.proofs.lemmas.Bool.{cases_eq}
use Rattle.std.proofs.lemmas.List.{drop-drop}
use Rattle.std.proofs.lemmas.Nat.{div-add-mod', mod_below}
use Rattle.mr_image.specs.Images.{image_of}
use Rattle.mr_image.proofs.Places.{part-here, part-other}
use Rattle.mr_mend.specs.Readers.{ask_at}
use Rattle.mr_mend.specs.Replies.{Reply, replies_in}
use Rattle.mr_mend.specs.Workers.{AreStrided, IsReplyOf, HasReply}
use Rattle.mr_mend.specs.declared.asks.Ask.{Ask}
use Rattle.mr_mend.specs.declared.served.Slot.{Slot}
use Rattle.mr_mend.specs.declared.workers.Role.{Role}
use Rattle.mr_mend.specs.declared.workers.Role.TheVariants.{Mender, Reader}
use Rattle.mr_mend.specs.declared.workers.Worker.{Worker}
use Rattle.mr_mend.proofs.Strides.{strided-has}
use Rattle.mr_ready.specs.Lawful.{IsLawful}
use Rattle.mr_ready.specs.Orders.{OrderParts}
use Rattle.mr_ready.specs.Replying.{AreAnswered, AreLawful, HasSlots}
use borrow.Rule.Slice.PartMut.{put_mid}

-- the number n is one of the stride of its rest
pub has-number : (m n asks : ℕ) (numbers : List ℕ) → 0 < m → n < asks → AreStrided (n % m) m asks numbers → Any (λ x. x ≡ n) numbers
has-number m n asks numbers some low s =
    let is : n % m + n / m * m ≡ n = omega (arith, div-add-mod' n m) in
    subst (λ k. Any (λ x. x ≡ k) numbers) is (strided-has (n % m) m asks (n / m) numbers s (omega (arith, is, low)))

-- a reply has the bytes of one symbol
pub reply-long : (l : _) (role : Role) (number : ℕ) (bytes : List ℕ) → HasSlots l role → IsReplyOf role number bytes → length bytes ≡ l.symbol_bytes
reply-long l (Mender room) number bytes room_for reply = absurd reply
reply-long l (Reader slots tmp) number bytes room_for reply = go slots.items room_for reply
  where
    go : (slots : List Slot) → All (λ (slot : Slot). slot.bytes.len ≡ l.symbol_bytes) slots → HasReply slots number bytes → length bytes ≡ l.symbol_bytes
    go [] h r = absurd (omega (arith, r.1))
    go (slot ∷ slots) h r =
        let own : Slot = get_or (slot ∷ slots) r.0 slot in
        let items : length own.bytes.items ≡ length bytes = ap length (r.2 slot).1 in
        omega (arith, items, own.bytes.ok.0, h r.0 slot r.1)

module _ {E : Type 0} (order : OrderParts) (workers : List (Worker E)) where
  -- the first n replies are put
  pub PutReplies : ℕ → List ℕ → Type 0
  PutReplies n replies = (told : Option (List ℕ)) → AreAnswered order told workers → (j : ℕ) → j < n → IfSome told (λ file.
      IsLawful order (image_of order.head file) (ask_at order.asks j) (take order.head.symbol_bytes (drop (j * order.head.symbol_bytes) replies)))

  pub put-none : (replies : List ℕ) → PutReplies 0 replies
  unfolding PutReplies
  put-none replies told answered j low = absurd (omega (arith, low))

  pub put-next : (n at size : ℕ) (replies reply : List ℕ) (worker : Worker E) → 0 < order.workers → PutReplies n replies
      → worker ≡ get_or workers (order.workers + n % order.workers) worker → IsReplyOf worker.role n reply
      → at ≡ n * order.head.symbol_bytes → size ≡ order.head.symbol_bytes → length reply ≡ size → at + size ≤ length replies
      → PutReplies (n + 1) (put_mid at size replies reply)
  unfolding PutReplies
  put-next n at size replies reply worker some h is reply_is at_is size_is long inside told answered j low = ⊎_elim
      (λ (e : j ≡ n).
      let own : IsReplyOf (get_or workers (order.workers + n % order.workers) worker).role n reply = subst (λ (w : Worker E). IsReplyOf w.role n reply) is reply_is in
      let here : take order.head.symbol_bytes (drop (j * order.head.symbol_bytes) (put_mid at size replies reply)) ≡ reply =
      ap₂ (λ m k. take m (drop k (put_mid at size replies reply))) (sym size_is) (ap (λ k. k * order.head.symbol_bytes) e ∙ sym at_is) ∙ part-here at size replies reply (omega (arith, inside)) long in
      subst (λ bytes. IfSome told (λ file. IsLawful order (image_of order.head file) (ask_at order.asks j) bytes)) (sym here)
      (subst (λ k. IfSome told (λ file. IsLawful order (image_of order.head file) (ask_at order.asks k) reply)) (sym e)
      (answered (n % order.workers) worker (mod_below n order.workers some) n reply own)))
      (λ (other : j ≡ n → ⊥).
      let before : j * order.head.symbol_bytes + order.head.symbol_bytes ≤ at =
      let most = mul-le-mul_right {m = j + 1} {n = n} order.head.symbol_bytes (omega (arith, low, other)) in omega (arith, most, at_is) in
      let same : take order.head.symbol_bytes (drop (j * order.head.symbol_bytes) (put_mid at size replies reply)) ≡ take order.head.symbol_bytes (drop (j * order.head.symbol_bytes) replies) =
      part-other at size (j * order.head.symbol_bytes) order.head.symbol_bytes replies reply (omega (arith, inside)) long (inl before) in
      subst (λ bytes. IfSome told (λ file. IsLawful order (image_of order.head file) (ask_at order.asks j) bytes)) (sym same) (h told answered j (omega (arith, low, other))))
      (cases_eq j n)

  pub put-whole : (n : ℕ) (replies : List ℕ) → length order.asks ≤ n → PutReplies n replies → (told : Option (List ℕ)) → AreAnswered order told workers → AreLawful order told replies
  unfolding PutReplies
  put-whole n replies all h told answered j low = h told answered j (omega (arith, all, low))

-- ---- the replies in their buffer

pub replies-at : (size : ℕ) (asks : List Ask) (bytes : List ℕ) (P : Ask → List ℕ → Type 0)
    → ((j : ℕ) → j < length asks → P (ask_at asks j) (take size (drop (j * size) bytes))) → All (λ (reply : Reply). P reply.ask reply.bytes) (replies_in size asks bytes)
unfolding replies_in
replies-at size [] bytes P each k d low = absurd (omega (arith, low))
replies-at size (ask ∷ asks) bytes P each zero d low = subst (λ k. P ask (take size (drop k bytes))) {x = 0 * size} {y = 0} (omega arith) (each 0 (omega arith))
replies-at size (ask ∷ asks) bytes P each (suc k) d low =
    replies-at size asks (drop size bytes) P
    (λ j less. subst (λ xs. P (ask_at asks j) (take size xs)) (ap (λ m. drop m bytes) {x = suc j * size} {y = size + j * size} (omega arith) ∙ sym (drop-drop (j * size) size bytes)) (each (suc j) (omega (arith, less))))
    k d (omega (arith, low))
