-- A crew before it works: which eye each worker has, and that each can work.
use Rattle.std.proofs.Common.{◌≡◌, ℕ, ◌+◌, ◌-◌, ◌<◌, ◌≤◌, Bool, true, false, List, [], ◌∷◌, ◌++◌, map, length, get_or, replicate, All, Option, IfSome, refl, sym, ap, subst, ◌∙◌, arith, ⊎_elim, vec_len}
use Rattle.std.proofs.Math.ListN.{get_or-map}
use Rattle.std.proofs.lemmas.Bool.{cases_lt}
use Rattle.std.proofs.lemmas.List.{get_or-replicate, get_or_append_left, get_or-append_right, get_or_default, length-append, length-map, length-replicate, map-append}
use Rattle.mr_board.specs.Boards.{IsBoardOf, pass_view}
use Rattle.mr_board.specs.declared.board.Board.{Board}
use Rattle.mr_board.specs.declared.board.Pass.{Pass}
use Rattle.mr_image.specs.Heads.{file_bytes}
use Rattle.mr_image.specs.Images.{Layout}
use Rattle.mr_io.specs.Sights.{Sight, fresh_sight}
use Rattle.mr_io.specs.declared.duty.Duty.{Duty}
use Rattle.mr_io.specs.declared.duty.Duty.TheVariants.{Copy, Live, Mend}
use Rattle.mr_mend.specs.Readers.{AreSinglesFor, IsSlotFor}
use Rattle.mr_mend.specs.Workers.{CanDo, CanWork}
use Rattle.mr_mend.specs.declared.asks.Ask.{Ask}
use Rattle.mr_mend.specs.declared.served.Slot.{Slot}
use Rattle.mr_mend.specs.declared.workers.Role.{Role}
use Rattle.mr_mend.specs.declared.workers.Role.TheVariants.{Mender, Reader}
use Rattle.mr_mend.specs.declared.workers.Worker.{Worker}
use Rattle.mr_ready.specs.Crews.{IsHired, IsPlaced, hands_of, worker_eyes}
use Rattle.mr_ready.specs.Duties.{duties_of, readers_of}
use Rattle.mr_ready.specs.Lent.{AreLent}
use Rattle.mr_ready.specs.Orders.{OrderParts}

-- ---- duties

pub duty-mend : (workers : ℕ) (live : Bool) (k : ℕ) (d : Duty) → k < workers → get_or (duties_of workers live) k d ≡ Mend
duty-mend workers live k d low =
    get_or_append_left (replicate workers Mend ++ replicate (readers_of workers live) Live) (Copy ∷ []) d k
    (omega (arith, low, length-append (replicate workers Mend) (replicate (readers_of workers live) Live), length-replicate workers Mend))
    ∙ get_or_append_left (replicate workers Mend) (replicate (readers_of workers live) Live) d k (omega (arith, low, length-replicate workers Mend))
    ∙ get_or-replicate workers k Mend d low

pub duty-live : (workers : ℕ) (k : ℕ) (d : Duty) → k < workers → get_or (duties_of workers true) (workers + k) d ≡ Live
duty-live workers k d low =
    get_or_append_left (replicate workers Mend ++ replicate workers Live) (Copy ∷ []) d (workers + k)
    (omega (arith, low, length-append (replicate workers Mend) (replicate workers Live), length-replicate workers Mend, length-replicate workers Live))
    ∙ get_or-append_right (replicate workers Mend) (replicate workers Live) workers (workers + k) d (length-replicate workers Mend) (omega arith)
    ∙ ap (λ n. get_or (replicate workers Live) n d) {x = workers + k - workers} {y = k} (omega arith)
    ∙ get_or-replicate workers k Live d low

module _ {E : Type 0} (sight : E → Sight) (told : Option (List ℕ)) (workers : List (Worker E)) (rest : List E) (duties : List Duty)
    (lent : map sight (worker_eyes workers ++ rest) ≡ map (fresh_sight told) duties) where
  -- the eye of a worker is as it was lent
  pub eye-at : (k : ℕ) (d : Worker E) → k < length workers → sight (get_or workers k d).eye ≡ fresh_sight told (get_or duties k (sight d.eye).duty)
  eye-at k d low =
      let eye : Worker E → E = λ worker. worker.eye in
      let x : Sight = sight d.eye in
      let long : k < length (map sight (worker_eyes workers)) = omega (arith, low, length-map (worker_eyes workers) sight, length-map workers eye) in
      let many : length (map (fresh_sight told) duties) ≡ length workers + length rest =
      ap length (sym lent) ∙ length-map (worker_eyes workers ++ rest) sight ∙ length-append (worker_eyes workers) rest ∙ ap (λ n. n + length rest) (length-map workers eye) in
      let in_all : k < length (map (fresh_sight told) duties) = omega (arith, many, low) in
      sym (get_or-map sight (worker_eyes workers) k d.eye ∙ ap sight (get_or-map eye workers k d))
      ∙ sym (get_or_append_left (map sight (worker_eyes workers)) (map sight rest) x k long)
      ∙ ap (λ xs. get_or xs k x) (sym (map-append sight (worker_eyes workers) rest) ∙ lent)
      ∙ get_or_default (map (fresh_sight told) duties) k x (fresh_sight told x.duty) in_all
      ∙ get_or-map (fresh_sight told) duties k x.duty

-- ---- each can work

slots-numbered : (n size : ℕ) (slots : List Slot) → All (λ (number : ℕ). number < n) (map (λ (slot : Slot). slot.number) slots) → All (λ (slot : Slot). vec_len slot.bytes ≡ size) slots
    → (asks : List Ask) → n ≡ length asks → (l : Layout) → size ≡ l.symbol_bytes → All (IsSlotFor l asks) slots
slots-numbered n size slots below room asks is l same k d low =
    let number : Slot → ℕ = λ slot. slot.number in
    let at : get_or (map number slots) k d.number ≡ (get_or slots k d).number = get_or-map number slots k d in
    let inside : get_or (map number slots) k d.number < n = below k d.number (omega (arith, low, length-map slots number)) in
    (omega (arith, inside, at, is), room k d low ∙ same)

can-do : (order : OrderParts) (k : ℕ) (pass : Pass) (role : Role) → (pass_view pass).draws ≡ [] → IsPlaced order k role
    → (order.workers ≤ k → AreSinglesFor order.head order.plans order.singles)
    → CanDo order.head order.plans order.singles order.asks pass role
can-do order k pass (Mender room) draws placed singles = ⊎_elim (λ (low : k < order.workers). (draws, placed.mends low)) (λ (high : order.workers ≤ k). absurd (placed.reads high)) (cases_lt k order.workers)
can-do order k pass (Reader slots tmp) draws placed singles = ⊎_elim (λ (low : k < order.workers). absurd (placed.mends low))
    (λ (high : order.workers ≤ k). let reads = placed.reads high in (
      singles high,
      slots-numbered (length order.asks) order.head.symbol_bytes slots.items (placed.numbers high).below reads.0 order.asks refl order.head refl,
      reads.1,
    ))
    (cases_lt k order.workers)

module _ {E : Type 0} (sight : E → Sight) (faults : E → ℕ) (order : OrderParts) (b : Board) (told : Option (List ℕ)) (workers : List (Worker E)) (rest : List E)
    (hired : (k : ℕ) (d : Worker E) → k < length workers → IsHired order b k (get_or workers k d))
    (lent : AreLent sight faults told order.workers order.live (worker_eyes workers ++ rest)) where
  pub can-work : IsBoardOf b order.head order.plans told → IfSome told (λ bytes. length bytes ≡ file_bytes order.head) → (order.live ≡ true → AreSinglesFor order.head order.plans order.singles)
      → length workers ≡ hands_of order.workers order.live
      → All (CanWork order.head order.plans order.singles order.asks sight b) workers
  can-work board fits singles count k d low =
      let h : IsHired order b k (get_or workers k d) = hired k d low in
      let is : (sight (get_or workers k d).eye).bytes ≡ told = ap (λ (x : Sight). x.bytes) (eye-at sight told workers rest (duties_of order.workers order.live) lent.sights k d low) in
      record {
        pass = h.pass;
        free = h.fresh.idle;
        board = subst (λ o. IsBoardOf b order.head order.plans o) (sym is) board;
        image = subst (λ o. IfSome o (λ (bytes : List ℕ). length bytes ≡ file_bytes order.head)) (sym is) fits;
        role = can-do order k (get_or workers k d).pass (get_or workers k d).role h.fresh.draws h.role (λ high. singles (is-live order.live count high low));
      }
    where
      is-live : (live : Bool) → length workers ≡ hands_of order.workers live → {k : ℕ} → order.workers ≤ k → k < length workers → live ≡ true
      is-live true e high low = refl
      is-live false e high low = absurd (omega (arith, e, high, low))
