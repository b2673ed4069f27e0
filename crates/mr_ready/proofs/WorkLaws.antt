-- A crew after it worked: what each worker did.
use Rattle.std.proofs.Common.{◌≡◌, ℕ, ◌+◌, ◌-◌, ◌<◌, ◌≤◌, List, [], ◌∷◌, map, length, get_or, All, Option, IfSome, refl, sym, ap, subst, ◌∙◌, arith, sum_by}
use Rattle.std.proofs.lemmas.List.Sums.{sum_by-cons}
use Rattle.mr_board.specs.Boards.{IsBoardOf, pass_view}
use Rattle.mr_board.specs.Terms.{stripes_of}
use Rattle.mr_board.specs.declared.board.Board.{Board}
use Rattle.mr_counts.specs.Numbers.{beyond, times}
use Rattle.mr_eq.specs.Singles.{SinglesOf}
use Rattle.mr_image.specs.Images.{Layout, image_of}
use Rattle.mr_io.specs.Counts.{counted}
use Rattle.mr_io.specs.Sights.{Sight, fresh_sight, sight_with}
use Rattle.mr_io.specs.declared.duty.Duty.TheVariants.{Live, Mend}
use Rattle.mr_mend.specs.Menders.{HasMended, drawn_bytes}
use Rattle.mr_mend.specs.Readers.{HasLooked, IsLawful, ask_at, least_bytes, most_bytes}
use Rattle.mr_mend.specs.Workers.{AreStrided, HasDone, HasFinished, HasOnlyLooked, HasReply, HasServed, HasWorked, IsMender, IsReader, IsReplyOf, numbers_of}
use Rattle.mr_mend.specs.declared.asks.Ask.{Ask}
use Rattle.mr_mend.specs.declared.served.Slot.{Slot}
use Rattle.mr_mend.specs.declared.workers.Role.{Role}
use Rattle.mr_mend.specs.declared.workers.Role.TheVariants.{Mender, Reader}
use Rattle.mr_mend.specs.declared.workers.Worker.{Worker}
use Rattle.mr_plan.specs.Plans.{PlanParts}
use Rattle.mr_ready.specs.Crews.{IsHired}
use Rattle.mr_ready.specs.Orders.{OrderParts}
use Rattle.mr_ready.specs.Replying.{HasSlots}

-- ---- a reader

sum-numbers : (h : ℕ → ℕ) (slots : List Slot) → sum_by h (map (λ (slot : Slot). slot.number) slots) ≡ sum_by (λ (slot : Slot). h slot.number) slots
sum-numbers h [] = refl
sum-numbers h (slot ∷ slots) =
    omega (arith, sum_by-cons h slot.number (map (λ (slot : Slot). slot.number) slots), sum_by-cons (λ (slot : Slot). h slot.number) slot slots, sum-numbers h slots)

module _ (l : Layout) (plans : List PlanParts) (singles : List SinglesOf) (asks : List Ask) (told : Option (List ℕ)) where
  abbrev Answer : ℕ → List ℕ → Type 0
  Answer number bytes = IfSome told (λ file. IsLawful l plans singles (image_of l file) (ask_at asks number) bytes)

  -- what a reader did from one role to the next
  pub record ReaderDid (role now : Role) (before after : ℕ) : Type 0 where
    pub numbers : numbers_of now ≡ numbers_of role
    pub slots : HasSlots l now
    pub answers : (number : ℕ) (bytes : List ℕ) → IsReplyOf now number bytes → Answer number bytes
    pub least : counted before (sum_by (λ n. least_bytes l plans (ask_at asks n)) (numbers_of role)) ≤ after
    pub most : after ≤ counted before (sum_by (λ n. most_bytes l plans singles (ask_at asks n)) (numbers_of role))

  answered : (slots : List Slot) (number : ℕ) (bytes : List ℕ) → All (λ (slot : Slot). Answer slot.number slot.bytes.items) slots → HasReply slots number bytes → Answer number bytes
  answered [] number bytes served reply = absurd (omega (arith, reply.1))
  answered (slot ∷ slots) number bytes served reply =
      let is = reply.2 slot in
      subst (λ n. Answer n bytes) is.0 (subst (Answer (get_or (slot ∷ slots) reply.0 slot).number) is.1 (served reply.0 slot reply.1))

  reader-did : (role now : Role) (before after : ℕ) {E : Type 0} (sight : E → Sight) (v w : Worker E) → IsReader l role → (sight v.eye).bytes ≡ told → (sight v.eye).taken ≡ before → (sight w.eye).taken ≡ after → w.role ≡ now
      → HasDone l plans singles asks sight v w role → ReaderDid role now before after
  reader-did (Mender room) now before after sight v w is bytes t0 t1 role done = absurd is
  reader-did (Reader slots tmp) now before after sight v w is bytes t0 t1 role done =
      go now (subst (λ r. HasServed l plans singles asks (sight v.eye).bytes slots.items (sight v.eye).taken (sight w.eye).taken r) role done)
    where
      go : (now : Role) → HasServed l plans singles asks (sight v.eye).bytes slots.items (sight v.eye).taken (sight w.eye).taken now → ReaderDid (Reader slots tmp) now before after
      go (Mender room) h = absurd h
      go (Reader later tmp_later) h =
          let low = sum-numbers (λ n. least_bytes l plans (ask_at asks n)) slots.items in
          let high = sum-numbers (λ n. most_bytes l plans singles (ask_at asks n)) slots.items in
          record {
            numbers = h.numbers;
            slots = λ k d less. (h.room k d less).1;
            answers = λ number reply_bytes reply. answered later.items number reply_bytes
                (λ k d less. subst (λ o. IfSome o (λ file. IsLawful l plans singles (image_of l file) (ask_at asks (get_or later.items k d).number) (get_or later.items k d).bytes.items)) bytes (h.served k d less)) reply;
            least = omega (arith, h.least, low, t0, t1);
            most = omega (arith, h.most, high, t0, t1);
          }

-- ---- a mender

mender-did : (l : Layout) (plans : List PlanParts) (singles : List SinglesOf) (asks : List Ask) {E : Type 0} (sight : E → Sight) (v w : Worker E) (role : Role) → IsMender l plans role → HasDone l plans singles asks sight v w role
    → HasMended (pass_view v.pass) (pass_view w.pass) × (sight w.eye ≡ sight_with (sight v.eye) (drawn_bytes l plans (pass_view w.pass).draws))
mender-did l plans singles asks sight v w (Mender room) is done = done
mender-did l plans singles asks sight v w (Reader slots tmp) is done = absurd is

only-looked : {E : Type 0} (l : Layout) (v w : Worker E) (role : Role) → IsReader l role → HasOnlyLooked v w role → HasLooked (pass_view v.pass) (pass_view w.pass)
only-looked l v w (Mender room) is h = absurd is
only-looked l v w (Reader slots tmp) is h = h

-- ---- all workers

module _ {E : Type 0} (sight : E → Sight) (faults : E → ℕ) (order : OrderParts) (b : Board) (told : Option (List ℕ)) where
  abbrev L : Layout
  L = order.head

  -- what the worker of place k did, none of whose reads failed
  pub record HasDid (k : ℕ) (w : Worker E) : Type 0 where
    pub share : (pass_view w.pass).parts + (pass_view w.pass).left ≡ 1
    pub saw : (t : ℕ) → t < L.stripes → 0 < times t (pass_view w.pass).draws → 0 < times t (pass_view w.pass).seen
    pub told_none : k < order.workers → 0 < beyond L.stripes (pass_view w.pass).draws
    pub drew_none : order.workers ≤ k → (pass_view w.pass).draws ≡ []
    pub mended : k < order.workers → sight w.eye ≡ sight_with (fresh_sight told Mend) (drawn_bytes L order.plans (pass_view w.pass).draws)
    pub numbers : order.workers ≤ k → AreStrided (k - order.workers) order.workers (length order.asks) (numbers_of w.role)
    pub slots : order.workers ≤ k → HasSlots L w.role
    pub answers : order.workers ≤ k → (number : ℕ) (bytes : List ℕ) → IsReplyOf w.role number bytes
        → IfSome told (λ file. IsLawful L order.plans order.singles (image_of L file) (ask_at order.asks number) bytes)
    pub duty : order.workers ≤ k → (sight w.eye).duty ≡ Live
    pub least : order.workers ≤ k → counted 0 (sum_by (λ n. least_bytes L order.plans (ask_at order.asks n)) (numbers_of w.role)) ≤ (sight w.eye).taken
    pub most : order.workers ≤ k → (sight w.eye).taken ≤ counted 0 (sum_by (λ n. most_bytes L order.plans order.singles (ask_at order.asks n)) (numbers_of w.role))

  module _ (board : IsBoardOf b order.head order.plans told) (k : ℕ) (v w : Worker E) (hired : IsHired order b k v) (worked : HasWorked sight faults b v w)
      (finished : HasFinished sight faults order.head order.plans order.singles order.asks v w) where
    stripes : stripes_of (pass_view w.pass).terms ≡ L.stripes
    stripes = ap stripes_of (worked.pass.terms ∙ board)

    pub did-mend : k < order.workers → sight v.eye ≡ fresh_sight told Mend → HasDid k w
    did-mend low eye =
        let done = mender-did L order.plans order.singles order.asks sight v w v.role (hired.role.mends low) finished.done in
        let did = done.0.published in
        record {
          share = omega (arith, did.parts, did.left, hired.fresh.share);
          saw = λ t inside some. did.drawn t (omega (arith, inside, stripes)) some;
          told_none = λ _. subst (λ n. 0 < beyond n (pass_view w.pass).draws) stripes done.0.told;
          drew_none = λ high. absurd (omega (arith, low, high));
          mended = λ _. done.1 ∙ ap (λ (x : Sight). sight_with x (drawn_bytes L order.plans (pass_view w.pass).draws)) eye;
          numbers = λ high. absurd (omega (arith, low, high));
          slots = λ high. absurd (omega (arith, low, high));
          answers = λ high. absurd (omega (arith, low, high));
          duty = λ high. absurd (omega (arith, low, high));
          least = λ high. absurd (omega (arith, low, high));
          most = λ high. absurd (omega (arith, low, high));
        }

    pub did-read : order.workers ≤ k → sight v.eye ≡ fresh_sight told Live → HasDid k w
    did-read high eye =
        let reads = hired.role.reads high in
        let looked = only-looked L v w v.role reads worked.looked in
        let did = reader-did L order.plans order.singles order.asks told v.role w.role 0 (sight w.eye).taken sight v w reads (ap (λ (x : Sight). x.bytes) eye) (ap (λ (x : Sight). x.taken) eye) refl refl finished.done in
        let none : (pass_view w.pass).draws ≡ [] = looked.draws ∙ hired.fresh.draws in
        record {
          share = omega (arith, looked.parts, looked.left, hired.fresh.share);
          saw = λ t inside some. let zero_times : times t (pass_view w.pass).draws ≡ 0 = ap (times t) none in absurd (omega (arith, some, zero_times));
          told_none = λ low. absurd (omega (arith, low, high));
          drew_none = λ _. none;
          mended = λ low. absurd (omega (arith, low, high));
          numbers = λ _. subst (AreStrided (k - order.workers) order.workers (length order.asks)) (sym did.numbers) (hired.role.numbers high);
          slots = λ _. did.slots;
          answers = λ _. did.answers;
          duty = λ _. worked.file.duty ∙ ap (λ (x : Sight). x.duty) eye;
          least = λ _. subst (λ ns. counted 0 (sum_by (λ n. least_bytes L order.plans (ask_at order.asks n)) ns) ≤ (sight w.eye).taken) (sym did.numbers) did.least;
          most = λ _. subst (λ ns. (sight w.eye).taken ≤ counted 0 (sum_by (λ n. most_bytes L order.plans order.singles (ask_at order.asks n)) ns)) (sym did.numbers) did.most;
        }
