-- What all workers of a crew did together.
use Rattle.std.proofs.Common.{◌≡◌, ℕ, zero, suc, ◌+◌, ◌-◌, ◌*◌, ◌<◌, ◌≤◌, ◌==◌, Bool, true, false, cond, List, [], ◌∷◌, ◌++◌, map, flat_map, length, get_or, take, drop, All, Any, Option, None, refl, sym, ap, ap₂, subst, ◌∙◌, arith, ⊎_elim, inl, inr, sum_by}
use Rattle.std.specs.List.{range_with_len}
use Rattle.std.proofs.lemmas.Bool.{cases_lt}
use Rattle.std.proofs.lemmas.List.{append-nil, get_or-drop, get_or-take, length-drop, length-map, length-take-le, map-append, take-append-drop, take_at}
use Rattle.std.proofs.lemmas.List.Elements.{All-head, All-tail}
use Rattle.std.proofs.lemmas.List.Sums.{sum_by-append, sum_by-cons}
use Rattle.std.proofs.lemmas.Grind.{flat_map-append}
use Rattle.mr_board.specs.Boards.{IsBoardOf, IsPassOf, pass_view}
use Rattle.mr_board.specs.declared.board.Board.{Board}
use Rattle.mr_board.specs.declared.view.PassView.{PassView}
use Rattle.mr_counts.specs.Numbers.{AreEachBelow, beyond, times}
use Rattle.mr_counts.specs.Shares.{whole_share}
use Rattle.mr_counts.proofs.NumberLaws.{sum_by-one_more}
use Rattle.mr_image.specs.Images.{Layout}
use Rattle.mr_io.specs.Counts.{Rose, counted}
use Rattle.mr_io.specs.Growth.{TakesWithin, added, bytes_of, no_bytes, taken_by}
use Rattle.mr_io.specs.Sights.{Sight, fresh_sight, sight_with}
use Rattle.mr_io.specs.declared.duty.Duty.{Duty}
use Rattle.mr_io.specs.declared.duty.Duty.TheVariants.{Text, Head, Mend, Live, Copy}
use Rattle.mr_io.specs.declared.totals.Totals.{Totals}
use Rattle.mr_io.proofs.Growth.{same_totals}
use Rattle.mr_io.proofs.Within.{takes-more, within-none, within-one}
use Rattle.mr_mend.specs.Menders.{drawn_bytes}
use Rattle.mr_mend.specs.Readers.{ask_at, least_bytes, most_bytes}
use Rattle.mr_mend.specs.Workers.{AreStrided, HasFinished, HasWorked, numbers_of}
use Rattle.mr_mend.specs.declared.workers.Worker.{Worker}
use Rattle.mr_mend.proofs.DrawnTotals.{drawn-all}
use Rattle.mr_mend.proofs.Wholes.{told-weaker}
use Rattle.mr_eq.specs.Singles.{SinglesOf}
use Rattle.mr_mend.specs.declared.asks.Ask.{Ask}
use Rattle.mr_plan.specs.Plans.{PlanParts}
use Rattle.mr_ready.specs.Crews.{IsHired, hands_of, worker_eyes}
use Rattle.mr_ready.specs.Desks.{KeepDuties}
use Rattle.mr_ready.specs.Duties.{duties_of}
use Rattle.mr_ready.specs.Joining.{HasJoined, IsWhole}
use Rattle.mr_ready.specs.Lent.{AreLent}
use Rattle.mr_ready.specs.Orders.{OrderParts}
use Rattle.mr_ready.specs.Reads.{least_beside, mending_reads, most_beside, most_replying_reads, most_symbols_for, replying_reads}
use Rattle.mr_ready.specs.Replying.{AreAnswered, HaveSlots}
use Rattle.mr_model.proofs.Lists.{map-map}
use Rattle.mr_ready.proofs.AskSums.{asks-numbered, least-sum, most-sum}
use Rattle.mr_ready.proofs.CrewLaws.{duty-live, duty-mend, eye-at}
use Rattle.mr_ready.proofs.DrawLaws.{beyond-one, drawn-each, drew-each, none-drawn, seen-by-all}
use Rattle.mr_ready.proofs.StrideSums.{stride, strided-sum, strides-all, sum-mapped}
use Rattle.mr_ready.proofs.WorkLaws.{HasDid, did-mend, did-read}

-- ---- lists

flat-mapped : {X Y : Type 0} (f : X → Y) (g : Y → List ℕ) (xs : List X) → flat_map g (map f xs) ≡ flat_map (λ x. g (f x)) xs
flat-mapped f g [] = refl
flat-mapped f g (x ∷ xs) = ap (λ zs. g (f x) ++ zs) (flat-mapped f g xs)

range-front : (g : ℕ → ℕ) (n : ℕ) → sum_by g (range_with_len 0 (suc n)) ≡ g 0 + sum_by (λ k. g (suc k)) (range_with_len 0 n)
range-front g zero = omega (arith, sum_by-one_more g 0)
range-front g (suc n) = omega (arith, sum_by-one_more g (suc n), range-front g n, sum_by-one_more (λ k. g (suc k)) n)

-- a sum over a list, by places
sum-placed : {X : Type 0} (f : X → ℕ) (g : ℕ → ℕ) (xs : List X) → ((k : ℕ) (d : X) → k < length xs → f (get_or xs k d) ≡ g k) → sum_by f xs ≡ sum_by g (range_with_len 0 (length xs))
sum-placed f g [] same = refl
sum-placed f g (x ∷ xs) same =
    let rest = sum-placed f (λ k. g (suc k)) xs (λ k d low. same (suc k) d (omega (arith, low))) in
    omega (arith, sum_by-cons f x xs, same 0 x (omega arith), rest, range-front g (length xs))

-- ---- bytes of one duty

bytes-none : (duty : Duty) → bytes_of duty 0 ≡ no_bytes
bytes-none Text = refl
bytes-none Head = refl
bytes-none Mend = refl
bytes-none Live = refl
bytes-none Copy = refl

bytes-more : (duty : Duty) (m n : ℕ) → added (bytes_of duty m) (bytes_of duty n) ≡ bytes_of duty (m + n)
bytes-more Text m n = refl
bytes-more Head m n = refl
bytes-more Mend m n = refl
bytes-more Live m n = refl
bytes-more Copy m n = refl

added-after : (a b c : Totals) → added (added a b) c ≡ added a (added b c)
added-after a b c = same_totals _ _ _ _ _ _ _ _ _ _ (omega arith) (omega arith) (omega arith) (omega arith) (omega arith)

pub none-behind : (t : Totals) → added t no_bytes ≡ t
none-behind t = same_totals _ _ _ _ _ _ _ _ _ _ (omega arith) (omega arith) (omega arith) (omega arith) (omega arith)

added-none : (t : Totals) → added no_bytes t ≡ t
added-none t = same_totals _ _ _ _ _ _ _ _ _ _ (omega arith) (omega arith) (omega arith) (omega arith) (omega arith)

pub taken-append : (xs ys : List Sight) → taken_by (xs ++ ys) ≡ added (taken_by xs) (taken_by ys)
taken-append [] ys = sym (added-none (taken_by ys))
taken-append (x ∷ xs) ys = ap (added (bytes_of x.duty x.taken)) (taken-append xs ys) ∙ sym (added-after (bytes_of x.duty x.taken) (taken_by xs) (taken_by ys))

-- eyes of one duty, each of which took so many bytes at least and at most
pub takes-list : {X : Type 0} (sight_of : X → Sight) (duty : Duty) (a b : X → ℕ) (xs : List X)
    → All (λ x. ((sight_of x).duty ≡ duty) × (counted 0 (a x) ≤ (sight_of x).taken) × ((sight_of x).taken ≤ counted 0 (b x))) xs
    → TakesWithin (taken_by (map sight_of xs)) (bytes_of duty (sum_by a xs)) (bytes_of duty (sum_by b xs))
takes-list sight_of duty a b [] each =
    subst (λ t. TakesWithin no_bytes t (bytes_of duty 0)) (sym (bytes-none duty)) (subst (λ t. TakesWithin no_bytes no_bytes t) (sym (bytes-none duty)) within-none)
takes-list {X} sight_of duty a b (x ∷ xs) each =
    let P : X → Type 0 = λ x. ((sight_of x).duty ≡ duty) × (counted 0 (a x) ≤ (sight_of x).taken) × ((sight_of x).taken ≤ counted 0 (b x)) in
    let here : P x = All-head P x xs each in
    let taken : ℕ = (sight_of x).taken in
    let whole : Totals = added (bytes_of (sight_of x).duty taken) (taken_by (map sight_of xs)) in
    let both = takes-more (bytes_of duty taken) (taken_by (map sight_of xs)) (bytes_of duty (a x)) (bytes_of duty (b x)) (bytes_of duty (sum_by a xs)) (bytes_of duty (sum_by b xs))
    (within-one duty taken (a x) (b x) here.1 here.2) (takes-list sight_of duty a b xs (All-tail P x xs each)) in
    let low : added (bytes_of duty (a x)) (bytes_of duty (sum_by a xs)) ≡ bytes_of duty (sum_by a (x ∷ xs)) = bytes-more duty (a x) (sum_by a xs) ∙ ap (bytes_of duty) (sym (sum_by-cons a x xs)) in
    let high : added (bytes_of duty (b x)) (bytes_of duty (sum_by b xs)) ≡ bytes_of duty (sum_by b (x ∷ xs)) = bytes-more duty (b x) (sum_by b xs) ∙ ap (bytes_of duty) (sym (sum_by-cons b x xs)) in
    let own : TakesWithin whole (added (bytes_of duty (a x)) (bytes_of duty (sum_by a xs))) (added (bytes_of duty (b x)) (bytes_of duty (sum_by b xs))) =
    subst (λ d. TakesWithin (added (bytes_of d taken) (taken_by (map sight_of xs))) (added (bytes_of duty (a x)) (bytes_of duty (sum_by a xs))) (added (bytes_of duty (b x)) (bytes_of duty (sum_by b xs)))) (sym here.0) both in
    subst (λ t. TakesWithin whole t (bytes_of duty (sum_by b (x ∷ xs)))) low (subst (λ t. TakesWithin whole (added (bytes_of duty (a x)) (bytes_of duty (sum_by a xs))) t) high own)

-- ---- a crew that has worked

module _ {E : Type 0} (sight : E → Sight) (faults : E → ℕ) (order : OrderParts) (b : Board) (told : Option (List ℕ)) (workers now : List (Worker E)) (rest : List E)
    (hired : (k : ℕ) (d : Worker E) → k < length workers → IsHired order b k (get_or workers k d))
    (lent : AreLent sight faults told order.workers order.live (worker_eyes workers ++ rest))
    (count : length workers ≡ hands_of order.workers order.live) (long : length now ≡ length workers)
    (worked : (k : ℕ) (d : Worker E) → k < length workers → HasWorked sight faults b (get_or workers k d) (get_or now k d)) where
  abbrev Eye : Worker E → E
  Eye worker = worker.eye

  abbrev Knows : Worker E → PassView
  Knows worker = pass_view worker.pass

  abbrev Draws : Worker E → List ℕ
  Draws worker = (pass_view worker.pass).draws

  abbrev Sees : Worker E → List ℕ
  Sees worker = (pass_view worker.pass).seen

  -- the passes can be joined
  pub passes-are : All (λ worker. IsPassOf b worker.pass) now
  passes-are k d low = (worked k d (omega (arith, low, long))).pass

  pub all-idle : All (λ worker. (pass_view worker.pass).claimed ≡ None) now
  all-idle k d low = (worked k d (omega (arith, low, long))).free

  -- each eye has its duty still
  same-duties : (vs ws : List (Worker E)) → length ws ≡ length vs → ((k : ℕ) (d : Worker E) → k < length vs → (sight (get_or ws k d).eye).duty ≡ (sight (get_or vs k d).eye).duty)
      → map (λ eye. (sight eye).duty) (worker_eyes ws) ≡ map (λ eye. (sight eye).duty) (worker_eyes vs)
  same-duties [] [] e h = refl
  same-duties [] (w ∷ ws) e h = absurd (omega (arith, e))
  same-duties (v ∷ vs) [] e h = absurd (omega (arith, e))
  same-duties (v ∷ vs) (w ∷ ws) e h = ap₂ (λ d ds. d ∷ ds) (h 0 v (omega arith)) (same-duties vs ws (omega (arith, e)) (λ k d low. h (suc k) d (omega (arith, low))))

  pub duties-same : KeepDuties sight (worker_eyes workers) (worker_eyes now)
  duties-same = same-duties workers now long (λ k d low. (worked k d low).file.duty)

  -- a failed read
  first-quiet : (vs : List (Worker E)) (k : ℕ) (d : Worker E) → k < length vs → All (λ eye. faults eye ≡ 0) (worker_eyes vs ++ rest) → faults (get_or vs k d).eye ≡ 0
  first-quiet [] k d low h = absurd (omega (arith, low))
  first-quiet (v ∷ vs) zero d low h = All-head (λ eye. faults eye ≡ 0) v.eye (worker_eyes vs ++ rest) h
  first-quiet (v ∷ vs) (suc k) d low h = first-quiet vs k d (omega (arith, low)) (All-tail (λ eye. faults eye ≡ 0) v.eye (worker_eyes vs ++ rest) h)

  worker-of : (ws : List (Worker E)) (k : ℕ) → k < length ws → Worker E
  worker-of [] k low = absurd (omega (arith, low))
  worker-of (w ∷ ws) k low = w

  at-eyes : (ws : List (Worker E)) (k : ℕ) (d : Worker E) (e : E) → k < length ws → get_or (worker_eyes ws) k e ≡ (get_or ws k d).eye
  at-eyes [] k d e low = absurd (omega (arith, low))
  at-eyes (w ∷ ws) zero d e low = refl
  at-eyes (w ∷ ws) (suc k) d e low = at-eyes ws k d e (omega (arith, low))

  pub one-failed : (k : ℕ) × (k < length workers) × ((d : Worker E) → Rose (faults (get_or workers k d).eye) (faults (get_or now k d).eye)) → Any (λ eye. Rose 0 (faults eye)) (worker_eyes now)
  one-failed h =
      let d : Worker E = worker-of workers h.0 h.1 in
      let quiet : faults (get_or workers h.0 d).eye ≡ 0 = first-quiet workers h.0 d h.1 lent.no_faults in
      let e : E = (get_or now h.0 d).eye in
      let rose : Rose 0 (faults e) = omega (arith, h.2 d, quiet) in
      (h.0, e, omega (arith, h.1, long, length-map now Eye), at-eyes now h.0 d e (omega (arith, h.1, long)), rose)

  module _ (board : IsBoardOf b order.head order.plans told) (some : 0 < order.workers)
      (finished : (k : ℕ) (d : Worker E) → k < length workers → HasFinished sight faults order.head order.plans order.singles order.asks (get_or workers k d) (get_or now k d)) where
    -- none failed
    pub none-failed : All (λ eye. faults eye ≡ 0) (worker_eyes now)
    none-failed = go now workers long (λ k d low. (finished k d low).quiet) lent.no_faults
      where
        go : (ws vs : List (Worker E)) → length ws ≡ length vs → ((k : ℕ) (d : Worker E) → k < length vs → faults (get_or ws k d).eye ≡ faults (get_or vs k d).eye)
            → All (λ eye. faults eye ≡ 0) (worker_eyes vs ++ rest) → All (λ eye. faults eye ≡ 0) (worker_eyes ws)
        go [] [] e same h k d low = absurd (omega (arith, low))
        go [] (v ∷ vs) e same h k d low = absurd (omega (arith, e))
        go (w ∷ ws) [] e same h k d low = absurd (omega (arith, e))
        go (w ∷ ws) (v ∷ vs) e same h zero d low = same 0 v (omega arith) ∙ All-head (λ eye. faults eye ≡ 0) v.eye (worker_eyes vs ++ rest) h
        go (w ∷ ws) (v ∷ vs) e same h (suc k) d low =
            go ws vs (omega (arith, e)) (λ j x less. same (suc j) x (omega (arith, less))) (All-tail (λ eye. faults eye ≡ 0) v.eye (worker_eyes vs ++ rest) h) k d (omega (arith, low))

    -- what each did
    did : (k : ℕ) (d : Worker E) → k < length now → HasDid sight faults order b told k (get_or now k d)
    did k d low = ⊎_elim
        (λ (mends : k < order.workers). did-mend sight faults order b told board k (get_or workers k d) (get_or now k d) (hired k d inside) (worked k d inside) (finished k d inside) mends
        (eye-at sight told workers rest (duties_of order.workers order.live) lent.sights k d inside ∙ ap (fresh_sight told) (duty-mend order.workers order.live k (sight d.eye).duty mends)))
        (λ (reads : order.workers ≤ k). did-read sight faults order b told board k (get_or workers k d) (get_or now k d) (hired k d inside) (worked k d inside) (finished k d inside) reads
        (eye-at sight told workers rest (duties_of order.workers order.live) lent.sights k d inside ∙ ap (fresh_sight told) (live-at order.live count reads)))
        (cases_lt k order.workers)
      where
        inside : k < length workers
        inside = omega (arith, low, long)

        live-at : (live : Bool) → length workers ≡ hands_of order.workers live → order.workers ≤ k → get_or (duties_of order.workers live) k (sight d.eye).duty ≡ Live
        live-at true e reads =
            ap (λ n. get_or (duties_of order.workers true) n (sight d.eye).duty) {x = k} {y = order.workers + (k - order.workers)} (omega (arith, reads))
            ∙ duty-live order.workers (k - order.workers) (sight d.eye).duty (omega (arith, e, inside, reads))
        live-at false e reads = absurd (omega (arith, e, inside, reads))

    -- ---- what the joined pass knows

    module _ (v w : PassView) (joined : HasJoined v (map Knows now) w) (nothing : v.draws ≡ []) (share : v.parts + v.left + length workers ≡ whole_share) (whole : IsWhole w) where
      all-parts : w.parts + w.left ≡ whole_share
      all-parts = omega (arith, joined.share, share, sum-mapped Knows (λ (u : PassView). u.parts + u.left) now, ones now (λ k d low. (did k d low).share), long)
        where
          ones : (ws : List (Worker E)) → All (λ worker. (pass_view worker.pass).parts + (pass_view worker.pass).left ≡ 1) ws
              → sum_by (λ worker. (pass_view worker.pass).parts + (pass_view worker.pass).left) ws ≡ length ws
          ones [] h = refl
          ones (x ∷ ws) h =
              let P : Worker E → Type 0 = λ worker. (pass_view worker.pass).parts + (pass_view worker.pass).left ≡ 1 in
              omega (arith, sum_by-cons (λ (worker : Worker E). (pass_view worker.pass).parts + (pass_view worker.pass).left) x ws, All-head P x ws h, ones ws (All-tail P x ws h))

      are : AreEachBelow w.draws (length w.draws)
      are = whole all-parts

      draws-are : w.draws ≡ flat_map Draws now
      draws-are = joined.draws ∙ (λ i. nothing i ++ flat-mapped Knows (λ (u : PassView). u.draws) now i)

      enough : order.workers ≤ length now
      enough = go order.live count
        where
          go : (live : Bool) → length workers ≡ hands_of order.workers live → order.workers ≤ length now
          go true e = omega (arith, e, long)
          go false e = omega (arith, e, long)

      told-none : 0 < beyond order.head.stripes w.draws
      told-none =
          let low : 0 < length now = omega (arith, enough, some) in
          let d : Worker E = worker-of now 0 low in
          subst (λ ns. 0 < beyond order.head.stripes ns) (sym draws-are) (beyond-one Draws Sees order.head.stripes now 0 d low ((did 0 d low).told_none some))

      -- each stripe was seen done
      pub seen-all : (t : ℕ) → t < order.head.stripes → 0 < times t w.seen
      seen-all t inside =
          let drew : 0 < times t (flat_map Draws now) = subst (λ ns. 0 < times t ns) draws-are (drew-each w.draws order.head.stripes t are told-none inside) in
          let saw : 0 < times t (flat_map Sees now) = seen-by-all Draws Sees t now (λ k d low. (did k d low).saw t inside) drew in
          let is : times t w.seen ≡ times t v.seen + times t (flat_map Sees now) =
          ap (times t) (joined.seen ∙ ap (λ ns. v.seen ++ ns) (flat-mapped Knows (λ (u : PassView). u.seen) now)) ∙ sum_by-append (λ y. cond (y == t) 1 0) v.seen (flat_map Sees now) in
          omega (arith, saw, is)

      -- ---- what was read

      menders : List (Worker E)
      menders = take order.workers now

      readers : List (Worker E)
      readers = drop order.workers now

      parts-are : menders ++ readers ≡ now
      unfolding menders readers
      parts-are = take-append-drop order.workers now

      mender-at : (k : ℕ) (d : Worker E) → k < length menders → (k < order.workers) × (get_or menders k d ≡ get_or now k d)
      unfolding menders
      mender-at k d low =
          let below : k < order.workers = omega (arith, low, length-take-le order.workers now enough) in
          (below, get_or-take order.workers now k d below)

      reader-at : (k : ℕ) (d : Worker E) → k < length readers → (order.workers + k < length now) × (get_or readers k d ≡ get_or now (order.workers + k) d)
      unfolding readers
      reader-at k d low = (omega (arith, low, length-drop order.workers now), get_or-drop order.workers now k d)

      mended-bytes : sum_by (λ worker. drawn_bytes order.head order.plans (Draws worker)) menders ≡ mending_reads order.head order.plans
      mended-bytes =
          let none : flat_map Draws readers ≡ [] = none-drawn Draws Sees readers (λ k d low. let at = reader-at k d low in
          ap Draws at.1 ∙ (did (order.workers + k) d at.0).drew_none (omega arith)) in
          let all : w.draws ≡ flat_map Draws menders =
          draws-are ∙ ap (flat_map Draws) (sym parts-are) ∙ flat_map-append Draws menders readers ∙ ap (λ ns. flat_map Draws menders ++ ns) none ∙ append-nil (flat_map Draws menders) in
          drawn-each order.head order.plans Draws menders ∙ ap (drawn_bytes order.head order.plans) (sym all) ∙ drawn-all order.head order.plans w.draws are told-none

      menders-took : TakesWithin (taken_by (map (λ worker. sight worker.eye) menders)) (bytes_of Mend (mending_reads order.head order.plans)) (bytes_of Mend (mending_reads order.head order.plans))
      menders-took =
          let own : Worker E → ℕ = λ worker. drawn_bytes order.head order.plans (Draws worker) in
          subst (λ n. TakesWithin (taken_by (map (λ worker. sight worker.eye) menders)) (bytes_of Mend n) (bytes_of Mend n)) mended-bytes
          (takes-list (λ worker. sight worker.eye) Mend own own menders (λ k d low.
          let at = mender-at k d low in
          let is : sight (get_or menders k d).eye ≡ sight_with (fresh_sight told Mend) (drawn_bytes order.head order.plans (Draws (get_or menders k d))) =
          subst (λ (x : Worker E). sight x.eye ≡ sight_with (fresh_sight told Mend) (drawn_bytes order.head order.plans (Draws x))) (sym at.1) ((did k d (omega (arith, at.0, enough))).mended at.0) in
          let took : (sight (get_or menders k d).eye).taken ≡ counted 0 (own (get_or menders k d)) = ap (λ (x : Sight). x.taken) is in
          (ap (λ (x : Sight). x.duty) is, omega (arith, took), omega (arith, took))))

      -- the readers read by their numbers
      numbered : (h : ℕ → ℕ) → sum_by (λ worker. sum_by h (numbers_of worker.role)) readers ≡ sum_by (stride h order.workers (length order.asks)) (range_with_len 0 (length readers))
      numbered h = sum-placed (λ worker. sum_by h (numbers_of worker.role)) (stride h order.workers (length order.asks)) readers (λ k d low.
          let at = reader-at k d low in
          let high : order.workers ≤ order.workers + k = omega arith in
          let first : order.workers + k - order.workers ≡ k = omega arith in
          let own : k < order.workers = omega (arith, at.0, long, count, hands-most order.live) in
          ap (λ (x : Worker E). sum_by h (numbers_of x.role)) at.1
          ∙ strided-sum h order.workers k (length order.asks) (numbers_of (get_or now (order.workers + k) d).role) own
          (subst (λ r. AreStrided r order.workers (length order.asks) (numbers_of (get_or now (order.workers + k) d).role)) first ((did (order.workers + k) d at.0).numbers high)))
        where
          hands-most : (live : Bool) → hands_of order.workers live ≤ order.workers + order.workers
          hands-most true = omega arith
          hands-most false = omega arith

      live-sum : (h : ℕ → ℕ) → order.live ≡ true → sum_by (λ worker. sum_by h (numbers_of worker.role)) readers ≡ sum_by h (range_with_len 0 (length order.asks))
      unfolding readers
      live-sum h live =
          let many : length readers ≡ order.workers = omega (arith, length-drop order.workers now, long, count ∙ ap (hands_of order.workers) live) in
          numbered h ∙ ap (λ n. sum_by (stride h order.workers (length order.asks)) (range_with_len 0 n)) many ∙ strides-all h order.workers (length order.asks) some

      still-sum : (h : ℕ → ℕ) → order.live ≡ false → sum_by (λ worker. sum_by h (numbers_of worker.role)) readers ≡ 0
      unfolding readers
      still-sum h still =
          let none : length readers ≡ 0 = omega (arith, length-drop order.workers now, long, count ∙ ap (hands_of order.workers) still) in
          numbered h ∙ ap (λ n. sum_by (stride h order.workers (length order.asks)) (range_with_len 0 n)) none

      abbrev Low : ℕ → ℕ
      Low n = least_bytes order.head order.plans (ask_at order.asks n)

      abbrev High : ℕ → ℕ
      High n = most_bytes order.head order.plans order.singles (ask_at order.asks n)

      low-bytes : (live : Bool) → order.live ≡ live → sum_by (λ worker. sum_by Low (numbers_of worker.role)) readers ≡ cond live (replying_reads order) 0
      low-bytes true e = live-sum Low e ∙ asks-numbered (least_bytes order.head order.plans) order.asks ∙ least-sum order.head order.plans order.asks
      low-bytes false e = still-sum Low e

      high-bytes : (live : Bool) → order.live ≡ live → sum_by (λ worker. sum_by High (numbers_of worker.role)) readers ≡ cond live (most_replying_reads order) 0
      high-bytes true e =
          live-sum High e ∙ asks-numbered (most_bytes order.head order.plans order.singles) order.asks ∙ most-sum order order.asks
          ∙ sym (ap (λ b. cond b (sum_by (most_symbols_for order) order.asks * order.head.symbol_bytes) (replying_reads order)) e)
      high-bytes false e = still-sum High e

      readers-took : TakesWithin (taken_by (map (λ worker. sight worker.eye) readers)) (bytes_of Live (cond order.live (replying_reads order) 0)) (bytes_of Live (cond order.live (most_replying_reads order) 0))
      readers-took =
          subst (λ n. TakesWithin (taken_by (map (λ worker. sight worker.eye) readers)) (bytes_of Live n) (bytes_of Live (cond order.live (most_replying_reads order) 0))) (low-bytes order.live refl)
          (subst (λ n. TakesWithin (taken_by (map (λ worker. sight worker.eye) readers)) (bytes_of Live (sum_by (λ worker. sum_by Low (numbers_of worker.role)) readers)) (bytes_of Live n)) (high-bytes order.live refl)
          (takes-list (λ worker. sight worker.eye) Live (λ worker. sum_by Low (numbers_of worker.role)) (λ worker. sum_by High (numbers_of worker.role)) readers (λ k d low.
          let at = reader-at k d low in
          let high : order.workers ≤ order.workers + k = omega arith in
          let one = did (order.workers + k) d at.0 in
          subst (λ (x : Worker E). ((sight x.eye).duty ≡ Live) × (counted 0 (sum_by Low (numbers_of x.role)) ≤ (sight x.eye).taken) × ((sight x.eye).taken ≤ counted 0 (sum_by High (numbers_of x.role))))
          (sym at.1) (one.duty high, one.least high, one.most high))))

      two-duties : (m s : ℕ) → added (bytes_of Mend m) (bytes_of Live s) ≡ record no_bytes { mend = m; live = s }
      two-duties m s = same_totals _ _ _ _ _ _ _ _ _ _ (omega arith) (omega arith) (omega arith) (omega arith) (omega arith)

      pub took-beside : TakesWithin (taken_by (map sight (worker_eyes now))) (least_beside order) (most_beside order)
      took-beside =
          let of : Worker E → Sight = λ worker. sight worker.eye in
          let m : ℕ = mending_reads order.head order.plans in
          let is : added (taken_by (map of menders)) (taken_by (map of readers)) ≡ taken_by (map sight (worker_eyes now)) =
          sym (taken-append (map of menders) (map of readers)) ∙ ap taken_by (sym (map-append of menders readers) ∙ ap (map of) parts-are ∙ sym (map-map Eye sight now)) in
          let both = takes-more (taken_by (map of menders)) (taken_by (map of readers)) (bytes_of Mend m) (bytes_of Mend m) (bytes_of Live (cond order.live (replying_reads order) 0)) (bytes_of Live (cond order.live (most_replying_reads order) 0)) menders-took readers-took in
          subst (λ t. TakesWithin t (least_beside order) (most_beside order)) is
          (subst (λ t. TakesWithin (added (taken_by (map of menders)) (taken_by (map of readers))) t (most_beside order)) (two-duties m (cond order.live (replying_reads order) 0))
          (subst (λ t. TakesWithin (added (taken_by (map of menders)) (taken_by (map of readers))) (added (bytes_of Mend m) (bytes_of Live (cond order.live (replying_reads order) 0))) t) (two-duties m (cond order.live (most_replying_reads order) 0)) both))

    -- ---- the replies

    pub have-slots : order.live ≡ true → HaveSlots order now
    have-slots live = record {
      count = many;
      readers = λ r d low. (did (order.workers + r) d (omega (arith, many, low))).slots (omega arith);
      numbers = λ r d low. subst (λ n. AreStrided n order.workers (length order.asks) (numbers_of (get_or now (order.workers + r) d).role)) {x = order.workers + r - order.workers} {y = r} (omega arith)
          ((did (order.workers + r) d (omega (arith, many, low))).numbers (omega arith));
    }
      where
        many : length now ≡ order.workers + order.workers
        many = omega (arith, long, count ∙ ap (hands_of order.workers) live)

    pub are-answered : order.live ≡ true → AreAnswered order told now
    are-answered live r d low number bytes reply =
        let many : length now ≡ order.workers + order.workers = omega (arith, long, count ∙ ap (hands_of order.workers) live) in
        let answer = (did (order.workers + r) d (omega (arith, many, low))).answers (omega arith) number bytes reply in
        told-weaker told _ _ (λ file lawful. ⊎_elim (λ is. inl is) (λ near. inr (live, near.0, near.1)) lawful) answer

-- ---- as a call of `mend` tells it

pub worked-at : {E : Type 0} (sight : E → Sight) (faults : E → ℕ) (b : Board) (vs ws now : List (Worker E)) → vs ≡ ws
    → ((k : ℕ) (d : Worker E) → k < length vs → HasWorked sight faults b (get_or vs k d) (get_or now k d)) → (k : ℕ) (d : Worker E) → k < length ws → HasWorked sight faults b (get_or ws k d) (get_or now k d)
worked-at {E} sight faults b vs ws now same h =
    subst (λ (xs : List (Worker E)). (k : ℕ) (d : Worker E) → k < length xs → HasWorked sight faults b (get_or xs k d) (get_or now k d)) same h

pub finished-at : {E : Type 0} (sight : E → Sight) (faults : E → ℕ) (l : Layout) (plans : List PlanParts) (ss more_singles : List SinglesOf) (as0 bs : List Ask) (vs ws now : List (Worker E)) → ss ≡ more_singles → as0 ≡ bs → vs ≡ ws
    → ((k : ℕ) (d : Worker E) → k < length vs → HasFinished sight faults l plans ss as0 (get_or vs k d) (get_or now k d)) → (k : ℕ) (d : Worker E) → k < length ws → HasFinished sight faults l plans more_singles bs (get_or ws k d) (get_or now k d)
finished-at {E} sight faults l plans ss more_singles as0 bs vs ws now s a same h =
    subst (λ (xs : List (Worker E)). (k : ℕ) (d : Worker E) → k < length xs → HasFinished sight faults l plans more_singles bs (get_or xs k d) (get_or now k d)) same
    (subst (λ ys. (k : ℕ) (d : Worker E) → k < length vs → HasFinished sight faults l plans more_singles ys (get_or vs k d) (get_or now k d)) a
    (subst (λ zs. (k : ℕ) (d : Worker E) → k < length vs → HasFinished sight faults l plans zs as0 (get_or vs k d) (get_or now k d)) s h))

pub failed-at : {E : Type 0} (faults : E → ℕ) (vs ws now : List (Worker E)) → vs ≡ ws
    → (k : ℕ) × (k < length vs) × ((d : Worker E) → Rose (faults (get_or vs k d).eye) (faults (get_or now k d).eye)) → (k : ℕ) × (k < length ws) × ((d : Worker E) → Rose (faults (get_or ws k d).eye) (faults (get_or now k d).eye))
failed-at {E} faults vs ws now same h =
    subst (λ (xs : List (Worker E)). (k : ℕ) × (k < length xs) × ((d : Worker E) → Rose (faults (get_or xs k d).eye) (faults (get_or now k d).eye))) same h

-- a vector after all of it was written as a slice
pub rejoined-all : {X : Type 0} (len : ℕ) (written before : List X) → length written ≡ len → take len (written ++ drop (length written) before) ≡ written
rejoined-all len written before long = take_at written (drop (length written) before) len long
