-- All eyes of a rebuild at its end: what they took, and whether one failed.
use Rattle.std.proofs.Common.{◌≡◌, ℕ, zero, suc, ◌+◌, ◌-◌, ◌*◌, Bool, true, false, cond, List, [], ◌∷◌, ◌++◌, map, length, get_or, drop, replicate, All, Any, Option, refl, sym, ap, subst, ◌∙◌, arith, append_assoc, sum_by}
use Rattle.std.specs.Prelude.{IfSome, MatchOption, None, OnErr, OnOk, Result, Ok, Err, Some}
use Rattle.std.proofs.lemmas.List.{append-nil, drop_at, get_or_append_left, get_or-append_right, length-append, length-map, length-replicate, map-append}
use Rattle.std.proofs.lemmas.List.Elements.{All-append, All-head, All-tail}
use Rattle.mr_io.specs.Counts.{Rose, counted}
use Rattle.mr_board.specs.Boards.{IsBoardOf}
use Rattle.mr_board.specs.Terms.{BoardTerms}
use Rattle.mr_board.specs.declared.board.Board.{Board}
use Rattle.mr_image.specs.Heads.{file_bytes}
use Rattle.mr_image.specs.Images.{Layout}
use Rattle.mr_image.specs.Sights.{HasImage}
use Rattle.mr_plan.specs.Plans.{PlanParts}
use Rattle.mr_ready.specs.Placing.{IsBoardFor}
use Rattle.mr_io.specs.Growth.{TakesWithin, added, bytes_of, no_bytes, taken_by}
use Rattle.mr_io.specs.Sights.{Sight, fresh_sight, sight_with}
use Rattle.mr_io.specs.declared.duty.Duty.{Duty}
use Rattle.mr_io.specs.declared.duty.Duty.TheVariants.{Copy, Live, Mend}
use Rattle.mr_io.specs.declared.totals.Totals.{Totals}
use Rattle.mr_io.proofs.Growth.{same_totals}
use Rattle.mr_io.proofs.Within.{takes-more, within-none, within-one}
use Rattle.mr_mend.specs.declared.workers.Worker.{Worker}
use Rattle.mr_ready.specs.Crews.{hands_of, worker_eyes}
use Rattle.mr_ready.specs.Desks.{HaveTaken, KeepDuties}
use Rattle.mr_ready.specs.Duties.{duties_of}
use Rattle.mr_ready.specs.Lent.{AreLent}
use Rattle.mr_ready.specs.Orders.{OrderParts}
use Rattle.mr_ready.specs.Reads.{copying_reads, least_beside, least_reads, most_beside, most_reads, most_replying_reads, most_symbols_for, replying_reads}
use Rattle.mr_ready.proofs.DeskLaws.{none-behind, taken-append}

-- ---- lists

tails : {X : Type 0} (xs ys vs ws : List X) → length xs ≡ length vs → xs ++ ys ≡ vs ++ ws → ys ≡ ws
tails xs ys vs ws long same = sym (drop_at xs ys (length xs) refl) ∙ ap (drop (length xs)) same ∙ drop_at vs ws (length xs) (sym long)

pub any-left : {X : Type 0} (P : X → Type 0) (xs ys : List X) → Any P xs → Any P (xs ++ ys)
any-left P xs ys h = (h.0, h.1, omega (arith, h.2, length-append xs ys), get_or_append_left xs ys h.1 h.0 h.2 ∙ h.3, h.4)

pub any-right : {X : Type 0} (P : X → Type 0) (xs ys : List X) → Any P ys → Any P (xs ++ ys)
any-right P xs ys h = (length xs + h.0, h.1, omega (arith, h.2, length-append xs ys), get_or-append_right xs ys (length xs) (length xs + h.0) h.1 refl (omega arith) ∙ ap (λ n. get_or ys n h.1) {x = length xs + h.0 - length xs} {y = h.0} (omega arith) ∙ h.3, h.4)

All-behind : {X : Type 0} (P : X → Type 0) (xs ys : List X) → All P (xs ++ ys) → All P ys
All-behind P [] ys h = h
All-behind P (x ∷ xs) ys h = All-behind P xs ys (All-tail P x (xs ++ ys) h)

duties-seen : {E : Type 0} (sight : E → Sight) (eyes : List E) → map (λ (x : Sight). x.duty) (map sight eyes) ≡ map (λ eye. (sight eye).duty) eyes
duties-seen sight [] = refl
duties-seen sight (eye ∷ eyes) = ap (λ ys. (sight eye).duty ∷ ys) (duties-seen sight eyes)

fresh-duties : (told : Option (List ℕ)) (duties : List Duty) → map (λ (x : Sight). x.duty) (map (fresh_sight told) duties) ≡ duties
fresh-duties told [] = refl
fresh-duties told (duty ∷ duties) = ap (λ ys. duty ∷ ys) (fresh-duties told duties)

quiet-of : {E : Type 0} (faults : E → ℕ) (old now : List E) → map faults now ≡ map faults old → All (λ eye. faults eye ≡ 0) old → All (λ eye. faults eye ≡ 0) now
quiet-of faults [] [] same h k d low = h k d low
quiet-of faults [] (x ∷ now) same h k d low = absurd (omega (arith, ap length same))
quiet-of faults (x ∷ old) [] same h k d low = absurd (omega (arith, low))
quiet-of faults (x ∷ old) (y ∷ now) same h zero d low = ap (λ ns. get_or ns 0 0) same ∙ All-head (λ eye. faults eye ≡ 0) x old h
quiet-of faults (x ∷ old) (y ∷ now) same h (suc k) d low = quiet-of faults old now (ap (drop 1) same) (All-tail (λ eye. faults eye ≡ 0) x old h) k d (omega (arith, low))

-- ---- all eyes

module _ {E : Type 0} (sight : E → Sight) (faults : E → ℕ) (order : OrderParts) (told : Option (List ℕ)) (workers : List (Worker E)) (rest : List E)
    (lent : AreLent sight faults told order.workers order.live (worker_eyes workers ++ rest)) (count : length workers ≡ hands_of order.workers order.live)
    (eyes servers servers' : List E) (copier copier' : E) (others : servers ++ copier ∷ [] ≡ rest) (many : length servers ≡ cond order.live 0 1)
    (kept : KeepDuties sight (worker_eyes workers) eyes) (served : KeepDuties sight servers servers') (copied : KeepDuties sight (copier ∷ []) (copier' ∷ [])) where
  abbrev Duties : List E → List Duty
  Duties xs = map (λ eye. (sight eye).duty) xs

  pub final-duties : Duties (eyes ++ (servers' ++ copier' ∷ [])) ≡ duties_of order.workers order.live
  final-duties =
      map-append (λ eye. (sight eye).duty) eyes (servers' ++ copier' ∷ []) ∙ ap (λ ds. Duties eyes ++ ds) (map-append (λ eye. (sight eye).duty) servers' (copier' ∷ []))
      ∙ (λ i. kept i ++ (served i ++ copied i))
      ∙ sym (ap (λ ds. Duties (worker_eyes workers) ++ ds) (map-append (λ eye. (sight eye).duty) servers (copier ∷ [])))
      ∙ sym (map-append (λ eye. (sight eye).duty) (worker_eyes workers) (servers ++ copier ∷ [])) ∙ ap (λ xs. Duties (worker_eyes workers ++ xs)) others
      ∙ sym (duties-seen sight (worker_eyes workers ++ rest)) ∙ ap (map (λ (x : Sight). x.duty)) lent.sights ∙ fresh-duties told (duties_of order.workers order.live)

  -- the sights of those that no worker has
  fronts : (live : Bool) → duties_of order.workers live ≡ (replicate order.workers Mend ++ cond live (replicate order.workers Live) []) ++ cond live (Copy ∷ []) (Live ∷ Copy ∷ [])
  fronts true = refl
  fronts false = append_assoc (replicate order.workers Mend) (Live ∷ []) (Copy ∷ []) ∙ ap (λ ds. ds ++ Live ∷ Copy ∷ []) (sym (append-nil (replicate order.workers Mend)))

  front-long : (live : Bool) → length (replicate order.workers Mend ++ cond live (replicate order.workers Live) []) ≡ hands_of order.workers live
  front-long true = omega (arith, length-append (replicate order.workers Mend) (replicate order.workers Live), length-replicate order.workers Mend, length-replicate order.workers Live)
  front-long false = omega (arith, length-append (replicate order.workers Mend) [], length-replicate order.workers Mend)

  rest-sights : map sight rest ≡ map (fresh_sight told) (cond order.live (Copy ∷ []) (Live ∷ Copy ∷ []))
  rest-sights =
      let front : List Duty = replicate order.workers Mend ++ cond order.live (replicate order.workers Live) [] in
      let back : List Duty = cond order.live (Copy ∷ []) (Live ∷ Copy ∷ []) in
      tails (map sight (worker_eyes workers)) (map sight rest) (map (fresh_sight told) front) (map (fresh_sight told) back)
      (length-map (worker_eyes workers) sight ∙ length-map workers (λ (w : Worker E). w.eye) ∙ count ∙ sym (front-long order.live) ∙ sym (length-map front (fresh_sight told)))
      (sym (map-append sight (worker_eyes workers) rest) ∙ lent.sights ∙ ap (map (fresh_sight told)) (fronts order.live) ∙ map-append (fresh_sight told) front back)

  module _ (served_all : HaveTaken sight faults (replying_reads order) servers servers') (copied_all : HaveTaken sight faults (copying_reads order.head order.plans) (copier ∷ []) (copier' ∷ []))
    where
      pub final-quiet : All (λ eye. faults eye ≡ 0) eyes → All (λ eye. faults eye ≡ 0) (eyes ++ (servers' ++ copier' ∷ []))
      final-quiet quiet =
          let old : All (λ eye. faults eye ≡ 0) (servers ++ copier ∷ []) = subst (All (λ eye. faults eye ≡ 0)) (sym others) (All-behind (λ eye. faults eye ≡ 0) (worker_eyes workers) rest lent.no_faults) in
          All-append (λ eye. faults eye ≡ 0) eyes (servers' ++ copier' ∷ []) quiet
          (quiet-of faults (servers ++ copier ∷ []) (servers' ++ copier' ∷ [])
          (map-append faults servers' (copier' ∷ []) ∙ (λ i. served_all.quiet i ++ copied_all.quiet i) ∙ sym (map-append faults servers (copier ∷ []))) old)

      later : map sight (servers' ++ copier' ∷ []) ≡ map (λ eye. sight_with (sight eye) (replying_reads order)) servers ++ sight_with (sight copier) (copying_reads order.head order.plans) ∷ []
      later = map-append sight servers' (copier' ∷ []) ∙ (λ i. served_all.sights i ++ copied_all.sights i)

      others-took : (live : Bool) → order.live ≡ live
          → TakesWithin (taken_by (map sight (servers' ++ copier' ∷ []))) (added (bytes_of Live (cond live 0 (replying_reads order))) (bytes_of Copy (copying_reads order.head order.plans)))
          (added (bytes_of Live (cond live 0 (replying_reads order))) (bytes_of Copy (copying_reads order.head order.plans)))
      others-took live e = go live servers (many ∙ ap (λ b. cond b 0 1) e) (sym (map-append sight servers (copier ∷ [])) ∙ ap (map sight) others ∙ rest-sights ∙ ap (λ b. map (fresh_sight told) (cond b (Copy ∷ []) (Live ∷ Copy ∷ []))) e) later
        where
          n : ℕ
          n = copying_reads order.head order.plans

          m : ℕ
          m = replying_reads order

          copy-one : TakesWithin (added (bytes_of Copy (counted 0 n)) no_bytes) (bytes_of Copy n) (bytes_of Copy n)
          copy-one = subst (λ t. TakesWithin (added (bytes_of Copy (counted 0 n)) no_bytes) t t) (none-behind (bytes_of Copy n)) (takes-more (bytes_of Copy (counted 0 n)) no_bytes (bytes_of Copy n) (bytes_of Copy n) no_bytes no_bytes (within-one Copy (counted 0 n) n n (omega arith) (omega arith)) within-none)

          live-none : added (bytes_of Live 0) (bytes_of Copy n) ≡ bytes_of Copy n
          live-none = same_totals _ _ _ _ _ _ _ _ _ _ (omega arith) (omega arith) (omega arith) (omega arith) (omega arith)

          go : (live : Bool) (xs : List E) → length xs ≡ cond live 0 1 → map sight xs ++ sight copier ∷ [] ≡ map (fresh_sight told) (cond live (Copy ∷ []) (Live ∷ Copy ∷ []))
              → map sight (servers' ++ copier' ∷ []) ≡ map (λ eye. sight_with (sight eye) m) xs ++ sight_with (sight copier) n ∷ []
              → TakesWithin (taken_by (map sight (servers' ++ copier' ∷ []))) (added (bytes_of Live (cond live 0 m)) (bytes_of Copy n)) (added (bytes_of Live (cond live 0 m)) (bytes_of Copy n))
          go true [] e s t =
              let c : sight copier ≡ fresh_sight told Copy = ap (λ (xs : List Sight). get_or xs 0 (sight copier)) s in
              let all : map sight (servers' ++ copier' ∷ []) ≡ sight_with (fresh_sight told Copy) n ∷ [] = t ∙ ap (λ (x : Sight). sight_with x n ∷ []) c in
              subst (λ t. TakesWithin (taken_by (map sight (servers' ++ copier' ∷ []))) t t) (sym live-none)
              (subst (λ sights. TakesWithin (taken_by sights) (bytes_of Copy n) (bytes_of Copy n)) (sym all) copy-one)
          go true (x ∷ xs) e s t = absurd (omega (arith, e))
          go false [] e s t = absurd (omega (arith, e))
          go false (x ∷ []) e s t =
              let a : sight x ≡ fresh_sight told Live = ap (λ (xs : List Sight). get_or xs 0 (sight x)) s in
              let c : sight copier ≡ fresh_sight told Copy = ap (λ (xs : List Sight). get_or xs 1 (sight copier)) s in
              let all : map sight (servers' ++ copier' ∷ []) ≡ sight_with (fresh_sight told Live) m ∷ sight_with (fresh_sight told Copy) n ∷ [] =
              t ∙ (λ i. sight_with (a i) m ∷ sight_with (c i) n ∷ []) in
              subst (λ sights. TakesWithin (taken_by sights) (added (bytes_of Live m) (bytes_of Copy n)) (added (bytes_of Live m) (bytes_of Copy n))) (sym all)
              (takes-more (bytes_of Live (counted 0 m)) (added (bytes_of Copy (counted 0 n)) no_bytes) (bytes_of Live m) (bytes_of Live m) (bytes_of Copy n) (bytes_of Copy n)
              (within-one Live (counted 0 m) m m (omega arith) (omega arith)) copy-one)
          go false (x ∷ y ∷ xs) e s t = absurd (omega (arith, e))

      least-all : (live : Bool) → order.live ≡ live → added (least_beside order) (added (bytes_of Live (cond live 0 (replying_reads order))) (bytes_of Copy (copying_reads order.head order.plans))) ≡ least_reads order
      least-all live e = same_totals _ _ _ _ _ _ _ _ _ _ (omega arith) (omega arith) (omega arith) (go live e) (omega arith)
        where
          go : (live : Bool) → order.live ≡ live → cond order.live (replying_reads order) 0 + (cond live 0 (replying_reads order) + 0) ≡ replying_reads order
          go true e = let is : cond order.live (replying_reads order) 0 ≡ replying_reads order = ap (λ b. cond b (replying_reads order) 0) e in omega (arith, is)
          go false e = let is : cond order.live (replying_reads order) 0 ≡ 0 = ap (λ b. cond b (replying_reads order) 0) e in omega (arith, is)

      most-all : (live : Bool) → order.live ≡ live → added (most_beside order) (added (bytes_of Live (cond live 0 (replying_reads order))) (bytes_of Copy (copying_reads order.head order.plans))) ≡ most_reads order
      most-all live e = same_totals _ _ _ _ _ _ _ _ _ _ (omega arith) (omega arith) (omega arith) (go live e) (omega arith)
        where
          go : (live : Bool) → order.live ≡ live → cond order.live (most_replying_reads order) 0 + (cond live 0 (replying_reads order) + 0) ≡ most_replying_reads order
          go true e = let is : cond order.live (most_replying_reads order) 0 ≡ most_replying_reads order = ap (λ b. cond b (most_replying_reads order) 0) e in omega (arith, is)
          go false e =
              let is : cond order.live (most_replying_reads order) 0 ≡ 0 = ap (λ b. cond b (most_replying_reads order) 0) e in
              let own : most_replying_reads order ≡ replying_reads order = ap (λ b. cond b (sum_by (most_symbols_for order) order.asks * order.head.symbol_bytes) (replying_reads order)) e in
              omega (arith, is, own)

      pub final-took : TakesWithin (taken_by (map sight eyes)) (least_beside order) (most_beside order) → TakesWithin (taken_by (map sight (eyes ++ (servers' ++ copier' ∷ [])))) (least_reads order) (most_reads order)
      final-took beside =
          let own : Totals = added (bytes_of Live (cond order.live 0 (replying_reads order))) (bytes_of Copy (copying_reads order.head order.plans)) in
          let all : added (taken_by (map sight eyes)) (taken_by (map sight (servers' ++ copier' ∷ []))) ≡ taken_by (map sight (eyes ++ (servers' ++ copier' ∷ []))) =
          sym (taken-append (map sight eyes) (map sight (servers' ++ copier' ∷ []))) ∙ ap taken_by (sym (map-append sight eyes (servers' ++ copier' ∷ []))) in
          subst (λ t. TakesWithin t (least_reads order) (most_reads order)) all
          (subst (λ t. TakesWithin (added (taken_by (map sight eyes)) (taken_by (map sight (servers' ++ copier' ∷ [])))) t (most_reads order)) (least-all order.live refl)
          (subst (λ t. TakesWithin (added (taken_by (map sight eyes)) (taken_by (map sight (servers' ++ copier' ∷ [])))) (added (least_beside order) own) t) (most-all order.live refl)
          (takes-more (taken_by (map sight eyes)) (taken_by (map sight (servers' ++ copier' ∷ []))) (least_beside order) (most_beside order) own own beside (others-took order.live refl))))

-- ---- answers

pub on-ok : {T F A B : Type 0} (r : Result T F) → OnOk r A → (A → B) → OnOk r B
on-ok (Ok x) a f = f a
on-ok (Err e) a f = tt

pub on-ok-anyway : {T F A : Type 0} (r : Result T F) → A → OnOk r A
on-ok-anyway (Ok x) a = a
on-ok-anyway (Err e) a = tt

pub err-from : {T F A : Type 0} (r : Result T F) → A → OnErr r A
err-from (Ok x) a = tt
err-from (Err e) a = a

pub on-err-then : {T F A B : Type 0} (r : Result T F) → OnErr r A → (A → B) → OnErr r B
on-err-then (Ok x) a f = tt
on-err-then (Err e) a f = f a

pub match-then : {X : Type 0} (A : Type 0) (o : Option X) (P Q : X → Type 0) → MatchOption o A P → ((x : X) → P x → Q x) → MatchOption o A Q
match-then A None P Q h f = h
match-then A (Some x) P Q h f = f x h

-- one eye that failed
pub rose-first : {E : Type 0} (faults : E → ℕ) (eye : E) (before : ℕ) → Rose before (faults eye) → Any (λ eye. Rose 0 (faults eye)) (eye ∷ [])
rose-first faults eye before rose = let here : Rose 0 (faults eye) = omega (arith, rose) in (0, eye, omega arith, refl, here)

-- ---- the files of those that no worker has

bytes-all : {E : Type 0} (sight : E → Sight) (told : Option (List ℕ)) (xs : List E) (duties : List Duty) → map sight xs ≡ map (fresh_sight told) duties → All (λ eye. (sight eye).bytes ≡ told) xs
bytes-all sight told [] ds same k d low = absurd (omega (arith, low))
bytes-all sight told (x ∷ xs) [] same k d low = absurd (omega (arith, ap length same))
bytes-all sight told (x ∷ xs) (duty ∷ ds) same zero d low = ap (λ (ss : List Sight). (get_or ss 0 (fresh_sight told duty)).bytes) same
bytes-all sight told (x ∷ xs) (duty ∷ ds) same (suc k) d low = bytes-all sight told xs ds (ap (drop 1) same) k d (omega (arith, low))

module _ {E : Type 0} (sight : E → Sight) (faults : E → ℕ) (order : OrderParts) (told : Option (List ℕ)) (workers : List (Worker E)) (rest : List E)
    (lent : AreLent sight faults told order.workers order.live (worker_eyes workers ++ rest)) (servers : List E) (copier : E) (others : servers ++ copier ∷ [] ≡ rest) where
  all-told : All (λ eye. (sight eye).bytes ≡ told) (servers ++ copier ∷ [])
  all-told = subst (All (λ eye. (sight eye).bytes ≡ told)) (sym others)
      (All-behind (λ eye. (sight eye).bytes ≡ told) (worker_eyes workers) rest (bytes-all sight told (worker_eyes workers ++ rest) (duties_of order.workers order.live) lent.sights))

  pub copier-told : (sight copier).bytes ≡ told
  copier-told = All-head (λ eye. (sight eye).bytes ≡ told) copier [] (All-behind (λ eye. (sight eye).bytes ≡ told) servers (copier ∷ []) all-told)

  All-front : (P : E → Type 0) (xs ys : List E) → All P (xs ++ ys) → All P xs
  All-front P [] ys h k d low = absurd (omega (arith, low))
  All-front P (x ∷ xs) ys h zero d low = All-head P x (xs ++ ys) h
  All-front P (x ∷ xs) ys h (suc k) d low = All-front P xs ys (All-tail P x (xs ++ ys) h) k d (omega (arith, low))

  pub servers-told : All (λ eye. (sight eye).bytes ≡ told) servers
  servers-told = All-front (λ eye. (sight eye).bytes ≡ told) servers (copier ∷ []) all-told

  pub servers-image : (l : Layout) → HasImage l (record { bytes = told; duty = Copy; taken = 0 }) → All (λ eye. HasImage l (sight eye)) servers
  servers-image l fits k d low = subst (λ o. IfSome o (λ (bytes : List ℕ). length bytes ≡ file_bytes l)) (sym (servers-told k d low)) fits

  pub copier-image : (l : Layout) → HasImage l (record { bytes = told; duty = Copy; taken = 0 }) → HasImage l (sight copier)
  copier-image l fits = subst (λ o. IfSome o (λ (bytes : List ℕ). length bytes ≡ file_bytes l)) (sym copier-told) fits

-- a board of an image is for it
pub board-for : (b c : Board) (l : Layout) (plans : List PlanParts) (told : Option (List ℕ)) → c ≡ b → IsBoardOf b l plans told → IsBoardFor c l plans
board-for b c l plans told same is = subst (λ x. IsBoardFor x l plans) (sym same) record { head = ap (λ (t : BoardTerms). t.head) is; plans_are = ap (λ (t : BoardTerms). t.plans) is }

-- the file that is made, where it is told
pub image-told : (P : List ℕ → Type 0) (Q : List ℕ → Type 0) (told copied : Option (List ℕ)) → copied ≡ told → ((bytes : List ℕ) → told ≡ Some bytes → Q bytes) → ((bytes : List ℕ) → Q bytes → copied ≡ Some bytes → P bytes) → IfSome told P
image-told P Q None copied same q f = tt
image-told P Q (Some bytes) copied same q f = f bytes (q bytes refl) same

pub ok-of : {T F P : Type 0} (r : Result T F) (x : T) → r ≡ Ok x → OnOk r P → P
ok-of {T} {F} {P} r x e h = subst (λ q. OnOk q P) e h

pub err-of : {T F P : Type 0} (r : Result T F) (x : F) → r ≡ Err x → OnErr r P → P
err-of {T} {F} {P} r x e h = subst (λ q. OnErr q P) e h

-- the eyes as they are collected
pub collected : {E : Type 0} (all eyes own servers : List E) (copier : E) → all ≡ (eyes ++ servers) ++ copier ∷ [] → eyes ≡ own → all ≡ own ++ (servers ++ copier ∷ [])
collected all eyes own servers copier is same = is ∙ append_assoc eyes servers (copier ∷ []) ∙ ap (λ xs. xs ++ (servers ++ copier ∷ [])) same
