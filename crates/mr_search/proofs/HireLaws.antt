-- A crew is given seats, works, and gives them back.
use Rattle.std.proofs.Common.{◌≡◌, ◌≢◌, ℕ, suc, ◌+◌, ◌<◌, ◌≤◌, List, [], ◌∷◌, ◌++◌, length, get_or, All, ◌⊎◌, inl, inr, refl, sym, ◌∙◌, arith, ap, subst, ⊎_elim, Ok, Option, Some, None, sum_by}
use Rattle.std.specs.Prelude.{slice_index_or, OnOk}
use Rattle.std.specs.List.{Contains}
use Rattle.std.proofs.Math.ListN.{set, length-set}
use Rattle.std.proofs.lemmas.Bool.{cases_eq}
use Rattle.std.proofs.lemmas.List.{get_or-set_same, get_or-set_other, get_or_default}
use Rattle.std.proofs.lemmas.List.Sums.{sum_by-cons, sum_by-set}
use Rattle.std.proofs.lemmas.List.Elements.{Contains-append_right}
use Rattle.mr_front.specs.declared.layers.Layer.{Layer}
use Rattle.mr_front.specs.Children.{children}
use Rattle.mr_bound.specs.Cost.{least_cost}
use Rattle.mr_counts.specs.Numbers.{AreEachBelow}
use Rattle.mr_bound.specs.Rule.{kept_view, split_view, joined_view}
use Rattle.mr_bound.specs.Seats.{seat_view, problem_of, chunks_of, IsSeatOf}
use Rattle.mr_bound.specs.declared.bound.Bound.{Bound}
use Rattle.mr_bound.specs.declared.bound.BoundSeat.{BoundSeat}
use Rattle.mr_bound.specs.declared.view.BoundView.{BoundView}
use Rattle.mr_search.specs.declared.worker.Worker.{Worker}
use Rattle.mr_front.specs.Rows.{InRows, row_count}
use Rattle.mr_search.specs.Crew.{InCrew}
use Rattle.mr_front.specs.Layers.{IsSomeChild, HasJoined}
use Rattle.mr_search.specs.Layers.{Covers}
use Rattle.mr_search.specs.Work.{share_in, share_of, IsIdle, IsReady, IsDone, HasWorked}
use Rattle.mr_search.proofs.CrewLaws.{some-item}
use Rattle.mr_search.proofs.CoverLaws.{cover-none, cover-join, cover-whole}

pub idle-shares : (n : ℕ) (ws : List Worker) → All (IsIdle n) ws → sum_by share_of ws ≡ 0
idle-shares n [] idle = refl
idle-shares n (w ∷ ws) idle =
    let own : share_of w ≡ 0 = ap share_in (idle 0 w (omega arith)).no_seat in
    omega (arith, sum_by-cons share_of w ws, own, idle-shares n ws (λ k d less. idle (suc k) d (omega (arith, less))))

-- two crews in which each worker has the same share
pub same-shares : (xs ys : List Worker) → length xs ≡ length ys → ((i : ℕ) (d : Worker) → i < length xs → share_of (get_or ys i d) ≡ share_of (get_or xs i d)) → sum_by share_of ys ≡ sum_by share_of xs
same-shares [] [] e h = refl
same-shares [] (y ∷ ys) e h = absurd (omega arith)
same-shares (x ∷ xs) [] e h = absurd (omega arith)
same-shares (x ∷ xs) (y ∷ ys) e h = omega (arith, sum_by-cons share_of x xs, sum_by-cons share_of y ys, h 0 x (omega arith), same-shares xs ys (omega arith) (λ i d lt. h (suc i) d (omega arith)))

set-rows : (ws : List Worker) (place : ℕ) (w d : Worker) → place < length ws → w.rows ≡ (slice_index_or ws place d).rows → (k : ℕ) (f : Worker) → (slice_index_or (set ws place w) k f).rows ≡ (slice_index_or ws k f).rows
set-rows ws place w d low e k f = ⊎_elim
    (λ (here : k ≡ place). ap (λ i. (slice_index_or (set ws place w) i f).rows) here ∙ ap (λ (v : Worker). v.rows) (get_or-set_same ws place w f low) ∙ e
    ∙ ap (λ (v : Worker). v.rows) (get_or_default ws place d f low) ∙ ap (λ i. (slice_index_or ws i f).rows) (sym here))
    (λ (apart : k ≢ place). ap (λ (v : Worker). v.rows) (get_or-set_other ws place k w f apart))
    (cases_eq k place)

set-here : (ws : List Worker) (place k : ℕ) (w f : Worker) → place < length ws → k ≡ place → slice_index_or (set ws place w) k f ≡ w
set-here ws place k w f low here = ap (λ i. slice_index_or (set ws place w) i f) here ∙ get_or-set_same ws place w f low

-- ---- seats given

-- The first `place` workers were given seats that were split off from this one.
pub record IsHiring (b : Bound) (n : ℕ) (old now : List Worker) (place : ℕ) (seat : BoundSeat) : Type 0 where
  pub of_bound : IsSeatOf b seat
  pub fresh : (seat_view seat).draws ≡ []
  pub more : (seat_view seat).left + place ≡ 4095
  pub part : (seat_view seat).parts ≡ 1
  pub same : length now ≡ length old
  pub ready : (k : ℕ) (d : Worker) → k < place → k < length now → IsReady b n (slice_index_or now k d)
  pub idle : (k : ℕ) (d : Worker) → place ≤ k → k < length now → IsIdle n (slice_index_or now k d)
  pub rows : (k : ℕ) (d : Worker) → (slice_index_or now k d).rows ≡ (slice_index_or old k d).rows
  pub shares : (seat_view seat).parts + (seat_view seat).left + sum_by share_of now ≡ 4096

pub hiring-first : (b : Bound) (n : ℕ) (ws : List Worker) (seat : BoundSeat) → IsSeatOf b seat → (seat_view seat).draws ≡ [] → (seat_view seat).left ≡ 4095 → (seat_view seat).parts ≡ 1 → All (IsIdle n) ws
    → IsHiring b n ws ws 0 seat
hiring-first b n ws seat of_bound fresh more part idle = record {
  of_bound = of_bound;
  fresh = fresh;
  more = omega (arith, more);
  part = part;
  same = refl;
  ready = λ k d low. absurd (omega (arith, low));
  idle = λ k d le less. idle k d less;
  rows = λ k d. refl;
  shares = omega (arith, idle-shares n ws idle, more, part);
}

pub hiring-next : (b : Bound) (n : ℕ) (old now : List Worker) (place : ℕ) (seat : BoundSeat) → IsHiring b n old now place seat → (d : Worker) → place < length now → 0 < (seat_view seat).left
    → (kept own : BoundSeat) (w : Worker) → IsSeatOf b kept → seat_view kept ≡ kept_view (seat_view seat) → IsSeatOf b own → seat_view own ≡ split_view (seat_view seat)
    → w.seat ≡ Some own → w.rows ≡ (slice_index_or now place d).rows → IsHiring b n old (set now place w) (place + 1) kept
hiring-next b n old now place seat h d low left kept own w kept_of kept_is own_of own_is has rows =
    let before = h.idle place d (omega arith) low in
    let none : share_of (slice_index_or now place d) ≡ 0 = ap share_in before.no_seat in
    let one : share_of w ≡ 1 = ap share_in has ∙ ap (λ (v : BoundView). v.parts + v.left) own_is in
    record {
      of_bound = kept_of;
      fresh = ap (λ (v : BoundView). v.draws) kept_is ∙ h.fresh;
      more = omega (arith, ap (λ (v : BoundView). v.left) kept_is, h.more, left);
      part = ap (λ (v : BoundView). v.parts) kept_is ∙ h.part;
      same = length-set now place w ∙ h.same;
      ready = λ k f less short. ⊎_elim
          (λ (here : k ≡ place). subst (λ (v : Worker). IsReady b n v) (sym (set-here now place k w f low here))
          (record { own = own; has_seat = has; of_bound = own_of; fresh = ap (λ (v : BoundView). v.draws) own_is; has_rows = ap (λ rs. row_count rs) rows ∙ before.has_rows }))
          (λ (apart : k ≢ place). subst (λ (v : Worker). IsReady b n v) (sym (get_or-set_other now place k w f apart)) (h.ready k f (omega (arith, less, apart)) (omega (arith, short, length-set now place w))))
          (cases_eq k place);
      idle = λ k f le short. subst (λ (v : Worker). IsIdle n v) (sym (get_or-set_other now place k w f (λ here. omega (arith, here, le)))) (h.idle k f (omega (arith, le)) (omega (arith, short, length-set now place w)));
      rows = λ k f. set-rows now place w d low rows k f ∙ h.rows k f;
      shares = omega (arith, sum_by-set share_of now place w d low, none, one, ap (λ (v : BoundView). v.left) kept_is, ap (λ (v : BoundView). v.parts) kept_is, h.shares, left);
    }

-- ---- seats given back

-- The first `place` workers gave their seats back, which were joined to this one.
pub record IsGathering (b : Bound) (l : Layer) (n : ℕ) (old now : List Worker) (place : ℕ) (seat : BoundSeat) : Type 0 where
  pub of_bound : IsSeatOf b seat
  pub same : length now ≡ length old
  pub idle : (k : ℕ) (d : Worker) → k < place → k < length now → IsIdle n (slice_index_or now k d)
  pub others : (k : ℕ) (d : Worker) → place ≤ k → slice_index_or now k d ≡ slice_index_or old k d
  pub rows : (k : ℕ) (d : Worker) → (slice_index_or now k d).rows ≡ (slice_index_or old k d).rows
  pub shares : (seat_view seat).parts + (seat_view seat).left + sum_by share_of now ≡ 4096
  pub worked : (k : ℕ) (d : Worker) → k < place → k < length old → (slice_index_or old k d).outcome ≡ Ok tt
  pub covers : Covers (problem_of b) l (least_cost (problem_of b)) (seat_view seat).draws (InCrew (problem_of b) old (l.level + 1))
  pub ended : 0 < place → (n : ℕ) × (chunks_of b ≤ n) × Contains (seat_view seat).draws n
  pub whole : 0 < place → (seat_view seat).parts + (seat_view seat).left ≡ 4096 → AreEachBelow (seat_view seat).draws (length (seat_view seat).draws)

pub gathering-first : (b : Bound) (l : Layer) (n : ℕ) (ws : List Worker) (seat : BoundSeat) → IsSeatOf b seat → (seat_view seat).draws ≡ [] → (seat_view seat).parts + (seat_view seat).left + sum_by share_of ws ≡ 4096
    → IsGathering b l n ws ws 0 seat
gathering-first b l n ws seat of_bound fresh shares = record {
  of_bound = of_bound;
  same = refl;
  idle = λ k d low. absurd (omega (arith, low));
  others = λ k d le. refl;
  rows = λ k d. refl;
  shares = shares;
  worked = λ k d low. absurd (omega (arith, low));
  covers = cover-none (problem_of b) l (least_cost (problem_of b)) (seat_view seat).draws (InCrew (problem_of b) ws (l.level + 1)) fresh;
  ended = λ low. absurd (omega (arith, low));
  whole = λ low. absurd (omega (arith, low));
}

some-injective : (s t : BoundSeat) → ◌≡◌ {A = Option BoundSeat} (Some s) (Some t) → s ≡ t
some-injective s t e = cc

pub gathering-next : (b : Bound) (l : Layer) (n : ℕ) (old now : List Worker) (place : ℕ) (seat : BoundSeat) → IsGathering b l n old now place seat → All (IsDone b l n) old → (d : Worker) → place < length now
    → (joined other : BoundSeat) (w : Worker) → (slice_index_or now place d).seat ≡ Some other → (slice_index_or now place d).outcome ≡ Ok tt → w.seat ≡ None → w.rows ≡ (slice_index_or now place d).rows
    → IsSeatOf b joined → seat_view joined ≡ joined_view (seat_view seat) (seat_view other)
    → ((seat_view joined).parts + (seat_view joined).left ≡ 4096 → AreEachBelow (seat_view joined).draws (length (seat_view joined).draws))
    → IsGathering b l n old (set now place w) (place + 1) joined
gathering-next b l n old now place seat h done d low joined other w had good none rows joined_of joined_is whole =
    let was = h.others place d (omega arith) in
    let own = done place d (omega (arith, low, h.same)) in
    let had_old : (slice_index_or old place d).seat ≡ Some other = ap (λ (v : Worker). v.seat) (sym was) ∙ had in
    let good_old : (slice_index_or old place d).outcome ≡ Ok tt = ap (λ (v : Worker). v.outcome) (sym was) ∙ good in
    let same_seat : own.own ≡ other = some-injective own.own other (sym own.has_seat ∙ had_old) in
    let draws : (seat_view joined).draws ≡ (seat_view seat).draws ++ (seat_view other).draws = ap (λ (v : BoundView). v.draws) joined_is in
    let ended = subst (λ r. OnOk r ((n : ℕ) × (chunks_of b ≤ n) × Contains (seat_view own.own).draws n)) good_old own.ended in
    let covers = subst (λ r. OnOk r (Covers (problem_of b) l (least_cost (problem_of b)) (seat_view own.own).draws (InRows (problem_of b) (slice_index_or old place d).rows (l.level + 1)))) good_old own.covers in
    let share : share_of (slice_index_or now place d) ≡ (seat_view other).parts + (seat_view other).left = ap share_in had in
    let left : share_of w ≡ 0 = ap share_in none in
    record {
      of_bound = joined_of;
      same = length-set now place w ∙ h.same;
      idle = λ k f less short. ⊎_elim
          (λ (here : k ≡ place). subst (λ (v : Worker). IsIdle n v) (sym (set-here now place k w f low here))
          (record { no_seat = none; has_rows = ap (λ rs. row_count rs) rows ∙ ap (λ (v : Worker). row_count v.rows) was ∙ own.has_rows }))
          (λ (apart : k ≢ place). subst (λ (v : Worker). IsIdle n v) (sym (get_or-set_other now place k w f apart)) (h.idle k f (omega (arith, less, apart)) (omega (arith, short, length-set now place w))))
          (cases_eq k place);
      others = λ k f le. get_or-set_other now place k w f (λ here. omega (arith, here, le)) ∙ h.others k f (omega (arith, le));
      rows = λ k f. set-rows now place w d low rows k f ∙ h.rows k f;
      shares = omega (arith, sum_by-set share_of now place w d low, share, left, ap (λ (v : BoundView). v.left) joined_is, ap (λ (v : BoundView). v.parts) joined_is, h.shares);
      worked = λ k f less short. ⊎_elim
          (λ (here : k ≡ place). ap (λ i. (slice_index_or old i f).outcome) here ∙ ap (λ (v : Worker). v.outcome) (get_or_default old place f d (omega (arith, low, h.same))) ∙ good_old)
          (λ (apart : k ≢ place). h.worked k f (omega (arith, less, apart)) short)
          (cases_eq k place);
      covers = subst (λ (ns : List ℕ). Covers (problem_of b) l (least_cost (problem_of b)) ns (InCrew (problem_of b) old (l.level + 1))) (sym draws)
          (cover-join (problem_of b) l (least_cost (problem_of b)) (seat_view seat).draws (seat_view other).draws (InCrew (problem_of b) old (l.level + 1)) h.covers
          (subst (λ (s : BoundSeat). Covers (problem_of b) l (least_cost (problem_of b)) (seat_view s).draws (InCrew (problem_of b) old (l.level + 1))) same_seat
          (λ k u drawn short child. record {
            place = place;
            inside = omega (arith, low, h.same);
            waits = λ f. subst (λ (v : Worker). InRows (problem_of b) v.rows (l.level + 1) u) (get_or_default old place d f (omega (arith, low, h.same))) (covers k u drawn short child);
          })));
      ended = λ _. (
        ended.0,
        ended.1,
        subst (λ (ns : List ℕ). Contains ns ended.0) (sym draws)
            (Contains-append_right (seat_view seat).draws (seat_view other).draws ended.0 (subst (λ (s : BoundSeat). Contains (seat_view s).draws ended.0) same_seat ended.2)),
      );
      whole = λ _. whole;
    }

pub gathering-all : (b : Bound) (l : Layer) (n : ℕ) (old now : List Worker) (place : ℕ) (seat : BoundSeat) → IsGathering b l n old now place seat → length old ≤ place → 0 < length old → chunks_of b ≡ length l.masks
    → (u : ℕ) → Contains (children (problem_of b) l.level (least_cost (problem_of b)) l.masks) u → InCrew (problem_of b) old (l.level + 1) u
gathering-all b l n old now place seat h all some chunks =
    let low : 0 < place = omega (arith, all, some) in
    let none = idle-shares n now (λ k d less. h.idle k d (omega (arith, less, h.same, all)) less) in
    cover-whole (problem_of b) l (least_cost (problem_of b)) (chunks_of b) (seat_view seat).draws (InCrew (problem_of b) old (l.level + 1)) (omega (arith, chunks))
    (h.whole low (omega (arith, h.shares, none))) (h.ended low) h.covers

-- ---- the work of a crew

pub done-from : (b : Bound) (l : Layer) (n : ℕ) (v w : Worker) → HasWorked b l v w → row_count v.rows ≡ n → IsDone b l n w
done-from b l n v w h e = record { own = h.own; has_seat = h.has_seat; of_bound = h.of_bound; has_rows = h.has_rows ∙ e; ended = h.ended; covers = h.covers }

pub crew-joined : (b : Bound) (l : Layer) (old hired ran now : List Worker) → length hired ≡ length old → length ran ≡ length old → length now ≡ length old
    → ((k : ℕ) (d : Worker) → k < length old → (slice_index_or hired k d).rows ≡ (slice_index_or old k d).rows)
    → ((k : ℕ) (d : Worker) → k < length hired → HasWorked b l (slice_index_or hired k d) (slice_index_or ran k d))
    → ((k : ℕ) (d : Worker) → k < length ran → (slice_index_or now k d).rows ≡ (slice_index_or ran k d).rows)
    → ((k : ℕ) (d : Worker) → k < length ran → (slice_index_or ran k d).outcome ≡ Ok tt)
    → ((u : ℕ) → Contains (children (problem_of b) l.level (least_cost (problem_of b)) l.masks) u → InCrew (problem_of b) ran (l.level + 1) u)
    → HasJoined (problem_of b) l (least_cost (problem_of b)) (InCrew (problem_of b) old) (InCrew (problem_of b) now)
crew-joined b l old hired ran now e1 e2 e3 rows1 work rows2 good covers = record {
  stays = λ i u h.
      let short : h.place < length old = h.inside in
      record {
        place = h.place;
        inside = omega (arith, short, e3);
        waits = λ d.
            let w = work h.place d (omega (arith, short, e1)) in
            let stays = subst (λ r. OnOk r ((i u : ℕ) → InRows (problem_of b) (slice_index_or hired h.place d).rows i u → InRows (problem_of b) (slice_index_or ran h.place d).rows i u)) (good h.place d (omega (arith, short, e2))) w.stays in
            subst (λ rs. InRows (problem_of b) rs i u) (sym (rows2 h.place d (omega (arith, short, e2)))) (stays i u (subst (λ rs. InRows (problem_of b) rs i u) (sym (rows1 h.place d short)) (h.waits d)));
      };
  only = λ i u h.
      let short : h.place < length old = omega (arith, h.inside, e3) in
      let d0 = some-item now h.place h.inside in
      let back = λ (d : Worker).
      let w = work h.place d (omega (arith, short, e1)) in
      let only = subst (λ r. OnOk r ((i u : ℕ) → InRows (problem_of b) (slice_index_or ran h.place d).rows i u → InRows (problem_of b) (slice_index_or hired h.place d).rows i u ⊎ ((i ≡ l.level + 1) × IsSomeChild (problem_of b) l u)))
      (good h.place d (omega (arith, short, e2))) w.only in
      only i u (subst (λ rs. InRows (problem_of b) rs i u) (rows2 h.place d (omega (arith, short, e2))) (h.waits d)) in
      ⊎_elim
      (λ (first : InRows (problem_of b) (slice_index_or hired h.place d0).rows i u). inl (record {
        place = h.place;
        inside = short;
        waits = λ d. subst (λ (v : Worker). InRows (problem_of b) v.rows i u) (get_or_default old h.place d0 d short) (subst (λ rs. InRows (problem_of b) rs i u) (rows1 h.place d0 short) first);
      }))
      (λ new. inr new)
      (back d0);
  joins = λ u child.
      let h = covers u child in
      record { place = h.place; inside = omega (arith, h.inside, e2, e3); waits = λ d. subst (λ rs. InRows (problem_of b) rs (l.level + 1) u) (sym (rows2 h.place d h.inside)) (h.waits d) };
}
