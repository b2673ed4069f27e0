-- What waits with a crew: its first key, and masks taken from its workers one after another.
use Rattle.std.proofs.Common.{◌≡◌, ◌≢◌, ℕ, zero, suc, ◌+◌, Ok, ◌<◌, ◌≤◌, List, [], ◌∷◌, ◌++◌, length, get_or, All, ◌⊎◌, inl, inr, refl, sym, ◌∙◌, arith, ap, subst, ⊎_elim, length-append, Option, Some, None}
use Rattle.std.specs.Prelude.{◌↔◌, slice_index_or, OnOk}
use Rattle.std.specs.List.{Contains}
use Rattle.std.proofs.Math.ListN.{set, length-set, get_or-append}
use Rattle.std.proofs.Math.Seq.{get_or-append_seam}
use Rattle.std.proofs.lemmas.Bool.{cases_eq, cases_lt}
use Rattle.std.proofs.lemmas.List.{get_or-set_same, get_or-set_other, get_or_default}
use Rattle.mr_eq.specs.Problems.{Loss}
use Rattle.mr_front.specs.Waiting.{mask_cost}
use Rattle.mr_front.specs.Rows.{InRows, LateIn}
use Rattle.mr_front.specs.Layers.{IsFirst, HasLost}
use Rattle.mr_front.proofs.ScanLaws.{in-level}
use Rattle.mr_search.specs.declared.worker.Worker.{Worker}
use Rattle.mr_search.specs.Crew.{InCrew, LateWith, IsKeyAtMost}
use Rattle.mr_search.specs.Work.{IsIdle, HasKey}

pub some-item : (ws : List Worker) (k : ℕ) → k < length ws → Worker
some-item [] k low = absurd (omega arith)
some-item (w ∷ ws) zero low = w
some-item (w ∷ ws) (suc k) low = some-item ws k (omega (arith, low))

-- ---- one worker

pub one-late : (ws : List Worker) (place : ℕ) (d : Worker) → place < length ws → (k c v : ℕ) → LateIn (slice_index_or ws place d).rows k c v → LateWith ws k c v
one-late ws place d low k c v h = record {
  place = place;
  inside = low;
  late = λ e. subst (λ (x : Worker). LateIn x.rows k c v) (get_or_default ws place d e low) h;
}

pub one-in : (p : Loss) (ws : List Worker) (place : ℕ) (d : Worker) → place < length ws → (i u : ℕ) → InRows p (slice_index_or ws place d).rows i u → InCrew p ws i u
one-in p ws place d low i u h = record {
  place = place;
  inside = low;
  waits = λ e. subst (λ (x : Worker). InRows p x.rows i u) (get_or_default ws place d e low) h;
}

-- how high levels are
pub crew-level : (p : Loss) (n : ℕ) (ws : List Worker) → All (IsIdle n) ws → (i u : ℕ) → InCrew p ws i u → i < n
crew-level p n ws idle i u h =
    let d = some-item ws h.place h.inside in
    omega (arith, in-level p (slice_index_or ws h.place d).rows i u (h.waits d), (idle h.place d h.inside).has_rows)

-- ---- lists taken from the workers

-- The masks of this cost and level were taken from the first `place` workers, and joined a list that was `first`.
pub record IsTaking (p : Loss) (n : ℕ) (old now : List Worker) (cost level place : ℕ) (first list : List ℕ) : Type 0 where
  pub same : length now ≡ length old
  pub idle : All (IsIdle n) now
  pub taken : (u : ℕ) → Contains list u → Contains first u ⊎ (InCrew p old level u × (mask_cost p u ≡ cost))
  pub before : (u : ℕ) → Contains first u → Contains list u
  pub each : (k u : ℕ) → k < place → k < length old → ((d : Worker) → InRows p (slice_index_or old k d).rows level u) → mask_cost p u ≡ cost → Contains list u
  pub later : (k i u : ℕ) (d : Worker) → k < place → k < length old
      → InRows p (slice_index_or now k d).rows i u ↔ (InRows p (slice_index_or old k d).rows i u × (i ≡ level → mask_cost p u ≢ cost))
  pub others : (k : ℕ) (d : Worker) → place ≤ k → slice_index_or now k d ≡ slice_index_or old k d

pub taking-first : (p : Loss) (n : ℕ) (ws : List Worker) (cost level : ℕ) (list : List ℕ) → All (IsIdle n) ws → IsTaking p n ws ws cost level 0 list list
taking-first p n ws cost level list idle = record {
  same = refl;
  idle = idle;
  taken = λ u h. inl h;
  before = λ u h. h;
  each = λ k u low. absurd (omega (arith, low));
  later = λ k i u d low. absurd (omega (arith, low));
  others = λ k d le. refl;
}

module _ (p : Loss) (n : ℕ) (old now : List Worker) (cost level place : ℕ) (first list : List ℕ) (h : IsTaking p n old now cost level place first list)
    (d : Worker) (low : place < length now) where
  abbrev was : Worker
  was = slice_index_or now place d

  pub same-was : (e : Worker) → slice_index_or old place e ≡ was
  same-was e = sym (h.others place e (omega arith)) ∙ get_or_default now place e d low

  pub taking-next : (w : Worker) (next : List ℕ) → IsIdle n w
      → ((u : ℕ) → Contains next u ↔ (Contains list u ⊎ (InRows p was.rows level u × (mask_cost p u ≡ cost))))
      → ((i u : ℕ) → InRows p w.rows i u ↔ (InRows p was.rows i u × (i ≡ level → mask_cost p u ≢ cost)))
      → IsTaking p n old (set now place w) cost level (place + 1) first next
  taking-next w next idle gives rest = record {
    same = length-set now place w ∙ h.same;
    idle = λ j f less. ⊎_elim
        (λ (here : j ≡ place). subst (λ (v : Worker). IsIdle n v) (sym (read-same j f here)) idle)
        (λ (apart : j ≢ place). subst (λ (v : Worker). IsIdle n v) (sym (get_or-set_other now place j w f apart)) (h.idle j f (omega (arith, less, length-set now place w))))
        (cases_eq j place);
    taken = λ u there. ⊎_elim (λ (left : Contains list u). h.taken u left)
        (λ (new : InRows p was.rows level u × (mask_cost p u ≡ cost)).
        inr (one-in p old place d (omega (arith, low, h.same)) level u (subst (λ (v : Worker). InRows p v.rows level u) (sym (same-was d)) new.0), new.1))
        ((gives u).0 there);
    before = λ u there. (gives u).1 (inl (h.before u there));
    each = λ j u less short waits price. (gives u).1 (⊎_elim
        (λ (here : j ≡ place). inr (subst (λ (v : Worker). InRows p v.rows level u) (same-was d) (subst (λ i. InRows p (slice_index_or old i d).rows level u) here (waits d)), price))
        (λ (apart : j ≢ place). inl (h.each j u (omega (arith, less, apart)) short waits price))
        (cases_eq j place));
    later = λ j i u f less short. ⊎_elim
        (λ (here : j ≡ place).
        let from : slice_index_or (set now place w) j f ≡ w = read-same j f here in
        let to : slice_index_or old j f ≡ was = ap (λ i. slice_index_or old i f) here ∙ same-was f in (
          (λ there. let t = (rest i u).0 (subst (λ (v : Worker). InRows p v.rows i u) from there) in (subst (λ (v : Worker). InRows p v.rows i u) (sym to) t.0, t.1)),
          (λ there. subst (λ (v : Worker). InRows p v.rows i u) (sym from) ((rest i u).1 (subst (λ (v : Worker). InRows p v.rows i u) to there.0, there.1))),
        ))
        (λ (apart : j ≢ place). subst (λ (v : Worker). InRows p v.rows i u ↔ (InRows p (slice_index_or old j f).rows i u × (i ≡ level → mask_cost p u ≢ cost)))
        (sym (get_or-set_other now place j w f apart)) (h.later j i u f (omega (arith, less, apart)) short))
        (cases_eq j place);
    others = λ j f le. get_or-set_other now place j w f (λ at. omega (arith, at, le)) ∙ h.others j f (omega (arith, le));
  }
    where
      read-same : (j : ℕ) (f : Worker) → j ≡ place → slice_index_or (set now place w) j f ≡ w
      read-same j f here = ap (λ i. slice_index_or (set now place w) i f) here ∙ get_or-set_same now place w f low

module _ (p : Loss) (n : ℕ) (old now : List Worker) (cost level place : ℕ) (first list : List ℕ) (h : IsTaking p n old now cost level place first list)
    (all : length old ≤ place) where
  pub taking-taken : (u : ℕ) → Contains list u ↔ (Contains first u ⊎ (InCrew p old level u × (mask_cost p u ≡ cost)))
  taking-taken u = (
    h.taken u,
    λ there. ⊎_elim (λ (left : Contains first u). h.before u left)
        (λ (t : InCrew p old level u × (mask_cost p u ≡ cost)). h.each t.0.place u (omega (arith, t.0.inside, all)) t.0.inside t.0.waits t.1) there,
  )

  pub taking-rest : (i u : ℕ) → InCrew p now i u ↔ (InCrew p old i u × (i ≡ level → mask_cost p u ≢ cost))
  taking-rest i u = (
    (λ w.
        let short : w.place < length old = omega (arith, w.inside, h.same) in
        let less : w.place < place = omega (arith, short, all) in (
          record { place = w.place; inside = short; waits = λ d. ((h.later w.place i u d less short).0 (w.waits d)).0 },
          let d = some-item now w.place w.inside in ((h.later w.place i u d less short).0 (w.waits d)).1,
        )),
    (λ t.
        let short = t.0.inside in
        let less : t.0.place < place = omega (arith, short, all) in
        record { place = t.0.place; inside = omega (arith, short, h.same); waits = λ d. (h.later t.0.place i u d less short).1 (t.0.waits d, t.1) }),
  )

-- ---- a new crew

pub crew-one : (p : Loss) (ws : List Worker) (w : Worker) → ws ≡ w ∷ [] → (i u : ℕ) → InCrew p ws i u ↔ InRows p w.rows i u
crew-one p ws w is i u = subst (λ (vs : List Worker). InCrew p vs i u ↔ InRows p w.rows i u) (sym is) (
  (λ h. subst (λ (v : Worker). InRows p v.rows i u) (here h.place h.inside w) (h.waits w)),
  (λ h. record { place = 0; inside = omega arith; waits = λ d. h }),
)
  where
    here : (k : ℕ) → k < length (w ∷ []) → (d : Worker) → get_or (w ∷ []) k d ≡ w
    here zero low d = refl
    here (suc k) low d = absurd (omega (arith, low))

pub crew-more : (p : Loss) (ws : List Worker) (w : Worker) → ((i u : ℕ) → InRows p w.rows i u → ⊥) → (i u : ℕ) → InCrew p (ws ++ w ∷ []) i u ↔ InCrew p ws i u
crew-more p ws w none i u = (
  (λ h. ⊎_elim
      (λ (old : h.place < length ws). record { place = h.place; inside = old; waits = λ d. subst (λ (v : Worker). InRows p v.rows i u) (get_or-append ws (w ∷ []) d h.place old) (h.waits d) })
      (λ (new : length ws ≤ h.place).
      let at : h.place ≡ length ws = omega (arith, new, h.inside, length-append ws (w ∷ [])) in
      absurd (none i u (subst (λ (v : Worker). InRows p v.rows i u) (ap (λ k. get_or (ws ++ w ∷ []) k w) at ∙ get_or-append_seam ws w [] w) (h.waits w))))
      (cases_lt h.place (length ws))),
  (λ h. record { place = h.place; inside = omega (arith, h.inside, length-append ws (w ∷ [])); waits = λ d. subst (λ (v : Worker). InRows p v.rows i u) (sym (get_or-append ws (w ∷ []) d h.place h.inside)) (h.waits d) }),
)

-- ---- the first key

pub key-refl : (a : Option (ℕ × ℕ)) → IsKeyAtMost a a
key-refl None = tt
key-refl (Some x) = (omega arith, λ e. omega arith)

pub key-trans : (a b c : Option (ℕ × ℕ)) → IsKeyAtMost a b → IsKeyAtMost b c → IsKeyAtMost a c
key-trans a b None h k = tt
key-trans a None (Some z) h k = absurd k
key-trans None (Some y) (Some z) h k = absurd h
key-trans (Some x) (Some y) (Some z) h k = (omega (arith, h.0, k.0), λ e. omega (arith, h.1 (omega (arith, e, h.0, k.0)), k.1 (omega (arith, e, h.0, k.0))))

-- what each worker has found
module _ (p : Loss) (n most : ℕ) (old now : List Worker) (long : length now ≡ length old) (idle : All (IsIdle n) old)
    (work : (k : ℕ) (d : Worker) → k < length old → HasKey p most (slice_index_or old k d) (slice_index_or now k d))
    (good : (k : ℕ) (d : Worker) → k < length now → (slice_index_or now k d).outcome ≡ Ok tt) where
  pub found-idle : All (IsIdle n) now
  found-idle k d less =
      let w = work k d (omega (arith, less, long)) in
      let v = idle k d (omega (arith, less, long)) in
      record { no_seat = w.seat ∙ v.no_seat; has_rows = w.has_rows ∙ v.has_rows }

  one-lost : (k : ℕ) (d : Worker) → k < length now → HasLost p most (InRows p (slice_index_or old k d).rows) (InRows p (slice_index_or now k d).rows)
  one-lost k d less =
      subst (λ r. OnOk r (HasLost p most (InRows p (slice_index_or old k d).rows) (InRows p (slice_index_or now k d).rows))) (good k d less) (work k d (omega (arith, less, long))).lost

  pub found-lost : HasLost p most (InCrew p old) (InCrew p now)
  found-lost = record {
    only = λ i u h. record { place = h.place; inside = omega (arith, h.inside, long); waits = λ d. (one-lost h.place d h.inside).only i u (h.waits d) };
    keeps = λ i u h le.
        let short : h.place < length now = omega (arith, h.inside, long) in
        record { place = h.place; inside = short; waits = λ d. (one-lost h.place d short).keeps i u (h.waits d) le };
  }

  one-first : (k : ℕ) (d : Worker) → k < length now → IsFirst p (InRows p (slice_index_or now k d).rows) (LateIn (slice_index_or now k d).rows) (slice_index_or now k d).key
  one-first k d less =
      subst (λ r. OnOk r (IsFirst p (InRows p (slice_index_or now k d).rows) (LateIn (slice_index_or now k d).rows) (slice_index_or now k d).key)) (good k d less)
      (work k d (omega (arith, less, long))).first

  -- a worker's own key is that of what waits with it
  least-waits : (w : Worker) (key o : Option (ℕ × ℕ)) → w.key ≡ o → IsKeyAtMost key o → IsFirst p (InRows p w.rows) (LateIn w.rows) o
      → (i u : ℕ) → InRows p w.rows i u → IsKeyAtMost key (Some (mask_cost p u, i))
  least-waits w key None is low first i u h = absurd (first.0 i u h)
  least-waits w key (Some k) is low first i u h = key-trans key (Some k) (Some (mask_cost p u, i)) low (first.least i u h)

  least-late : (w : Worker) (key o : Option (ℕ × ℕ)) → w.key ≡ o → IsKeyAtMost key o → IsFirst p (InRows p w.rows) (LateIn w.rows) o
      → (k c v : ℕ) → LateIn w.rows k c v → IsKeyAtMost key (Some (c, k))
  least-late w key None is low first k c v h = absurd (first.1 k c v h)
  least-late w key (Some x) is low first k c v h = key-trans key (Some x) (Some (c, k)) low (first.made k c v h)

  module _ (key : Option (ℕ × ℕ)) (lower : (k : ℕ) (d : Worker) → k < length now → IsKeyAtMost key (slice_index_or now k d).key) where
    crew-waits : (i u : ℕ) → InCrew p now i u → IsKeyAtMost key (Some (mask_cost p u, i))
    crew-waits i u h =
        let d = some-item now h.place h.inside in
        let w = slice_index_or now h.place d in
        least-waits w key w.key refl (lower h.place d h.inside) (one-first h.place d h.inside) i u (h.waits d)

    crew-late : (k c v : ℕ) → LateWith now k c v → IsKeyAtMost key (Some (c, k))
    crew-late k c v h =
        let d = some-item now h.place h.inside in
        let w = slice_index_or now h.place d in
        least-late w key w.key refl (lower h.place d h.inside) (one-first h.place d h.inside) k c v (h.late d)

  pub found-first : (key : Option (ℕ × ℕ)) → ((k : ℕ) (d : Worker) → k < length now → IsKeyAtMost key (slice_index_or now k d).key)
      → (key ≡ None) ⊎ ((k : ℕ) × (k < length now) × ((d : Worker) → (slice_index_or now k d).key ≡ key))
      → IsFirst p (InCrew p now) (LateWith now) key
  found-first None lower one = ((λ i u h. crew-waits None lower i u h), (λ k c v h. crew-late None lower k c v h))
  found-first (Some x) lower one = ⊎_elim
      (λ (none : ◌≡◌ {A = Option (ℕ × ℕ)} (Some x) None). absurd (cc))
      (λ (t : (k : ℕ) × (k < length now) × ((d : Worker) → (slice_index_or now k d).key ≡ Some x)).
      let d = some-item now t.0 t.1 in
      let w = slice_index_or now t.0 d in
      let own = subst (λ o. IsFirst p (InRows p w.rows) (LateIn w.rows) o) (t.2 d) (one-first t.0 d t.1) in
      record {
        some = (own.some.0, one-in p now t.0 d t.1 x.1 own.some.0 own.some.1, own.some.2);
        least = λ i u h. crew-waits (Some x) lower i u h;
        made = λ k c v h. crew-late (Some x) lower k c v h;
      })
      one
