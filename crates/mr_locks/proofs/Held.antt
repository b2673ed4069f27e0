-- What a caller holds.
use Rattle.std.proofs.Common.{◌≡◌, ℕ, ◌<◌, ◌^◌, List, [], ◌∷◌, length, get_or, sym, ◌∙◌, ap, subst}
use Rattle.atomic_table.specs.Table.{rest}
use Rattle.mr_history.specs.declared.entry.Entry.{Entry}
use Rattle.mr_history.specs.declared.kept.KeptStripe.{KeptStripe}
use Rattle.mr_history.specs.Histories.{FitsHistory, Names, call_count}
use Rattle.mr_locks.specs.Rule.{Mine, Takes, holding_view, waiting_view}
use Rattle.mr_locks.specs.Seats.{HasLocked}

-- the stripe that is held alone stands in front
pub slot-taken : (l : List (ℕ × KeptStripe)) (t s : ℕ) (kept : KeptStripe) → l ≡ (t, kept) ∷ [] → s ≡ t → l ≡ (s, kept) ∷ rest l
slot-taken l t s kept slot is =
    slot ∙ ap (λ (x : ℕ). (x, kept) ∷ []) (sym is) ∙ ap (λ (r : List (ℕ × KeptStripe)). (s, kept) ∷ r) (sym (ap (λ (m : List (ℕ × KeptStripe)). rest m) slot))

-- what stands in front is the stripe that is held
pub kept-same : (l : List (ℕ × KeptStripe)) (t s : ℕ) (kept old : KeptStripe) → l ≡ (t, kept) ∷ [] → l ≡ (s, old) ∷ rest l → kept ≡ old
kept-same l t s kept old slot front = ap (λ (m : List (ℕ × KeptStripe)). (get_or m 0 (t, kept)).1) (sym slot ∙ front)

-- a caller that took nothing but this stripe holds it alone
pub takes-locked : (n : Names) (m m' m'' : Mine) (t k : ℕ) → m.0.names ≡ n → m.1 ≡ [] → m' ≡ (waiting_view m.0 t k, m.1) → Takes m' t k m'' → HasLocked n m t m''
takes-locked n m m' m'' t k named bare waits took =
    let log : List Entry = took.0 in
    let kept : KeptStripe = took.1 in
    let names : m'.0.names ≡ n = ap (λ (x : Mine). x.0.names) waits ∙ named in
    let now : m'' ≡ (holding_view m.0 t k log, (t, kept) ∷ m.1) =
    took.2 ∙ ap (λ (x : Mine). (holding_view x.0 t k log, (t, kept) ∷ x.1)) waits in
    let place : length log ≡ k = took.3 in (
      log,
      record {
        turn = ap (λ (x : Mine). x.0.turn) now ∙ ap (λ (y : ℕ). (holding_view m.0 t y log).turn) (sym place);
        kept = kept;
        slot = ap (λ (x : Mine). x.1) now ∙ ap (λ (l : List (ℕ × KeptStripe)). (t, kept) ∷ l) bare;
        fits = subst (λ (z : Names). FitsHistory z t log kept) names took.6;
        room = subst (λ (z : Names). length log < call_count z t) names (subst (λ (y : ℕ). y < call_count m'.0.names t) (sym place) took.4);
        small = subst (λ (y : ℕ). y < 2 ^ 32) (sym place) took.5;
      },
      ap (λ (x : Mine). x.0) now ∙ ap (λ (y : ℕ). holding_view m.0 t y log) (sym place),
    )
