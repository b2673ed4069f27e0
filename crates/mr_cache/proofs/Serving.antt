-- What a cache answers of a pattern, and what it holds then.
use Rattle.std.proofs.Common.{Bor, ◌≡◌, ◌-◌, ◌∷◌, ◌∙◌, ℕ, true, false, take, Result, Ok, Err, Option, Some, None, All, OnOk, OnErr, refl, sym, ap, subst}
use Rattle.std.specs.Prelude.{is_ok, is_some, option_copied, if◌then◌else◌, IsOk}
use Rattle.std.specs.Map.{lookup}
use Rattle.lru.proofs.CallerLemmas.{Contains-lookup, Contains-promoted}
use Rattle.lru.specs.LruCache.{LruCache, lru_cache, promoted, put_entries}
use Rattle.mr_plan.specs.Plans.{PlanParts}
use Rattle.mr_cache.specs.declared.cache.PlanCache.{PlanCache}
use Rattle.mr_cache.specs.declared.patterns.Pattern.{Pattern}
use Rattle.mr_cache.specs.Cache.{Entries, IsNew, KeepsPlan, AddsPlan, LacksMemory, Serves}
use Rattle.mr_cache.specs.declared.errors.PlanError.{PlanError}
use Rattle.mr_cache.specs.declared.errors.PlanError.TheVariants.{Undetermined, Memory}
use Rattle.mr_cache.specs.Planning.{IsPlannedAs, plan_of_pattern}
use Rattle.mr_cache.proofs.Entries.{front, none, stays, put, All-within, All-stored}
use Rattle.mr_cache.proofs.Keys.{is_pattern, is_pattern-self, is_pattern-same}

-- the entry has the plan of its pattern
abbrev pub IsRight : PlanCache → Pattern × PlanParts → Type 0
IsRight old e = plan_of_pattern old.matrix old.budget e.0 ≡ Ok e.1

-- what the cache holds of a pattern is its plan
right_at : (old : PlanCache) (p : Pattern) (es : Entries) (plan : PlanParts) → All (IsRight old) es → lookup (is_pattern p) es ≡ Some plan → plan_of_pattern old.matrix old.budget p ≡ Ok plan
right_at old p es plan right found =
    let at = Contains-lookup (is_pattern p) es plan found in
    ap (plan_of_pattern old.matrix old.budget) (sym (is_pattern-same p at.0 at.2)) ∙ subst (IsRight old) at.1.2 (right at.1.0 (at.0, plan) at.1.1)

some-of : (o : Option PlanParts) → is_some o ≡ true → (plan : PlanParts) × (o ≡ Some plan)
some-of None e = cc
some-of (Some plan) e = (plan, refl)

none-of : (o : Option PlanParts) → is_some o ≡ false → o ≡ None
none-of None e = refl
none-of (Some plan) e = cc

module _ (old : PlanCache) (p : Pattern) (mid : LruCache Pattern PlanParts)
    (is : mid ≡ lru_cache (promoted (is_pattern p) old.kept.entries) old.kept.cap) where
  pub keeps-plan : (o : Option PlanParts) → o ≡ lookup (is_pattern p) old.kept.entries → is_some o ≡ true → KeepsPlan old p mid.entries
  keeps-plan o o_is there =
      let some = some-of o there in
      let found = sym o_is ∙ some.1 in
      let r = front (is_pattern p) p (is_pattern-self p) (is_pattern-same p) old.kept.entries some.0 found in
      record {
        plan = some.0;
        is = right_at old p old.kept.entries some.0 old.right found;
        moved = record { before = r.0; after = r.1; stood = r.2; stands = ap (λ c. c.entries) is ∙ r.3 };
      }

  pub right-promoted : All (IsRight old) mid.entries
  right-promoted = subst (All (IsRight old)) (sym (ap (λ c. c.entries) is))
      (All-within (IsRight old) old.kept.entries _ (Contains-promoted (is_pattern p) old.kept.entries) old.right)

  module _ (o : Option PlanParts) (o_is : o ≡ lookup (is_pattern p) old.kept.entries) (lacks : is_some o ≡ false) where
    absent : lookup (is_pattern p) old.kept.entries ≡ None
    absent = sym o_is ∙ none-of o lacks

    pub unchanged : mid.entries ≡ old.kept.entries
    unchanged = ap (λ c. c.entries) is ∙ stays (is_pattern p) p (is_pattern-self p) (is_pattern-same p) old.kept.entries absent

    pub is_new : IsNew p old.kept.entries
    is_new = (none (is_pattern p) p (is_pattern-self p) (is_pattern-same p) old.kept.entries absent).1

    -- the entries once the plan is put
    stored : {E : Type 0} (r : Result (Option PlanParts) E) (new : LruCache Pattern PlanParts) (plan : PlanParts)
        → OnOk r (new ≡ lru_cache (put_entries is_pattern mid p plan) mid.cap) → OnErr r (new ≡ mid)
        → new.entries ≡ (if is_ok r then (p, plan) ∷ take (old.kept.cap - 1) old.kept.entries else old.kept.entries)
    stored r new plan ok err =
        put (is_pattern p) p (is_pattern-self p) (is_pattern-same p) r mid new is_pattern plan refl (ap (lookup (is_pattern p)) unchanged ∙ absent) ok err
        ∙ (λ i. if is_ok r then (p, plan) ∷ take (ap (λ c. c.cap) is i - 1) (unchanged i) else unchanged i)

    pub adds-plan : (new : LruCache Pattern PlanParts) (plan : PlanParts) → plan_of_pattern old.matrix old.budget p ≡ Ok plan
        → new ≡ lru_cache (put_entries is_pattern mid p plan) mid.cap → AddsPlan old p new.entries
    adds-plan new plan planned put_is = record {
      plan = plan;
      is = planned;
      fresh = is_new;
      added = stored {E = ℕ} (Ok None) new plan put_is tt;
    }

    pub right-put : {E : Type 0} (r : Result (Option PlanParts) E) (new : LruCache Pattern PlanParts) (plan : PlanParts) → plan_of_pattern old.matrix old.budget p ≡ Ok plan
        → OnOk r (new ≡ lru_cache (put_entries is_pattern mid p plan) mid.cap) → OnErr r (new ≡ mid) → All (IsRight old) new.entries
    right-put r new plan planned ok err = subst (All (IsRight old)) (sym (stored r new plan ok err))
        (All-stored (IsRight old) (is_ok r) (p, plan) (old.kept.cap - 1) old.kept.entries planned old.right)

    pub lacks-memory : (new : LruCache Pattern PlanParts) (plan : PlanParts) → plan_of_pattern old.matrix old.budget p ≡ Ok plan → new ≡ mid → LacksMemory old p new.entries
    lacks-memory new plan planned same = record {
      planned = subst (λ (q : Result PlanParts ℕ). IsOk q) (sym planned) refl;
      fresh = is_new;
      same = ap (λ c. c.entries) same ∙ unchanged;
    }

    pub refuses : (e : PlanError) → IsPlannedAs old.matrix old.budget p (Err e) → Serves old p (Err e) mid.entries
    refuses (Undetermined symbol) h = record { is = h; same = unchanged }
    refuses Memory h = record { planned = h; fresh = is_new; same = unchanged }

-- the test of a borrow is that of its value
pub is_some-copied : {X : Type 0} (o : Option (Bor X)) → is_some (option_copied o) ≡ is_some o
is_some-copied None = refl
is_some-copied (Some b) = refl
