-- The checks of a code: how many there are, and that their symbols are those of the code.
use Rattle.std.proofs.Common.{◌≡◌, ℕ, ◌+◌, ◌^◌, ◌<◌, ◌≤◌, List, [], ◌∷◌, ◌++◌, length, All, sym, ap, subst, ◌∙◌, arith, pow_pos, length-append}
use Rattle.std.specs.Int.{bit_at}
use Rattle.std.proofs.lemmas.List.Elements.{All-map}
use Rattle.mr_model.specs.Members.{members, TakesLeast}
use Rattle.mr_model.specs.Code.{Code, kept, kept_equation, dropped, generator, generators}
use Rattle.mr_model.proofs.SetLaws.{Within, Within-trans, Within-xor, Within-pow, Within-le}
use Rattle.mr_model.proofs.Kept.{kept-within, kept_equation-within}
use Rattle.mr_model.proofs.Loops.{IsRest, IsRest-all, IsRest-none, IsRest-turn}
use Rattle.mr_model.proofs.Nulls.{generators_below, generators_below-none, generators_below-turn, generators-all, dropped-member}
use Rattle.mr_plan.proofs.MemberLists.{members-All}
use Rattle.mr_scrub.specs.Stripes.{checks_of, AreChecks}
use Rattle.mr_scrub.proofs.CodewordLaws.{all_of}

module _ (m : Code) where
  pub generator-low : (f : ℕ) → bit_at (dropped m (all_of m)) f ≡ 1 → generator m (all_of m) f < 2 ^ length m.rows
  generator-low f member =
      let whole = dropped-member m (all_of m) f member in
      let inside : Within (generator m (all_of m) f) (all_of m) =
      Within-xor (kept_equation m (all_of m) f) (2 ^ f) (all_of m)
      (Within-trans (kept_equation m (all_of m) f) (kept m (all_of m)) (all_of m) (kept_equation-within m (all_of m) f) (kept-within m (all_of m)))
      (Within-pow f (all_of m) whole.0) in
      omega (arith, Within-le (generator m (all_of m) f) (all_of m) inside, pow_pos (length m.rows))

  -- each check has symbols of the code alone
  pub checks-low : All (λ check. check < 2 ^ length m.rows) (checks_of m)
  unfolding checks_of generators
  checks-low = All-map (λ check. check < 2 ^ length m.rows) (generator m (all_of m)) (members (dropped m (all_of m)))
      (members-All (λ f. generator m (all_of m) f < 2 ^ length m.rows) (dropped m (all_of m)) generator-low)

  -- the checks of the symbols below n
  pub record AreFirst (n rest : ℕ) (sets : List ℕ) : Type 0 where
    pub to_come : IsRest (dropped m (all_of m)) n rest
    pub listed : sets ≡ generators_below m (all_of m) n
    pub few : length sets ≤ n
    pub in_range : n ≤ 128

  pub AreFirst-none : (rest : ℕ) (sets : List ℕ) → rest ≡ dropped m (all_of m) → sets ≡ [] → AreFirst 0 rest sets
  AreFirst-none rest sets all none = record {
    to_come = subst (λ s. IsRest (dropped m (all_of m)) 0 s) (sym all) (IsRest-all (dropped m (all_of m)));
    listed = none ∙ sym (generators_below-none m (all_of m));
    few = let empty = ap length none in omega (arith, empty);
    in_range = omega arith;
  }

  pub AreFirst-more : (n rest t next : ℕ) (sets more : List ℕ) → AreFirst n rest sets → TakesLeast rest t next → more ≡ sets ++ generator m (all_of m) t ∷ [] → AreFirst (t + 1) next more
  AreFirst-more n rest t next sets more h takes pushed =
      let turn = IsRest-turn (dropped m (all_of m)) n rest t next h.to_come takes in record {
        to_come = turn.rest;
        listed = pushed ∙ ap (λ xs. xs ++ generator m (all_of m) t ∷ []) h.listed ∙ sym (generators_below-turn m (all_of m) n t next turn);
        few = let longer = ap length pushed in omega (arith, longer, length-append sets (generator m (all_of m) t ∷ []), h.few, turn.later);
        in_range = omega (arith, turn.in_range);
      }

  pub AreFirst-room : (n rest t next : ℕ) (sets : List ℕ) → AreFirst n rest sets → TakesLeast rest t next → length sets < 128
  AreFirst-room n rest t next sets h takes =
      let turn = IsRest-turn (dropped m (all_of m)) n rest t next h.to_come takes in omega (arith, h.few, turn.later, turn.in_range)

  pub AreFirst-member : (n rest t next : ℕ) (sets : List ℕ) → AreFirst n rest sets → TakesLeast rest t next → bit_at (dropped m (all_of m)) t ≡ 1
  AreFirst-member n rest t next sets h takes = (IsRest-turn (dropped m (all_of m)) n rest t next h.to_come takes).member

  pub AreFirst-all : (n rest : ℕ) (sets : List ℕ) → AreFirst n rest sets → rest ≡ 0 → AreChecks m sets
  unfolding checks_of
  AreFirst-all n rest sets h none =
      let whole : sets ≡ checks_of m = h.listed ∙ generators-all m (all_of m) n (IsRest-none (dropped m (all_of m)) n rest h.to_come none) in record {
        listed = whole;
        few = omega (arith, h.few, h.in_range);
        symbols = subst (All (λ check. check < 2 ^ length m.rows)) (sym whole) checks-low;
      }
