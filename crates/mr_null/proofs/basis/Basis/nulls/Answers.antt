use Rattle.std.proofs.Common.{◌≡◌, ℕ, ◌+◌, ◌^◌, ◌<◌, ◌≤◌, List, [], ◌∷◌, ◌++◌, map, length, bit_xor, refl, sym, ap, ap₂, subst, ◌∙◌, arith, pow_mono}
use Rattle.std.proofs.lemmas.Bool.{ltb-false}
use Rattle.mr_model.specs.Sets.{minus, often, sum}
use Rattle.mr_model.specs.Members.{members}
use Rattle.mr_model.specs.Code.{Code, Spanned, dropped, generator, all_sums, nulls}
use Rattle.mr_model.proofs.Loops.{IsRest, IsRest-all, IsRest-none, IsRest-turn}
use Rattle.mr_model.proofs.Nulls.{generators_below, generators_below-none, generators_below-turn, length-generators_below, generators-all, length-all_sums, all_sums-push, often-nulls, dropped-member}
use Rattle.mr_null.proofs.basis.Basis.nulls.Goals as goal

-- the XOR of nothing is the empty set alone
only_empty_is : all_sums [] ≡ 0 ∷ []
unfolding all_sums sum
only_empty_is = refl

-- the list never has more than `most` sets
short : (m : Code) (a n s d most : ℕ) (items : List ℕ) → IsRest (dropped m a) n s → d ≡ length (members (dropped m a)) → 2 ^ d ≤ most → most < 2 ^ 32
    → items ≡ all_sums (generators_below m a n) → length items < 2 ^ 32
short m a n s d most items rest count few low e =
    let size : length items ≡ 2 ^ length (generators_below m a n) = ap length e ∙ length-all_sums (generators_below m a n) in
    let less : length (generators_below m a n) ≤ d = omega (arith, count, length-generators_below m a n s rest) in
    let bound : 2 ^ length (generators_below m a n) ≤ 2 ^ d = pow_mono less in
    omega (arith, size, bound, few, low)

whole : (m : Code) (a n s : ℕ) (items : List ℕ) → IsRest (dropped m a) n s → s ≡ 0 → items ≡ all_sums (generators_below m a n) → items ≡ nulls m a
whole m a n s items rest none e = e ∙ ap all_sums (generators-all m a n (IsRest-none (dropped m a) n s rest none))

pub loop-symbol-init : goal.loop-symbol-init
loop-symbol-init c =
    let start = c.into_iter-symbol-iterator.ensures.into_iter_gives ∙ c.symbols-symbol-items.ensures.all ∙ c.minus.ensures
    ∙ ap (minus c.self.inside.set) c.self.invariant.kept_is ∙ ap (λ (v : Spanned). dropped v.code v.set) c.self.view_is in (
      tt,
      tt,
      (
        0,
        subst (λ s. IsRest (dropped c.args.self.now.code c.args.self.now.set) 0 s) (sym start) (IsRest-all (dropped c.args.self.now.code c.args.self.now.set)),
        c.in_ok-masks.ensures ∙ sym (ap all_sums (generators_below-none c.args.self.now.code c.args.self.now.set) ∙ only_empty_is),
      ),
    )

pub generator-requires : goal.generator-requires
generator-requires c =
    let turn = IsRest-turn _ _ _ _ _ c.loop-symbol.invariant.2.1 c.in-Some.ensures.steps in
    (dropped-member c.args.self.now.code c.args.self.now.set c.in-Some.symbol turn.member).0

pub double-requires : goal.double-requires
double-requires c = short c.args.self.now.code c.args.self.now.set _ _ c.d-d.result c.args.most c.loop-symbol.masks.items c.loop-symbol.invariant.2.1 c.d-d.ensures.listed
    (ltb-false _ _ (sym c.is_above.ensures ∙ c.if-is_above.false)) c.ranges.most.fits c.loop-symbol.invariant.2.2

pub loop-symbol-preserved : goal.loop-symbol-preserved
loop-symbol-preserved c =
    let turn = IsRest-turn _ _ _ _ _ c.loop-symbol.invariant.2.1 c.in-Some.ensures.steps in (
      tt,
      tt,
      (
        c.in-Some.symbol + 1,
        turn.rest,
        c.in_ok-double.ensures
            ∙ ap₂ (λ xs g. xs ++ map (λ v. bit_xor v g) xs) c.loop-symbol.invariant.2.2 c.generator.ensures
            ∙ sym (ap all_sums (generators_below-turn c.args.self.now.code c.args.self.now.set _ _ _ turn) ∙ all_sums-push (generators_below c.args.self.now.code c.args.self.now.set _) (generator c.args.self.now.code c.args.self.now.set c.in-Some.symbol)),
      ),
    )

pub of-requires : goal.of-requires
of-requires c = short c.args.self.now.code c.args.self.now.set _ _ c.d-d.result c.args.most c.loop-symbol.masks.items c.loop-symbol.invariant.2.1 c.d-d.ensures.listed
    (ltb-false _ _ (sym c.is_above.ensures ∙ c.if-is_above.false)) c.ranges.most.fits c.loop-symbol.invariant.2.2

pub returns-clause-list : goal.returns-clause-list
returns-clause-list c = c.of.ensures ∙ whole c.args.self.now.code c.args.self.now.set _ _ _ c.loop-symbol.invariant.2.1 c.in-None.ensures.steps.0 c.loop-symbol.invariant.2.2

pub returns-clause-each_once : goal.returns-clause-each_once
returns-clause-each_once c = λ x.
    ap (λ l. often l x) (c.of.ensures ∙ whole c.args.self.now.code c.args.self.now.set _ _ _ c.loop-symbol.invariant.2.1 c.in-None.ensures.steps.0 c.loop-symbol.invariant.2.2)
    ∙ often-nulls c.args.self.now.code c.args.self.now.set x (subst (λ (v : Spanned). v.set < 2 ^ 128) c.self.view_is c.self.invariant.small)
