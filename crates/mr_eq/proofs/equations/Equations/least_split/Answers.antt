use Rattle.std.proofs.Common.{◌≡◌, ◌<◌, ◌-◌, ℕ, Ok, map, ap, subst, ◌∙◌, arith, pow_pos}
use Rattle.std.specs.Prelude.{count_ones}
use Rattle.std.specs.List.{range_with_len}
use Rattle.std.proofs.lemmas.Slice.Zip.{AllZip-map}
use Rattle.rayon.specs.Numbers.{nat_range}
use Rattle.rayon.specs.Lists.{Reduces}
use Rattle.rayon.proofs.ToStd.{nat_range-All}
use Rattle.mr_model.specs.Code.{dropped}
use Rattle.mr_eq.specs.Equations.{IsEarlier, priced_at, width_of}
use Rattle.mr_eq.proofs.LeastLaws.{least-cheapest}
use Rattle.mr_eq.proofs.SplitLaws.{split-least}
use Rattle.mr_eq.proofs.equations.Equations.least_split.Goals as goal

pub priced-first-requires-clause-index : goal.priced-first-requires-clause-index
priced-first-requires-clause-index g c =
    let p = c.args.self.now in
    omega (arith, c.width-width.ensures.width, c.width-width.ensures.power, pow_pos (count_ones (dropped p.code p.avail)))

pub reduce-cost-requires-clause-ready : goal.reduce-cost-requires-clause-ready
reduce-cost-requires-clause-ready g c κs within =
    let ends = c.into_par_iter.ensures in
    let p = c.args.self.now in
    let n = c.width-width.result in
    let inside = nat_range-All (λ i. i < width_of p) 0 n (λ i low high. omega (arith, high, c.width-width.ensures.width)) in
    rw (c.map.ensures.base, c.map.ensures.f, c.with_min_len.ensures.base, ends.0, ends.1) (λ k d lt. ((c.requires, inside k d lt), λ y e. tt))

pub returns : goal.returns
returns g c =
    let p = c.args.self.now in
    let n = c.width-width.result in
    let ends = c.into_par_iter.ensures in
    let done = c.reduce-cost.ensures in
    let whole : n - 0 ≡ n = omega arith in
    let chain = rw (c.map.ensures.base, c.map.ensures.f, c.with_min_len.ensures.base) at done.1 in
    let places = chain.1 ∙ (λ i. nat_range (ends.0 i) (ends.1 i)) ∙ ap (range_with_len 0) whole in
    let some : 0 < n = omega (arith, c.width-width.ensures.power, pow_pos (count_ones (dropped p.code p.avail))) in
    let level = c.args.level in
    let r = c.reduce-cost.result in
    let all = AllZip-map (priced_at p level) chain.0 done.0 chain.2 ∙ ap (map (priced_at p level)) places in
    let reduced = subst (λ (s : ℕ × ℕ). Reduces (λ e. e ≡ s) IsEarlier done.0 r) c.priced-first.ensures done.2 in
    ap Ok (least-cheapest p c.width-width.ensures.loss level c.requires n r.1 c.width-width.ensures.width
    (split-least p level n some done.0 all r reduced))
