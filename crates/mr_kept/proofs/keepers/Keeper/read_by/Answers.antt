use Rattle.std.proofs.Common.{◌≡◌, ◌≢◌, ℕ, ◌+◌, ◌-◌, ◌*◌, List, Some, take, drop, length, ap, sym, ◌∙◌, arith}
use Rattle.std.specs.Int.{bit_at}
use Rattle.mr_model.specs.Plans.{Recipe}
use Rattle.mr_model.proofs.SetLaws.{member-below}
use Rattle.mr_image.specs.Images.{equation_of, stripe_symbols, xor_symbols}
use Rattle.mr_encode.specs.Data.{symbols_in}
use Rattle.mr_kept.proofs.PartLaws.{is_around, stands-around}
use Rattle.mr_kept.proofs.MendLaws.{sources-fit, mended-some, mended-none}
use Rattle.mr_kept.proofs.keepers.Keeper.read_by.Goals as goal

pub xor_around-requires : goal.xor_around-requires
xor_around-requires g c i member =
    let size : ℕ = length c.args.symbol.now in
    let count : ℕ = stripe_symbols c.args.self.now.head.now in
    let long : length c.args.bytes.now ≡ count * size = c.requires.bytes ∙ ap (λ k. count * k) (sym c.requires.symbol) in
    let is : equation_of c.args.plan.now.recipes c.args.number ≡ Some c.in-Some.sources =
    sym (ap (λ (rs : List Recipe). equation_of rs c.args.number) c.recipes.ensures.all) ∙ sym c.sources_of.ensures ∙ c.in-Some.is in
    let fit = sources-fit c.args.self.now.head.now c.args.plan.now c.requires.plan c.args.bytes.now c.requires.bytes c.args.number c.in-Some.sources is in
    let apart : i ≢ c.args.number = λ e. omega (arith, member, fit.1, ap (bit_at c.in-Some.sources) e) in
    stands-around size count c.args.number i c.args.bytes.now _ _ long c.requires.number (member-below count c.in-Some.sources i fit.0 member) apart
    (is_around size count c.args.bytes.now long c.args.number c.from.result c.bytes-size.result c.requires.number c.from.ensures (c.bytes-size.ensures.number ∙ sym c.requires.symbol))

pub returns-in-Some : goal.returns-in-Some
returns-in-Some g c =
    let size : ℕ = length c.args.symbol.now in
    let count : ℕ = stripe_symbols c.args.self.now.head.now in
    let long : length c.args.bytes.now ≡ count * size = c.requires.bytes ∙ ap (λ k. count * k) (sym c.requires.symbol) in
    let is : equation_of c.args.plan.now.recipes c.args.number ≡ Some c.in-Some.sources =
    sym (ap (λ (rs : List Recipe). equation_of rs c.args.number) c.recipes.ensures.all) ∙ sym c.sources_of.ensures ∙ c.in-Some.is in
    let fit = sources-fit c.args.self.now.head.now c.args.plan.now c.requires.plan c.args.bytes.now c.requires.bytes c.args.number c.in-Some.sources is in
    c.xor_around.ensures count c.args.bytes.now fit.0
    (is_around size count c.args.bytes.now long c.args.number c.from.result c.bytes-size.result c.requires.number c.from.ensures (c.bytes-size.ensures.number ∙ sym c.requires.symbol))
    ∙ (λ j. xor_symbols (c.requires.symbol j) (symbols_in (c.requires.symbol j) count c.args.bytes.now) c.in-Some.sources)
    ∙ sym (mended-some c.args.self.now.head.now c.args.plan.now.recipes c.args.bytes.now c.args.number c.in-Some.sources is)

pub returns-in-None : goal.returns-in-None
returns-in-None g c =
    let width : c.from.result * c.bytes-size.result + c.bytes-size.result - c.from.result * c.bytes-size.result ≡ c.args.self.now.head.now.symbol_bytes = omega (arith, c.bytes-size.ensures.number) in
    c.copy_from_slice.ensures.after
    ∙ (λ j. take (width j) (drop (c.from.ensures j * c.bytes-size.ensures.number j) c.args.bytes.now))
    ∙ sym (mended-none c.args.self.now.head.now c.args.plan.now.recipes c.args.bytes.now c.args.number
    (sym (ap (λ (rs : List Recipe). equation_of rs c.args.number) c.recipes.ensures.all) ∙ sym c.sources_of.ensures ∙ c.in-None.is))
