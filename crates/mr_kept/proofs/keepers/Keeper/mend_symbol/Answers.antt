use Rattle.std.proofs.Common.{◌≡◌, ℕ, ◌+◌, ◌*◌, ◌≤◌, length, sym, ap, subst, ◌∙◌, arith}
use Rattle.std.specs.Int.{bit_at}
use Rattle.mr_model.proofs.SetLaws.{member-below}
use Rattle.mr_image.specs.Images.{stripe_symbols}
use Rattle.mr_encode.proofs.ColumnLaws.{place_end}
use Rattle.mr_kept.specs.Kept.{StandsAround}
use Rattle.mr_kept.proofs.PartLaws.{stands-lengths}
use Rattle.mr_kept.proofs.keepers.Keeper.mend_symbol.Goals as goal

pub xor_around-requires : goal.xor_around-requires
xor_around-requires g c i member =
    let size : ℕ = c.args.self.now.head.now.symbol_bytes in
    let count : ℕ = stripe_symbols c.args.self.now.head.now in
    let front = c.split_at_mut-low.result.0.now in
    let back = c.split_at_mut-symbol.result.1.now in
    let own_size : length c.split_at_mut-symbol.result.0.now ≡ size = c.split_at_mut-symbol.ensures.front_len ∙ c.bytes-size.ensures.number in
    let low_long : length front ≡ c.args.number * size = c.split_at_mut-low.ensures.front_len ∙ (λ j. c.from.ensures j * c.bytes-size.ensures.number j) in
    let own_end : c.args.number * size + size ≤ length c.args.bytes.now = place_end size count (length c.args.bytes.now) c.args.number c.requires.bytes c.requires.number in
    let all : length front + (size + length back) ≡ count * size = omega (
      arith,
      low_long,
      own_end,
      c.split_at_mut-low.ensures.front_len,
      c.split_at_mut-low.ensures.back_len,
      c.split_at_mut-symbol.ensures.back_len,
      c.bytes-size.ensures.number,
      c.requires.bytes,
    ) in
    subst (λ s. StandsAround s c.args.number i front back) (sym own_size)
    (stands-lengths size count c.args.number i front back low_long all (member-below count c.args.sources i c.requires.sources.0 member)
    (λ e. omega (arith, member, c.requires.sources.1, ap (bit_at c.args.sources) e)))
