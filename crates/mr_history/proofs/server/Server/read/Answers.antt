use Rattle.std.proofs.Common.{arith, ◌*◌, drop, length, ap}
use Rattle.std.proofs.lemmas.List.{length-drop, length-take}
use Rattle.std.proofs.lemmas.Nat.{row_fits}
use Rattle.mr_image.specs.Images.{stripe_symbols}
use Rattle.mr_history.proofs.server.Server.read.Goals as goal

pub symbol-requires : goal.symbol-requires
symbol-requires g c =
    let row = row_fits c.args.number c.args.self.now.terms.now.head.symbol_bytes (stripe_symbols c.args.self.now.terms.now.head) c.args.self.now.terms.now.head.symbol_bytes c.requires.number (omega arith) in
    omega (arith, row, c.requires.size)

pub copy_from_slice-requires : goal.copy_from_slice-requires
copy_from_slice-requires g c =
    let size = c.args.self.now.terms.now.head.symbol_bytes in
    let row = row_fits c.args.number size (stripe_symbols c.args.self.now.terms.now.head) size c.requires.number (omega arith) in
    omega (arith, row, c.requires.size, c.requires.symbol, ap length c.symbol.ensures, length-take size (drop (c.args.number * size) c.args.kept.now.bytes.items), length-drop (c.args.number * size) c.args.kept.now.bytes.items)
