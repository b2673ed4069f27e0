use Rattle.mr_model.proofs.RotationLaws.{codeword-rotated}
use Rattle.mr_bits.proofs.laws.rotated_matrices_move_their_codewords.Goals as goal

pub returns : goal.returns
returns c = record { symbols = codeword-rotated c.args.matrix.now c.args.r }
