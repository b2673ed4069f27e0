use Rattle.mr_model.proofs.Apart.{leaves_open, get_or-in_columns}
use Rattle.mr_null.proofs.laws.undetermined_symbols_differ.Goals as goal

pub returns : goal.returns
returns c = leaves_open c.args.matrix.now c.args.set
    (get_or-in_columns c.args.matrix.now.columns c.args.matrix.now.rows c.shape-within_the_limits.ensures.code.columns)
    c.args.symbol c.args.size c.requires.some c.requires.no_equation
