use Rattle.std.proofs.Common.{◌∙◌, Some, ap}
use Rattle.mr_array_words.specs.Scatter.{scatter_asked}
use Rattle.mr_array_words.specs.Words.{array_asked}
use Rattle.mr_array_words.specs.declared.words.ArrayWords.{ArrayWords}
use Rattle.mr_arrays.proofs.Names.{scatter-names}
use Rattle.mr_arrays.proofs.top.run.Goals as goal

pub scatter_image-requires-clause-names : goal.scatter_image-requires-clause-names
scatter_image-requires-clause-names g c κs within =
    scatter-names _ (scatter_asked c.in-Ok-Scatter.words)
    (c.in-Ok-Scatter.ensures.reads ∙ ap (λ (words : ArrayWords). Some (array_asked words)) c.in-Ok-Scatter.field-0-is)
