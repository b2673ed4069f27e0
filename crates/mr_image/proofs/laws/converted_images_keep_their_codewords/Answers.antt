use Rattle.mr_image.proofs.RotatedLaws.{keeps-codewords}
use Rattle.mr_image.proofs.laws.converted_images_keep_their_codewords.Goals as goal

pub returns : goal.returns
returns c = keeps-codewords c.args.head.now
