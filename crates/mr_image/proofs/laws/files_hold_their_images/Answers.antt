use Rattle.mr_image.proofs.FileLaws.{image_of-image_bytes}
use Rattle.mr_image.proofs.laws.files_hold_their_images.Goals as goal

pub returns : goal.returns
returns c = record { symbols = image_of-image_bytes c.args.head.now }
