use Rattle.std.proofs.Common.{Err, Ok, refl}
use Rattle.std.proofs.lemmas.Result.{err_from_is_err_and}
use Rattle.mr_image.specs.Images.{Layout}
use Rattle.mr_steps.specs.TextFiles.{matrix_file}
use Rattle.mr_top.specs.EncodeSteps.{encode_answer, encoded_file}
use Rattle.mr_top.specs.Encode.{layout_given}
use Rattle.mr_steps.specs.Readings.{given}
use Rattle.mr_top.specs.Replies.{output_of}
use Rattle.mr_top.specs.declared.reply.Reply.TheVariants.{Encode}
use Rattle.mr_steps.proofs.Chains.{reads_err, reads_given, reads_then}
use Rattle.mr_top.proofs.EncodeSteps.{code_next, head_next, image_next}
use Rattle.mr_steps.proofs.Growing.{grows_given, grows_then}
use Rattle.mr_top.proofs.encode.encode.Goals as goal

pub returns-in_err-matrix-clause-reads : goal.returns-in_err-matrix-clause-reads
unfolding encode_answer
returns-in_err-matrix-clause-reads g c =
    let p = err_from_is_err_and c.from_residual.result c.from_residual.ensures.1 in
    rw (p.1, p.2) (reads_err (λ m. m) output_of _ _ _ (λ contents. matrix_file contents c.args.words.now.matrix)
    (λ contents m. code_next contents c.args.words.now.payload c.args.words.now.stripes c.args.words.now.bytes m) c.in_err-matrix.ensures.reads)

pub returns-in_err-head-clause-reads : goal.returns-in_err-head-clause-reads
unfolding encode_answer
returns-in_err-head-clause-reads g c =
    let p = err_from_is_err_and c.from_residual-in_err-head.result c.from_residual-in_err-head.ensures.1 in
    rw (p.1, p.2) (reads_then (λ m. m) output_of _ _ _ c.in_ok-matrix.matrix (Err c.in_err-head.field-0.0) (λ contents. matrix_file contents c.args.words.now.matrix)
    (λ contents m. code_next contents c.args.words.now.payload c.args.words.now.stripes c.args.words.now.bytes m) c.in_ok-matrix.ensures.reads
    (reads_err (λ (l : Layout). l) output_of _ _ _ (λ _. given (layout_given c.in_ok-matrix.matrix c.args.words.now.bytes c.args.words.now.stripes))
    (λ contents l. head_next contents c.args.words.now.payload c.in_ok-matrix.matrix l)
    (reads_given (λ (l : Layout). l) _ (Err c.in_err-head.field-0.0) (layout_given c.in_ok-matrix.matrix c.args.words.now.bytes c.args.words.now.stripes) c.in_err-head.ensures.given)))

pub returns-in_err-image-clause-reads : goal.returns-in_err-image-clause-reads
unfolding encode_answer
returns-in_err-image-clause-reads g c =
    let p = err_from_is_err_and c.from_residual-in_err-image.result c.from_residual-in_err-image.ensures.1 in
    rw (p.1, p.2) (reads_then (λ m. m) output_of _ _ _ c.in_ok-matrix.matrix (Err c.in_err-image.field-0.0) (λ contents. matrix_file contents c.args.words.now.matrix)
    (λ contents m. code_next contents c.args.words.now.payload c.args.words.now.stripes c.args.words.now.bytes m) c.in_ok-matrix.ensures.reads
    (reads_then (λ (l : Layout). l) output_of _ _ _ c.in_ok-head.head (Err c.in_err-image.field-0.0) (λ _. given (layout_given c.in_ok-matrix.matrix c.args.words.now.bytes c.args.words.now.stripes))
    (λ contents l. head_next contents c.args.words.now.payload c.in_ok-matrix.matrix l)
    (reads_given (λ (l : Layout). l) _ (Ok c.in_ok-head.head) (layout_given c.in_ok-matrix.matrix c.args.words.now.bytes c.args.words.now.stripes) c.in_ok-head.ensures.given)
    (reads_err (λ image. image.items) output_of _ _ _ (λ contents. encoded_file contents c.args.words.now.payload c.in_ok-matrix.matrix c.in_ok-head.head)
    (λ _ image. given (image_next image)) c.in_err-image.ensures.reads)))

pub returns-clause-reads : goal.returns-clause-reads
unfolding encode_answer
returns-clause-reads g c = reads_then (λ m. m) output_of _ _ _ c.in_ok-matrix.matrix (Ok (Encode c.in_ok-image.image)) (λ contents. matrix_file contents c.args.words.now.matrix)
    (λ contents m. code_next contents c.args.words.now.payload c.args.words.now.stripes c.args.words.now.bytes m) c.in_ok-matrix.ensures.reads
    (reads_then (λ (l : Layout). l) output_of _ _ _ c.in_ok-head.head (Ok (Encode c.in_ok-image.image)) (λ _. given (layout_given c.in_ok-matrix.matrix c.args.words.now.bytes c.args.words.now.stripes))
    (λ contents l. head_next contents c.args.words.now.payload c.in_ok-matrix.matrix l)
    (reads_given (λ (l : Layout). l) _ (Ok c.in_ok-head.head) (layout_given c.in_ok-matrix.matrix c.args.words.now.bytes c.args.words.now.stripes) c.in_ok-head.ensures.given)
    (reads_then (λ image. image.items) output_of _ _ _ c.in_ok-image.image (Ok (Encode c.in_ok-image.image)) (λ contents. encoded_file contents c.args.words.now.payload c.in_ok-matrix.matrix c.in_ok-head.head)
    (λ _ image. given (image_next image)) c.in_ok-image.ensures.reads
    (reads_given output_of _ (Ok (Encode c.in_ok-image.image)) (image_next c.in_ok-image.image.items) refl)))

pub returns-clause-totals : goal.returns-clause-totals
unfolding encode_answer
returns-clause-totals g c = grows_then (λ m. m) _ _ _ _ _ c.in_ok-matrix.matrix (Ok (Encode c.in_ok-image.image)) (λ contents. matrix_file contents c.args.words.now.matrix)
    (λ contents m. code_next contents c.args.words.now.payload c.args.words.now.stripes c.args.words.now.bytes m)
    c.in_ok-matrix.ensures.reads c.in_ok-matrix.ensures.totals
    (grows_then (λ (l : Layout). l) _ _ _ _ _ c.in_ok-head.head (Ok (Encode c.in_ok-image.image)) (λ _. given (layout_given c.in_ok-matrix.matrix c.args.words.now.bytes c.args.words.now.stripes))
    (λ contents l. head_next contents c.args.words.now.payload c.in_ok-matrix.matrix l)
    (reads_given (λ (l : Layout). l) _ (Ok c.in_ok-head.head) (layout_given c.in_ok-matrix.matrix c.args.words.now.bytes c.args.words.now.stripes) c.in_ok-head.ensures.given)
    (grows_given _ _ (Ok c.in_ok-head.head) (layout_given c.in_ok-matrix.matrix c.args.words.now.bytes c.args.words.now.stripes))
    (grows_then (λ image. image.items) _ _ _ _ _ c.in_ok-image.image (Ok (Encode c.in_ok-image.image)) (λ contents. encoded_file contents c.args.words.now.payload c.in_ok-matrix.matrix c.in_ok-head.head)
    (λ _ image. given (image_next image))
    c.in_ok-image.ensures.reads c.in_ok-image.ensures.totals
    (grows_given _ _ (Ok (Encode c.in_ok-image.image)) (image_next c.in_ok-image.image.items))))
