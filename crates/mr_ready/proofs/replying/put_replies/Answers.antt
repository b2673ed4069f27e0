use Rattle.std.proofs.Common.{◌≡◌, ◌+◌, ◌-◌, ◌*◌, ◌%◌, ◌<◌, ◌≤◌, ◌∙◌, ℕ, ap, arith, length, rules, subst, sym}
use Rattle.std.proofs.lemmas.Nat.{mod_below, row_fits}
use Rattle.mr_image.proofs.Places.{length-part}
use Rattle.mr_mend.specs.Workers.{AreStrided, IsReplyOf, numbers_of}
use Rattle.mr_mend.specs.declared.workers.Worker.{Worker}
use Rattle.mr_ready.specs.Orders.{parts_of_order}
use Rattle.mr_ready.specs.Replying.{HasSlots}
use Rattle.mr_ready.proofs.ReplyPlaces.{has-number, put-next, put-none, put-whole, reply-long}
use Rattle.mr_ready.proofs.replying.put_replies.Goals as goal

pub loop-number-init : goal.loop-number-init
loop-number-init g c = put-none (parts_of_order c.args.order.now) c.args.workers.now c.args.replies.now

pub reply-reply-requires : goal.reply-reply-requires
reply-reply-requires g c =
    let low : c.loop-number.number < length c.args.order.now.asks.items = omega (arith, c.loop-number-test.true, c.len-number-end.ensures, c.args.order.now.asks.ok.0) in
    has-number c.args.order.now.workers c.loop-number.number (length c.args.order.now.asks.items) (numbers_of c.index-workers-reader.result.role) c.requires.some low
    (subst (λ (w : Worker _). AreStrided (c.loop-number.number % c.args.order.now.workers) c.args.order.now.workers (length c.args.order.now.asks.items) (numbers_of w.role)) (sym c.index-workers-reader.is)
    ((c.requires.readers c.if-not-order.false).numbers (c.loop-number.number % c.args.order.now.workers) c.index-workers-reader.result (mod_below c.loop-number.number c.args.order.now.workers c.requires.some)))

pub slice_bounds-copy_from_slice-end : goal.slice_bounds-copy_from_slice-end
slice_bounds-copy_from_slice-end g c =
    let low : c.loop-number.number < length c.args.order.now.asks.items = omega (arith, c.loop-number-test.true, c.len-number-end.ensures, c.args.order.now.asks.ok.0) in
    let h : c.loop-number.number * c.bytes-size.result + c.bytes-size.result ≤ length c.loop-number.replies =
    omega (arith, row_fits c.loop-number.number c.bytes-size.result (length c.args.order.now.asks.items) c.args.order.now.head.symbol_bytes low (omega arith), c.loop-number.auto.replies, c.requires.replies) in
    search rules

pub copy_from_slice-requires : goal.copy_from_slice-requires
copy_from_slice-requires g c =
    let low : c.loop-number.number < length c.args.order.now.asks.items = omega (arith, c.loop-number-test.true, c.len-number-end.ensures, c.args.order.now.asks.ok.0) in
    let h : c.loop-number.number * c.bytes-size.result + c.bytes-size.result ≤ length c.loop-number.replies =
    omega (arith, row_fits c.loop-number.number c.bytes-size.result (length c.args.order.now.asks.items) c.args.order.now.head.symbol_bytes low (omega arith), c.loop-number.auto.replies, c.requires.replies) in
    length-part (c.loop-number.number * c.bytes-size.result) c.bytes-size.result c.loop-number.replies h ∙ c.bytes-size.ensures.number
    ∙ sym (reply-long c.args.order.now.head c.index-workers-reader.result.role c.loop-number.number c.reply-reply.result.now
    (subst (λ (w : Worker _). HasSlots c.args.order.now.head w.role) (sym c.index-workers-reader.is)
    ((c.requires.readers c.if-not-order.false).readers (c.loop-number.number % c.args.order.now.workers) c.index-workers-reader.result (mod_below c.loop-number.number c.args.order.now.workers c.requires.some)))
    c.reply-reply.ensures)

pub loop-number-preserved : goal.loop-number-preserved
loop-number-preserved g c =
    let low : c.loop-number.number < length c.args.order.now.asks.items = omega (arith, c.loop-number-test.true, c.len-number-end.ensures, c.args.order.now.asks.ok.0) in
    let n : ℕ = c.loop-number.number in
    let size : ℕ = c.bytes-size.result in
    let h : n * size + size ≤ length c.loop-number.replies =
    omega (arith, row_fits n size (length c.args.order.now.asks.items) c.args.order.now.head.symbol_bytes low (omega arith), c.loop-number.auto.replies, c.requires.replies) in
    let width : n * size + size - n * size ≡ c.args.order.now.head.symbol_bytes = omega (arith, c.bytes-size.ensures.number) in
    let long : length c.reply-reply.result.now ≡ c.args.order.now.head.symbol_bytes =
    reply-long c.args.order.now.head c.index-workers-reader.result.role n c.reply-reply.result.now
    (subst (λ (w : Worker _). HasSlots c.args.order.now.head w.role) (sym c.index-workers-reader.is)
    ((c.requires.readers c.if-not-order.false).readers (n % c.args.order.now.workers) c.index-workers-reader.result (mod_below n c.args.order.now.workers c.requires.some)))
    c.reply-reply.ensures in
    put-next (parts_of_order c.args.order.now) c.args.workers.now n (n * size) (n * size + size - n * size) c.loop-number.replies c.copy_from_slice.new.self c.index-workers-reader.result c.requires.some c.loop-number.invariant
    c.index-workers-reader.is (subst (IsReplyOf c.index-workers-reader.result.role n) (sym c.copy_from_slice.ensures.after) c.reply-reply.ensures)
    (ap (λ m. n * m) c.bytes-size.ensures.number) width (ap length c.copy_from_slice.ensures.after ∙ long ∙ sym width) (omega (arith, h))

pub returns : goal.returns
returns g c = λ told live answered.
    put-whole (parts_of_order c.args.order.now) c.args.workers.now c.loop-number.number c.loop-number.replies (omega (arith, c.loop-number-test.false, c.len-number-end.ensures, c.args.order.now.asks.ok.0)) c.loop-number.invariant told answered
