use Rattle.mr_ready.specs.Orders.{parts_of_order}
use Rattle.mr_ready.proofs.ReplyPlaces.{PutReplies}
use Rattle.mr_ready.proofs.replying.put_replies.Given as goal

-- the replies before this one are put
abbrev pub invariant-loop-number : goal.invariant-loop-number
invariant-loop-number g l = PutReplies (parts_of_order l.order) l.workers l.number l.replies
