-- The bytes that a rebuild has when it writes.
use Rattle.std.specs.Prelude.{List, length, vec_capacity, ◌*◌, ◌≡◌, ◌≤◌}
use Rattle.mr_image.specs.Heads.{file_bytes}
use Rattle.mr_image.specs.Images.{Layout}
use Rattle.mr_mend.specs.Replies.{line_room, replies_in}
use Rattle.mr_mend.specs.declared.asks.Ask.{Ask}
use Rattle.mr_ready.specs.Reports.{rebuild_report}
use Rattle.mr_ready.specs.declared.buffers.Buffers.{Buffers}
use Rattle.mr_ready.specs.declared.orders.Order.{Order}
use Rattle.mr_steps.specs.Sinks.{Output}

-- there is room for the bytes of the image, a place for each byte of the replies, and room for the line of one reply
pub record HaveRoom (l : Layout) (asks : List Ask) (buffers : Buffers) : Type 0 where
  pub image : file_bytes l ≤ vec_capacity buffers.image
  pub replies : length buffers.replies.items ≡ length asks * l.symbol_bytes
  pub line : line_room l ≤ length buffers.line.items

-- there is a place for each byte of the image and of the replies, and room for the line of one reply
pub record AreBuffers (l : Layout) (asks : List Ask) (buffers : Buffers) : Type 0 where
  pub image : length buffers.image.items ≡ file_bytes l
  pub replies : length buffers.replies.items ≡ length asks * l.symbol_bytes
  pub line : line_room l ≤ length buffers.line.items

-- what is written of them
abbrev pub output_of : Order → Buffers → Output
output_of order buffers = record {
  out = buffers.image.items;
  report = rebuild_report order.head order.plans order.lines.items
      (replies_in order.head.symbol_bytes order.asks.items buffers.replies.items);
}
