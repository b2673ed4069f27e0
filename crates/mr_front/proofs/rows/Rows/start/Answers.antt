use Rattle.std.proofs.Common.{◌<◌, length, sym, arith}
use Rattle.mr_model.proofs.Prices.{cost-none}
use Rattle.mr_front.proofs.RowLaws.{put-has}
use Rattle.mr_front.proofs.ScanLaws.{started-rows}
use Rattle.mr_front.proofs.rows.Rows.start.Goals as goal

pub returns-clause-start : goal.returns-clause-start
returns-clause-start c p =
    let rs = c.in_ok-start.start.rows.items in
    let low : 0 < length rs = omega (arith, c.in_ok-start.ensures.count, c.in_ok-start.start.rows.ok.0) in
    started-rows p rs c.index_mut.result.now c.put.new.self low c.index_mut.ensures.value (c.in_ok-start.ensures.none p)
    (put-has c.index_mut.result.now.lists.map c.put.new.self.lists.map 0 0 c.in_ok-put.ensures.lists p (sym (cost-none p.code)))
