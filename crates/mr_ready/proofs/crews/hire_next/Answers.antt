use Rattle.std.proofs.Common.{◌≡◌, ◌+◌, ◌<◌, List, length, get_or, sym, ap, subst, ◌∙◌, arith}
use Rattle.std.specs.Vec.Iter.{into_iter_items}
use Rattle.mr_board.specs.Boards.{IsBoardOf, pass_view}
use Rattle.mr_board.specs.declared.view.PassView.{PassView}
use Rattle.mr_mend.specs.declared.workers.Worker.{Worker}
use Rattle.mr_ready.specs.Crews.{IsHired}
use Rattle.mr_ready.specs.Lent.{told_by}
use Rattle.mr_ready.specs.Orders.{parts_of_order}
use Rattle.std.specs.Prelude.{option_to_list}
use Rattle.mr_ready.proofs.HireLaws.{eyes-next, hands-few, hired-push, hired-with}
use Rattle.mr_ready.proofs.crews.hire_next.Goals as goal

pub returns-in-Ok-clause-crew : goal.returns-in-Ok-clause-crew
returns-in-Ok-clause-crew g c =
    let old = c.requires.crew in
    let order = parts_of_order c.args.order.now in
    let b = c.args.crew.now.board in
    let same = eyes-next c.args.crew.now.workers.items c.push_reserved.new.self.items c.in-Ok.worker (into_iter_items c.args.crew.now.rest) (into_iter_items c.next.new.self) c.next.result c.unwrap-eye.result
    c.push_reserved.ensures.items c.next.ensures.items c.unwrap-eye.ensures c.in-Ok.ensures.eye in
    let count : length c.args.crew.now.workers.items ≡ c.args.place = omega (arith, c.args.crew.now.workers.ok.0, old.count) in
    let taken : length (option_to_list c.next.result) ≡ 1 = ap (λ o. length (option_to_list o)) c.unwrap-eye.ensures in
    let one : IsHired order b c.args.place c.in-Ok.worker =
    hired-with order b c.args.place c.split-pass.result c.in-Ok.worker (pass_view c.args.crew.now.pass) c.split-pass.ensures.other c.split-pass.ensures.part c.in-Ok.ensures.pass c.in-Ok.ensures.role in
    record {
      board = subst (λ eyes. IsBoardOf b order.head order.plans (told_by g.E.Eye.sight eyes)) (sym same) old.board;
      pass = c.split-pass.ensures.pass;
      draws = ap (λ (v : PassView). v.draws) c.split-pass.ensures.kept ∙ old.draws;
      idle = ap (λ (v : PassView). v.claimed) c.split-pass.ensures.kept ∙ old.idle;
      parts = ap (λ (v : PassView). v.parts) c.split-pass.ensures.kept ∙ old.parts;
      left = omega (arith, ap (λ (v : PassView). v.left) c.split-pass.ensures.kept, old.left, hands-few c.args.order.now.workers c.args.order.now.live c.requires.workers.1, c.requires.place);
      count = c.push_reserved.ensures.len ∙ ap (λ n. n + 1) old.count;
      hired = λ k d low. subst (λ (ws : List (Worker _)). IsHired order b k (get_or ws k d)) (sym c.push_reserved.ensures.items)
          (hired-push order b c.args.crew.now.workers.items c.in-Ok.worker old.hired (subst (λ n. IsHired order b n c.in-Ok.worker) (sym count) one) k d
          (subst (λ (ws : List (Worker _)). k < length ws) c.push_reserved.ensures.items low));
      empty = old.empty;
      none = old.none;
      places = omega (arith, c.push_reserved.ensures.len, c.push_reserved.ensures.capacity, old.places, c.next.ensures.len, taken);
      room = omega (arith, c.push_reserved.ensures.len, old.room, c.next.ensures.len, taken);
    }
