use Rattle.std.proofs.Common.{◌≡◌, ◌<◌, ◌∙◌, length, sym, subst, arith, refl, ap, get_or, bit_xor}
use Rattle.std.proofs.lemmas.List.{take_all}
use Rattle.mr_eq.specs.Equations.{equations_at}
use Rattle.mr_eq.proofs.EquationLists.{equations-length}
use Rattle.mr_front.specs.CostLists.{HasOneMore}
use Rattle.mr_front.specs.declared.cost_lists.CostLists.{CostLists}
use Rattle.mr_front.proofs.RowLaws.{kept-has, put-late}
use Rattle.mr_front.proofs.JoinLaws.{IsJoined, join-first, join-keep, join-drop, joined-stays, joined-only, joined-joins, joined-late, joined-count, joined-least}
use Rattle.mr_front.proofs.row.Row.join.Goals as goal
use Rattle.mr_front.proofs.row.Row.join.Goals.{then-is_between+in_ok-above, else-is_between}

pub loop-index-init : goal.loop-index-init
loop-index-init c = record { joined = join-first c.args.equations.now c.args.self.now.lists.map c.args.mask c.args.span.now.from c.args.span.now.reach c.args.span.now.most (equations_at c.args.equations.now c.args.level); late = refl }

pub overflow_add-children : goal.overflow_add-children
overflow_add-children c = omega (arith, c.loop-index.invariant.joined.few, c.loop-index-test.true)

pub loop-index-preserved : goal.loop-index-preserved
loop-index-preserved c =
    let p = c.args.equations.now in
    let es = equations_at p c.args.level in
    let old = c.args.self.now.lists.map in
    let now = c.loop-index.self.lists.map in
    let i = c.loop-index.index in
    let low : i < length es = omega (arith, equations-length p c.width-index-end.ensures.loss c.args.level c.requires, c.width-index-end.ensures.width, c.loop-index-test.true) in
    let item : c.xor.result ≡ get_or es i 0 = c.xor.ensures ∙ ap (bit_xor c.null.result) c.base-base.ensures ∙ sym (c.null.ensures c.args.level c.requires) in
    let short : c.cost_in-cost.result < 131072 = c.cost_in-cost.ensures.few in
    elim c.if-is_between.branch [
      | then-is_between+in_ok-above w ↦
          rw (w.self-is, w.children-is, w.least-is, w.above-is) (
          let yes = c.is_between.ensures.yes w.if-is_between.true in
          record {
            joined = join-keep p old now c.args.mask c.args.span.now.from c.args.span.now.reach c.args.span.now.most es i c.loop-index.children c.loop-index.least c.loop-index.above c.loop-index.invariant.joined c.xor.result low item
                c.union-union.result c.cost_in-cost.result c.union-union.ensures c.cost_in-cost.ensures.cost
                w.keep.new.self.lists.map w.min-least.result w.in_ok-above.above yes.0 yes.1 short (omega (arith, w.min-least.ensures, w.from.ensures)) (kept-has p now w.keep.new.self.lists.map c.cost_in-cost.result c.args.span.now.reach c.union-union.result c.cost_in-cost.ensures.cost w.in_ok-above.ensures.near (λ high. ap (λ (l : CostLists). l.map) (w.in_ok-above.ensures.far high))) w.in_ok-above.ensures.above;
            late = w.keep.ensures.late ∙ c.loop-index.invariant.late;
          })
      | else-is_between w ↦
          rw (w.self-is, w.children-is, w.least-is, w.above-is) (record {
            joined = join-drop p old now c.args.mask c.args.span.now.from c.args.span.now.reach c.args.span.now.most es i c.loop-index.children c.loop-index.least c.loop-index.above c.loop-index.invariant.joined c.xor.result low item
                c.union-union.result c.cost_in-cost.result c.union-union.ensures c.cost_in-cost.ensures.cost (c.is_between.ensures.no w.if-is_between.false);
            late = c.loop-index.invariant.late;
          })
    ]

pub returns-clause-stays : goal.returns-clause-stays
returns-clause-stays c =
    let p = c.args.equations.now in
    let es = equations_at p c.args.level in
    let l = c.loop-index in
    let all = take_all l.index es (omega (arith, equations-length p c.width-index-end.ensures.loss c.args.level c.requires, c.width-index-end.ensures.width, c.loop-index-test.false)) in
    let old = c.args.self.now in
    let new = c.put_off.new.self in
    let joined = subst (λ vs. IsJoined p old.lists.map vs.map c.args.mask c.args.span.now.from c.args.span.now.reach c.args.span.now.most es l.index l.children l.least l.above) (sym c.put_off.ensures.lists) l.invariant.joined in
    let put = put-late old.late.map new.late.map l.above c.args.mask
    (λ low. subst (λ (x : CostLists). HasOneMore x.map new.late.map l.above c.args.mask) l.invariant.late (c.in_ok-put_off.ensures.late low))
    (λ high. ap (λ (x : CostLists). x.map) (c.in_ok-put_off.ensures.same high ∙ l.invariant.late)) in
    joined-stays p c.args.level c.args.mask c.args.span.now.from c.args.span.now.reach c.args.span.now.most l.index l.children l.least l.above old.lists.map new.lists.map old.late.map new.late.map joined all put

pub returns-clause-only : goal.returns-clause-only
returns-clause-only c =
    let p = c.args.equations.now in
    let es = equations_at p c.args.level in
    let l = c.loop-index in
    let all = take_all l.index es (omega (arith, equations-length p c.width-index-end.ensures.loss c.args.level c.requires, c.width-index-end.ensures.width, c.loop-index-test.false)) in
    let old = c.args.self.now in
    let new = c.put_off.new.self in
    let joined = subst (λ vs. IsJoined p old.lists.map vs.map c.args.mask c.args.span.now.from c.args.span.now.reach c.args.span.now.most es l.index l.children l.least l.above) (sym c.put_off.ensures.lists) l.invariant.joined in
    let put = put-late old.late.map new.late.map l.above c.args.mask
    (λ low. subst (λ (x : CostLists). HasOneMore x.map new.late.map l.above c.args.mask) l.invariant.late (c.in_ok-put_off.ensures.late low))
    (λ high. ap (λ (x : CostLists). x.map) (c.in_ok-put_off.ensures.same high ∙ l.invariant.late)) in
    joined-only p c.args.level c.args.mask c.args.span.now.from c.args.span.now.reach c.args.span.now.most l.index l.children l.least l.above old.lists.map new.lists.map old.late.map new.late.map joined all put

pub returns-clause-joins : goal.returns-clause-joins
returns-clause-joins c =
    let p = c.args.equations.now in
    let es = equations_at p c.args.level in
    let l = c.loop-index in
    let all = take_all l.index es (omega (arith, equations-length p c.width-index-end.ensures.loss c.args.level c.requires, c.width-index-end.ensures.width, c.loop-index-test.false)) in
    let old = c.args.self.now in
    let new = c.put_off.new.self in
    let joined = subst (λ vs. IsJoined p old.lists.map vs.map c.args.mask c.args.span.now.from c.args.span.now.reach c.args.span.now.most es l.index l.children l.least l.above) (sym c.put_off.ensures.lists) l.invariant.joined in
    let put = put-late old.late.map new.late.map l.above c.args.mask
    (λ low. subst (λ (x : CostLists). HasOneMore x.map new.late.map l.above c.args.mask) l.invariant.late (c.in_ok-put_off.ensures.late low))
    (λ high. ap (λ (x : CostLists). x.map) (c.in_ok-put_off.ensures.same high ∙ l.invariant.late)) in
    joined-joins p c.args.level c.args.mask c.args.span.now.from c.args.span.now.reach c.args.span.now.most l.index l.children l.least l.above old.lists.map new.lists.map old.late.map new.late.map joined all put

pub returns-clause-late : goal.returns-clause-late
returns-clause-late c =
    let p = c.args.equations.now in
    let es = equations_at p c.args.level in
    let l = c.loop-index in
    let all = take_all l.index es (omega (arith, equations-length p c.width-index-end.ensures.loss c.args.level c.requires, c.width-index-end.ensures.width, c.loop-index-test.false)) in
    let old = c.args.self.now in
    let new = c.put_off.new.self in
    let joined = subst (λ vs. IsJoined p old.lists.map vs.map c.args.mask c.args.span.now.from c.args.span.now.reach c.args.span.now.most es l.index l.children l.least l.above) (sym c.put_off.ensures.lists) l.invariant.joined in
    let put = put-late old.late.map new.late.map l.above c.args.mask
    (λ low. subst (λ (x : CostLists). HasOneMore x.map new.late.map l.above c.args.mask) l.invariant.late (c.in_ok-put_off.ensures.late low))
    (λ high. ap (λ (x : CostLists). x.map) (c.in_ok-put_off.ensures.same high ∙ l.invariant.late)) in
    joined-late p c.args.level c.args.mask c.args.span.now.from c.args.span.now.reach c.args.span.now.most l.index l.children l.least l.above old.lists.map new.lists.map old.late.map new.late.map joined all put

pub returns-clause-count : goal.returns-clause-count
returns-clause-count c =
    let p = c.args.equations.now in
    let es = equations_at p c.args.level in
    let l = c.loop-index in
    let all = take_all l.index es (omega (arith, equations-length p c.width-index-end.ensures.loss c.args.level c.requires, c.width-index-end.ensures.width, c.loop-index-test.false)) in
    let old = c.args.self.now in
    let new = c.put_off.new.self in
    let joined = subst (λ vs. IsJoined p old.lists.map vs.map c.args.mask c.args.span.now.from c.args.span.now.reach c.args.span.now.most es l.index l.children l.least l.above) (sym c.put_off.ensures.lists) l.invariant.joined in
    let put = put-late old.late.map new.late.map l.above c.args.mask
    (λ low. subst (λ (x : CostLists). HasOneMore x.map new.late.map l.above c.args.mask) l.invariant.late (c.in_ok-put_off.ensures.late low))
    (λ high. ap (λ (x : CostLists). x.map) (c.in_ok-put_off.ensures.same high ∙ l.invariant.late)) in
    joined-count p c.args.level c.args.mask c.args.span.now.from c.args.span.now.reach c.args.span.now.most l.index l.children l.least l.above old.lists.map new.lists.map old.late.map new.late.map joined all put

pub returns-clause-least : goal.returns-clause-least
returns-clause-least c =
    let p = c.args.equations.now in
    let es = equations_at p c.args.level in
    let l = c.loop-index in
    let all = take_all l.index es (omega (arith, equations-length p c.width-index-end.ensures.loss c.args.level c.requires, c.width-index-end.ensures.width, c.loop-index-test.false)) in
    let old = c.args.self.now in
    let new = c.put_off.new.self in
    let joined = subst (λ vs. IsJoined p old.lists.map vs.map c.args.mask c.args.span.now.from c.args.span.now.reach c.args.span.now.most es l.index l.children l.least l.above) (sym c.put_off.ensures.lists) l.invariant.joined in
    let put = put-late old.late.map new.late.map l.above c.args.mask
    (λ low. subst (λ (x : CostLists). HasOneMore x.map new.late.map l.above c.args.mask) l.invariant.late (c.in_ok-put_off.ensures.late low))
    (λ high. ap (λ (x : CostLists). x.map) (c.in_ok-put_off.ensures.same high ∙ l.invariant.late)) in
    joined-least p c.args.level c.args.mask c.args.span.now.from c.args.span.now.reach c.args.span.now.most l.index l.children l.least l.above old.lists.map new.lists.map old.late.map new.late.map joined all put
