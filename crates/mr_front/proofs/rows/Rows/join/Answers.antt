use Rattle.std.proofs.Common.{◌≡◌, ◌+◌, ◌<◌, ◌≤◌, ◌∙◌, ◌⊎◌, ℕ, inl, inr, ⊎_elim, length, refl, subst, sym, ap, arith}
use Rattle.std.specs.Prelude.{IfOk}
use Rattle.std.specs.List.{Contains}
use Rattle.std.proofs.lemmas.Result.{IfOk-weaker}
use Rattle.std.proofs.Math.ListN.{set}
use Rattle.mr_front.specs.Waiting.{mask_cost}
use Rattle.mr_front.specs.Children.{unions_of, children_of}
use Rattle.mr_front.specs.Rows.{InNext, InList}
use Rattle.mr_front.proofs.JoinLaws.{child-union, child-least}
use Rattle.mr_front.proofs.RowsLaws.{on_ok-map, rows-same, rows-stays, rows-only, row-next}
use Rattle.mr_front.proofs.rows.Rows.join.Goals as goal

pub returns-clause-stays : goal.returns-clause-stays
returns-clause-stays c =
    let p = c.args.equations.now in
    let level = c.args.layer.now.level in
    let rs = c.args.self.now.rows.items in
    let k = c.from.result + 1 in
    let e : k ≡ level + 1 = ap (λ n. n + 1) c.from.ensures in
    let r = c.index_mut.result.now in
    let later = c.join.new.self in
    let low : k < length rs = omega (arith, e, c.requires.level, c.requires.count, c.args.self.now.rows.ok.0) in
    let is = c.index_mut.ensures.value in
    on_ok-map c.join.result _ _ (λ h i u there. rows-stays p rs k r later low is
    (λ v own. (row-next p level k v later e).1 (h v ((row-next p level k v r e).0 own))) i u there) c.join.ensures.stays

pub returns-clause-only : goal.returns-clause-only
returns-clause-only c =
    let p = c.args.equations.now in
    let level = c.args.layer.now.level in
    let rs = c.args.self.now.rows.items in
    let k = c.from.result + 1 in
    let e : k ≡ level + 1 = ap (λ n. n + 1) c.from.ensures in
    let r = c.index_mut.result.now in
    let later = c.join.new.self in
    let low : k < length rs = omega (arith, e, c.requires.level, c.requires.count, c.args.self.now.rows.ok.0) in
    let is = c.index_mut.ensures.value in
    let mask = c.get-mask.result in
    on_ok-map c.join.result _ _ (λ h i u there. ⊎_elim
    (λ (old : InList p rs i u). inl old)
    (λ (new : (i ≡ k) × Contains (unions_of p level mask) u). inr (new.0 ∙ e, subst (λ v. Contains (unions_of p level v) u) c.get-mask.ensures new.1))
    (rows-only p rs k r later low is (λ v. Contains (unions_of p level mask) v)
    (λ v own. ⊎_elim
    (λ (old : InNext p level r v). inl ((row-next p level k v r e).1 old))
    (λ (new : Contains (unions_of p level mask) v × (0 ≤ mask_cost p v)). inr new.0)
    (h v ((row-next p level k v later e).0 own)))
    i u there)) c.join.ensures.only

pub returns-clause-joins : goal.returns-clause-joins
returns-clause-joins c =
    let p = c.args.equations.now in
    let level = c.args.layer.now.level in
    let rs = c.args.self.now.rows.items in
    let k = c.from.result + 1 in
    let e : k ≡ level + 1 = ap (λ n. n + 1) c.from.ensures in
    let later = c.join.new.self in
    let low : k < length rs = omega (arith, e, c.requires.level, c.requires.count, c.args.self.now.rows.ok.0) in
    on_ok-map c.join.result _ _ (λ h u child.
    let own = subst (λ v. Contains (children_of p level c.args.most v) u) (sym c.get-mask.ensures) child in
    subst (λ j. InList p (set rs k later) j u) e ((rows-same p rs k u later low).1 ((row-next p level k u later e).1
    (h u (child-union p level c.args.most c.get-mask.result u own) (omega arith) (child-least p level c.args.most c.get-mask.result u own))))) c.join.ensures.joins

pub returns-clause-children : goal.returns-clause-children
returns-clause-children c =
    let p = c.args.equations.now in
    let level = c.args.layer.now.level in
    subst (λ v. IfOk c.join.result (λ made. made.children ≡ length (children_of p level c.args.most v))) c.get-mask.ensures
    (IfOk-weaker c.join.result _ _ (λ made count. count refl) c.join.ensures.count)

pub returns-clause-least : goal.returns-clause-least
returns-clause-least c =
    let p = c.args.equations.now in
    let level = c.args.layer.now.level in
    subst (λ v. IfOk c.join.result (λ made. (made.least ≡ c.args.most) ⊎ ((u : ℕ) × Contains (unions_of p level v) u × (mask_cost p u ≡ made.least)))) c.get-mask.ensures
    c.join.ensures.least
