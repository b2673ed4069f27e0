use Rattle.std.proofs.Common.{◌≡◌, ◌≢◌, ◌+◌, ◌-◌, ◌<◌, ◌∙◌, suc, inl, inr, ⊎_elim, length, subst, sym, arith}
use Rattle.std.proofs.Math.ListN.{set}
use Rattle.std.proofs.lemmas.Bool.{cases_eq}
use Rattle.mr_front.specs.PutOff.{IsPutOff}
use Rattle.mr_front.specs.Rows.{AtRow, InList, InRows}
use Rattle.mr_front.proofs.RowsLaws.{on_ok-map, on_ok-both, rows-keeps, rows-only, row-next, at-read, at-same, at-other}
use Rattle.mr_front.proofs.ScanLaws.{lost-none}
use Rattle.mr_front.proofs.rows.Rows.recall.Goals as goal

pub returns-then-level-eq0-clause-lost : goal.returns-then-level-eq0-clause-lost
returns-then-level-eq0-clause-lost c = lost-none c.args.equations.now c.args.most (InRows c.args.equations.now c.args.self.now)

pub returns-then-level-eq0-clause-late : goal.returns-then-level-eq0-clause-late
returns-then-level-eq0-clause-late c k m v h = inr (h, λ same. absurd (omega (arith, same, c.if-level-eq0.true)))

pub returns-clause-lost : goal.returns-clause-lost
returns-clause-lost c =
    let p = c.args.equations.now in
    let rs = c.args.self.now.rows.items in
    let k = c.from.result in
    let level = c.args.level - 1 in
    let e : k ≡ level + 1 = omega (arith, c.from.ensures, c.if-level-eq0.false) in
    let r = c.index_mut.result.now in
    let later = c.recall.new.self in
    let done = c.recall.ensures in
    let low : k < length rs = omega (arith, c.from.ensures, c.requires.level, c.requires.count, c.args.self.now.rows.ok.0) in
    let is = c.index_mut.ensures.value in
    on_ok-both c.recall.result _ _ _ (λ only keeps. record {
      only = λ i u there. ⊎_elim (λ (old : InList p rs i u). old) (λ (none : (i ≡ k) × ⊥). absurd none.1)
          (rows-only p rs k r later low is (λ u. ⊥) (λ u own. inl ((row-next p level k u r e).1 (only u ((row-next p level k u later e).0 own)))) i u there);
      keeps = λ i u there le.
          rows-keeps p rs k r later low is c.args.most (λ u own few. (row-next p level k u later e).1 (keeps u ((row-next p level k u r e).0 own) few)) i u there le;
    }) done.only done.keeps

pub returns-clause-late : goal.returns-clause-late
returns-clause-late c =
    let rs = c.args.self.now.rows.items in
    let k = c.from.result in
    let r = c.index_mut.result.now in
    let later = c.recall.new.self in
    let low : k < length rs = omega (arith, c.from.ensures, c.requires.level, c.requires.count, c.args.self.now.rows.ok.0) in
    let is = c.index_mut.ensures.value in
    on_ok-map c.recall.result _ _ (λ h j m x there. ⊎_elim
    (λ (same : suc j ≡ k).
    ⊎_elim (λ (past : c.args.cost < m). inl past)
    (λ (t : IsPutOff r.late.map m x × (m ≢ c.args.cost)). inr (subst (λ i. AtRow (λ y. IsPutOff y.late.map m x) rs i) (sym same) ((at-read (λ y. IsPutOff y.late.map m x) rs k r low is).1 t.0), λ _. t.1))
    (h m x ((at-same (λ y. IsPutOff y.late.map m x) rs k later low).0 (subst (λ i. AtRow (λ y. IsPutOff y.late.map m x) (set rs k later) i) same there))))
    (λ (apart : suc j ≢ k). inr ((at-other (λ y. IsPutOff y.late.map m x) rs k (suc j) later apart).0 there, λ (here : c.args.level ≡ suc j). absurd (apart (sym here ∙ sym c.from.ensures))))
    (cases_eq (suc j) k)) c.recall.ensures.late
