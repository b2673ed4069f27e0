use Rattle.std.proofs.Common.{◌≡◌, ◌≢◌, ◌<◌, ◌∙◌, ◌++◌, ℕ, suc, List, length, sym, subst, ap, arith, ⊎_elim, inl, inr}
use Rattle.std.specs.Prelude.{filter, ◌==◌}
use Rattle.std.specs.List.{Contains}
use Rattle.std.proofs.lemmas.List.Elements.{Contains-append_left, Contains-append_right, Contains-append_cases}
use Rattle.mr_front.specs.Waiting.{mask_cost}
use Rattle.mr_front.specs.PutOff.{IsPutOff}
use Rattle.mr_front.specs.Rows.{AtRow, InRows}
use Rattle.mr_front.proofs.RowLaws.{taken-has, less-at}
use Rattle.mr_front.proofs.RowsLaws.{on_ok-map, at-read, rows-read, rows-less}
use Rattle.mr_front.proofs.ScanLaws.{row-gives, row-rest}
use Rattle.mr_front.proofs.rows.Rows.take.Goals as goal

pub returns-clause-taken : goal.returns-clause-taken
returns-clause-taken c = on_ok-map c.append_of.result _ _ (λ items u.
    let p = c.args.equations.now in
    let rs = c.args.self.now.rows.items in
    let i = c.from.result in
    let r = c.index_mut.result.now in
    let low : i < length rs = omega (arith, c.from.ensures, c.requires.level, c.args.self.now.rows.ok.0) in
    let is = c.index_mut.ensures.value in
    let later = c.take-masks.new.self in
    let cost = c.args.cost in
    let masks = filter (λ v. mask_cost p v == cost) c.take-masks.result.items in
    let made : (k m v : ℕ) → i ≡ suc k → IsPutOff r.late.map m v → cost < m = λ k m v same there.
    c.requires.made k m v (sym c.from.ensures ∙ same)
    (subst (λ j. AtRow (λ y. IsPutOff y.late.map m v) rs j) same ((at-read (λ y. IsPutOff y.late.map m v) rs i r low is).1 there)) in
    let gives = row-gives p cost i r later made masks (taken-has p r.lists.map cost c.take-masks.result.items c.take-masks.ensures.taken) u in
    let old = c.args.list.now.items in
    let whole : c.append_of.new.list.items ≡ old ++ masks = items ∙ ap (λ (xs : List ℕ). old ++ filter (λ v. mask_cost p v == cost) xs) c.deref.ensures.value in (
      (λ there. ⊎_elim
          (λ (before : Contains old u). inl before)
          (λ (new : Contains masks u). let t = gives.0 new in
          inr (subst (λ j. InRows p c.args.self.now j u) c.from.ensures ((rows-read p rs i u r low is).1 t.0), t.1))
          (Contains-append_cases old masks u (subst (λ (xs : List ℕ). Contains xs u) whole there))),
      (λ there. subst (λ (xs : List ℕ). Contains xs u) (sym whole) (⊎_elim
          (λ (before : Contains old u). Contains-append_left old masks u before)
          (λ (new : InRows p c.args.self.now c.args.level u × (mask_cost p u ≡ cost)).
          Contains-append_right old masks u (gives.1 ((rows-read p rs i u r low is).0 (subst (λ j. InRows p c.args.self.now j u) (sym c.from.ensures) new.0), new.1)))
          there)),
    )) c.append_of.ensures

pub returns-clause-rest : goal.returns-clause-rest
returns-clause-rest c = on_ok-map c.append_of.result _ _ (λ items i u.
    let p = c.args.equations.now in
    let rs = c.args.self.now.rows.items in
    let k = c.from.result in
    let r = c.index_mut.result.now in
    let low : k < length rs = omega (arith, c.from.ensures, c.requires.level, c.args.self.now.rows.ok.0) in
    let is = c.index_mut.ensures.value in
    let later = c.take-masks.new.self in
    let cost = c.args.cost in
    let made : (j m v : ℕ) → k ≡ suc j → IsPutOff r.late.map m v → cost < m = λ j m v same there.
    c.requires.made j m v (sym c.from.ensures ∙ same)
    (subst (λ x. AtRow (λ y. IsPutOff y.late.map m v) rs x) same ((at-read (λ y. IsPutOff y.late.map m v) rs k r low is).1 there)) in
    let rest = row-rest p cost k r later made c.take-masks.ensures.late (λ v. less-at r.lists.map later.lists.map cost c.take-masks.ensures.rest (mask_cost p v) v) in
    let less = rows-less p rs k r later low is (λ v. mask_cost p v ≢ cost) rest i u in (
      (λ there. let t = less.0 there in (t.0, λ at. t.1 (at ∙ sym c.from.ensures))),
      (λ there. less.1 (there.0, λ at. there.1 (at ∙ c.from.ensures))),
    )) c.append_of.ensures
