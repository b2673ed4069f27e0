-- `named` makes a value of no bytes, and its numbers are those that its caller names. Assumes `Logic`.
use mathlib.Core.Path.{refl, sym, subst}
use mathlib.Core.List.{List, [], ◌∷◌, ◌++◌}
use mir.Syntax.{Fn, a_type}
use mir.Val.{Val, vptr, vstruct, vcons, vnil}
use mir.MapTy.{inst_fn}
use base.Logic.{ent}
use base.Fml.{Fml}
use prog.Wp.{WpFn}
use contract.Running.{tables}
use types.Kit.{‵, raw, ◌⊛◌, ◌$◌, ◌∵◌, !, qed, move, keep, split, join, fjoin, use0, suffices, done}
use types.Run.{no_more, and_then, returns, enter}
use types.Part.{agg}
use types.ByLocal.{alloc_all, pass_all, free_all, look_at, get, sets}
use denote.RattleType.{RattleType, owns}
use denote.Exit.{yes}
use denote.Param.{param, layouts}
use denote.Shadow.{makes_shadow}
use denote.Builtin.{RefOf}
use denote.Signature.{types_at, type_at, plain}
use denote.Steps.{nothing}
use denote.Triple.Entry.{Res, alive}
use denote.Triple.Walked.{says, Stays, stay_dropped, walk_of, ends_at, Goes-dropped}
use Rattle.std.proofs.raw_atomic.Walks.{proved_at}
use Rattle.mr_board.specs.contracts.rights.Rights.named.{ended, clauses}
use Rattle.mr_board.specs.contracts.rights.Rights.named.Key.{name as #self}
use Rattle.mr_board.proofs.rights.Rights.named.Statement as stated
use Rattle.mr_board.proofs.rights.Rights.named.Code as code

module _ (Y : RattleType) where
  abbrev about : RattleType
  about = param 0 Y

  abbrev function : Fn
  function = inst_fn (layouts (a_type ∷ []) (Y, tt)) code.function

  abbrev stayed : Stays (ended Y).signature.params (ended Y).kept
  stayed = (stay_dropped (RefOf (0 ∷ []) tt (plain (λ _. about)) (λ _. tt)) yes, tt)

pub named_spec : {M : Type 1} → stated.statement M
named_spec 𝓤 𝓛 𝓜 𝓡 wired Y laws =
    let c = clauses Y 𝓛 𝓜.mem 𝓡.returns in
    let W = walk_of 𝓛 (ended Y) (stayed Y) c in
    let 𝓣 = tables 𝓤 𝓛.H 𝓜 𝓡 𝓡.env in
    proved_at 𝓛 (ended Y) (stayed Y) c 𝓜 𝓡 (Goes-dropped 𝓛 2 (RefOf (0 ∷ []) tt (plain (λ _. about Y)) (λ _. tt)) yes (λ κs x f. refl), tt)
    (#self (layouts (a_type ∷ []) (Y, tt))) (function Y) (code.unfolded 𝓤 𝓛.H 𝓜 𝓡 wired (Y, tt)) (λ z are.
    let b = z.0.3.0.ref_ptr.0 in let o = z.0.3.0.ref_ptr.1 in
    let y : List Val → W.Ghost = λ us. ((z.0.0, z.0.1, z.0.2, z.0.3, (us, tt)), z.1) in
    let here : List Val = vptr b o ∷ [] in
    let made : Val = vstruct (vcons (vstruct vnil) vnil) in
    let rights : Res (ended Y).signature z.0.0 = record { of = record {}; words = z.1 } in
    let owned : Fml = (type_at (ended Y).signature.result z.0.0).own_val rights (made ∷ []) in
    let goes : List Val → Type 1 = λ us. ent 𝓤 (W.pre (y us)) (WpFn 𝓤 𝓛.H 𝓣.C 𝓣.Λ (function Y) (us ++ []) (W.post (y us))) in
    let walk : goes here =
    qed 𝓛 ((raw (alive 𝓛 (ended Y).signature z.0.0 z.0.1) ⊛ ‵ (owns (types_at (ended Y).signature.params z.0.0) z.0.3 (here, tt))) ∷ raw ((c z.0.0 z.0.3).requires z.1) ∷ []) ∵
    split ! $ keep ! (0 ∷ []) $
    enter ! 𝓣.C 𝓣.Λ (function Y) here _ $ alloc_all ! (λ l. pass_all ! refl ((tt, tt), tt) $
    -- the marker, then the struct
    sets ! (agg ! (no_more !)) refl (tt, tt) $ sets ! (agg ! (and_then ! (get ! refl) (no_more !))) refl (tt, (tt, tt)) $
    returns ! (look_at ! 0 refl) $ free_all ! refl $
    use0 𝓛 (‵ owned) (makes_shadow 𝓛 owned ((λ vss. (tt, ((λ uss. (tt, tt)), tt))), tt) (((vstruct vnil ∷ [], tt), (refl, ((tt, (refl, tt)), tt))), tt)) $
    suffices ! _ (ends_at 𝓛 (ended Y) (stayed Y) c (y here) made rights (tt, tt) (tt, tt)) $ says ! refl $
    nothing ! $ nothing ! $ fjoin ! $ join ! $ move ! (1 ∷ 0 ∷ []) $ join ! $ done !) in
    subst goes (sym are.0.0) walk)
