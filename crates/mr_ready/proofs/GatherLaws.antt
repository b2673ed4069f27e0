-- Workers that are taken apart one after another.
use Rattle.std.proofs.Common.{◌≡◌, ℕ, ◌+◌, List, [], ◌∷◌, ◌++◌, map, flat_map, length, None, refl, sym, ap, subst, ◌∙◌, arith, sum_by, append_assoc}
use Rattle.std.specs.Prelude.{All}
use Rattle.std.proofs.lemmas.List.{append-nil}
use Rattle.std.proofs.lemmas.List.Elements.{All-head, All-tail}
use Rattle.std.proofs.lemmas.List.Sums.{sum_by-cons}
use Rattle.mr_board.specs.Boards.{IsPassOf, pass_view}
use Rattle.mr_board.specs.Views.{joined_view}
use Rattle.mr_board.specs.declared.board.Board.{Board}
use Rattle.mr_board.specs.declared.board.Pass.{Pass}
use Rattle.mr_board.specs.declared.view.PassView.{PassView}
use Rattle.mr_counts.specs.Numbers.{AreEachBelow}
use Rattle.mr_counts.specs.Shares.{whole_share}
use Rattle.mr_io.proofs.Returns.{none-left}
use Rattle.mr_mend.specs.declared.workers.Worker.{Worker}
use Rattle.mr_ready.specs.Joining.{HasJoined, IsWhole}

module _ {E : Type 0} (b : Board) (v : PassView) (start : List E) (all : List (Worker E)) where
  abbrev Knows : Worker E → PassView
  Knows worker = pass_view worker.pass

  abbrev Draws : List (Worker E) → List ℕ
  Draws workers = flat_map (λ (u : PassView). u.draws) (map Knows workers)

  abbrev Sees : List (Worker E) → List ℕ
  Sees workers = flat_map (λ (u : PassView). u.seen) (map Knows workers)

  abbrev Parts : List (Worker E) → ℕ
  Parts workers = sum_by (λ (u : PassView). u.parts + u.left) (map Knows workers)

  -- what is the case where these workers are left
  pub record Gathering (pass : Pass) (now : List E) (left : List (Worker E)) (count : ℕ) : Type 0 where
    pub eyes : now ++ map (λ (worker : Worker E). worker.eye) left ≡ start ++ map (λ (worker : Worker E). worker.eye) all
    pub pass_is : IsPassOf b pass
    pub idle : (pass_view pass).claimed ≡ None
    pub whole : IsWhole (pass_view pass)
    pub terms : (pass_view pass).terms ≡ v.terms
    pub draws : (pass_view pass).draws ++ Draws left ≡ v.draws ++ Draws all
    pub seen : (pass_view pass).seen ++ Sees left ≡ v.seen ++ Sees all
    pub share : (pass_view pass).parts + (pass_view pass).left + Parts left ≡ v.parts + v.left + Parts all
    pub passes : All (λ (worker : Worker E). IsPassOf b worker.pass) left
    pub others_idle : All (λ (worker : Worker E). (pass_view worker.pass).claimed ≡ None) left
    pub sized : count ≡ length left

  pub gather-start : (pass : Pass) (count : ℕ) → pass_view pass ≡ v → IsPassOf b pass → v.claimed ≡ None → IsWhole v
      → All (λ (worker : Worker E). IsPassOf b worker.pass) all → All (λ (worker : Worker E). (pass_view worker.pass).claimed ≡ None) all → count ≡ length all → Gathering pass start all count
  gather-start pass count is of idle whole passes others sized = record {
    eyes = refl;
    pass_is = of;
    idle = ap (λ (u : PassView). u.claimed) is ∙ idle;
    whole = subst IsWhole (sym is) whole;
    terms = ap (λ (u : PassView). u.terms) is;
    draws = ap (λ (u : PassView). u.draws ++ Draws all) is;
    seen = ap (λ (u : PassView). u.seen ++ Sees all) is;
    share = ap (λ (u : PassView). u.parts + u.left + Parts all) is;
    passes = passes;
    others_idle = others;
    sized = sized;
  }

  pub gather-next : (pass joined : Pass) (now more : List E) (worker : Worker E) (held left : List (Worker E)) (count counted : ℕ) → Gathering pass now held count → held ≡ worker ∷ left → counted + 1 ≡ count
      → IsPassOf b joined → pass_view joined ≡ joined_view (pass_view pass) (pass_view worker.pass)
      → ((pass_view joined).parts + (pass_view joined).left ≡ whole_share → AreEachBelow (pass_view joined).draws (length (pass_view joined).draws))
      → more ≡ now ++ worker.eye ∷ [] → Gathering joined more left counted
  gather-next pass joined now more worker held left count counted h0 is fewer of view whole pushed =
      let h : Gathering pass now (worker ∷ left) count = subst (λ ws. Gathering pass now ws count) is h0 in
      let p : PassView = pass_view pass in
      let w : PassView = pass_view worker.pass in
      record {
        eyes = ap (λ xs. xs ++ map (λ (x : Worker E). x.eye) left) pushed ∙ append_assoc now (worker.eye ∷ []) (map (λ (x : Worker E). x.eye) left) ∙ h.eyes;
        pass_is = of;
        idle = ap (λ (u : PassView). u.claimed) view ∙ h.idle;
        whole = whole;
        terms = ap (λ (u : PassView). u.terms) view ∙ h.terms;
        draws = ap (λ (u : PassView). u.draws ++ Draws left) view ∙ append_assoc p.draws w.draws (Draws left) ∙ h.draws;
        seen = ap (λ (u : PassView). u.seen ++ Sees left) view ∙ append_assoc p.seen w.seen (Sees left) ∙ h.seen;
        share = ap (λ (u : PassView). u.parts + u.left + Parts left) view ∙ omega (arith, h.share, sum_by-cons (λ (u : PassView). u.parts + u.left) w (map Knows left));
        passes = All-tail (λ (x : Worker E). IsPassOf b x.pass) worker left h.passes;
        others_idle = All-tail (λ (x : Worker E). (pass_view x.pass).claimed ≡ None) worker left h.others_idle;
        sized = omega (arith, h.sized, fewer);
      }

  pub next-is : (pass : Pass) (now : List E) (worker : Worker E) (held left : List (Worker E)) (count : ℕ) → Gathering pass now held count → held ≡ worker ∷ left
      → IsPassOf b worker.pass × ((pass_view worker.pass).claimed ≡ None)
  next-is pass now worker held left count h is = (
    All-head (λ (x : Worker E). IsPassOf b x.pass) worker left (subst (All (λ (x : Worker E). IsPassOf b x.pass)) is h.passes),
    All-head (λ (x : Worker E). (pass_view x.pass).claimed ≡ None) worker left (subst (All (λ (x : Worker E). (pass_view x.pass).claimed ≡ None)) is h.others_idle),
  )

  module _ (pass : Pass) (now : List E) (left : List (Worker E)) (count : ℕ) (h : Gathering pass now left count) (last : count ≡ 0) where
    none : left ≡ []
    none = none-left left (sym h.sized ∙ last)

    pub gather-eyes : now ≡ start ++ map (λ (worker : Worker E). worker.eye) all
    gather-eyes = sym (append-nil now) ∙ ap (λ ws. now ++ map (λ (worker : Worker E). worker.eye) ws) (sym none) ∙ h.eyes

    pub gather-joined : HasJoined v (map Knows all) (pass_view pass)
    gather-joined = record {
      terms = h.terms;
      draws = sym (append-nil (pass_view pass).draws) ∙ ap (λ ws. (pass_view pass).draws ++ Draws ws) (sym none) ∙ h.draws;
      seen = sym (append-nil (pass_view pass).seen) ∙ ap (λ ws. (pass_view pass).seen ++ Sees ws) (sym none) ∙ h.seen;
      share = let empty : Parts left ≡ 0 = ap Parts none in omega (arith, h.share, empty);
    }
