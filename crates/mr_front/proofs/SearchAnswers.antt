-- What the search of a loss answers at a layer, and what it knows after one.
use Rattle.std.proofs.Common.{◌≡◌, ℕ, suc, ◌+◌, ◌*◌, ◌<◌, ◌≤◌, Bool, true, false, cond, Option, Some, None, length, get_or, refl, sym, ◌∙◌, arith, ap, subst}
use Rattle.std.specs.Prelude.{nat_le, nat_lt}
use Rattle.std.proofs.lemmas.Bool.{leb-true, leb-false}
use Rattle.mr_model.specs.Members.{members}
use Rattle.mr_model.specs.Code.{plain}
use Rattle.mr_eq.specs.Problems.{Loss, IsLoss, search_for}
use Rattle.mr_model.specs.Search.{least_cost}
use Rattle.mr_eq.specs.Equations.{width_of}
use Rattle.mr_eq.specs.declared.found.Found.TheVariants.{Least as FoundLeast, Spent as FoundSpent}
use Rattle.mr_null.specs.declared.nulls.NullsError.{NullsError}
use Rattle.mr_null.specs.declared.nulls.NullsError.TheVariants.{TooMany, Memory}
use Rattle.mr_eq.proofs.Losses.{loss-cost, loss-good}
use Rattle.mr_front.specs.declared.layers.Layer.{Layer}
use Rattle.mr_front.specs.Layers.{IsFirstLayer, IsRest, HasJoined}
use Rattle.mr_front.proofs.SearchSteps.{IsSearched, searched_waits, layer_level, layer_within, searched_next, found_best, found_work}
use Rattle.mr_front.proofs.LossSteps.{layer-key, layer-list, layer-next, found, found-least, found-spent}

-- the number, where it is at most the budget
abbrev pub up_to : ℕ → ℕ → Option ℕ
up_to budget n = cond (nat_le n budget) (Some n) None

none-above : (budget n : ℕ) → None ≡ up_to budget n → budget < n
none-above budget n h = go (nat_le n budget) refl h
  where
    go : (b : Bool) → nat_le n budget ≡ b → ◌≡◌ {A = Option ℕ} None (cond b (Some n) None) → budget < n
    go true e h = absurd (cc)
    go false e h = leb-false n budget e

some-within : (budget n m : ℕ) → Some m ≡ up_to budget n → (m ≡ n) × (n ≤ budget)
some-within budget n m h = go (nat_le n budget) refl h
  where
    go : (b : Bool) → nat_le n budget ≡ b → Some m ≡ cond b (Some n) None → (m ≡ n) × (n ≤ budget)
    go true e h = (cc, leb-true n budget e)
    go false e h = absurd (cc)

-- refused as too many
pub many-above : (e : NullsError) (budget n d x : ℕ) → e ≡ cond (nat_lt budget n) (TooMany d) Memory → e ≡ TooMany x → budget < n
many-above e budget n d x h k = go (nat_lt budget n) refl (sym h ∙ k)
  where
    go : (b : Bool) → nat_lt budget n ≡ b → cond b (TooMany d) Memory ≡ TooMany x → budget < n
    go true t e = omega (arith, leb-true (suc budget) n t)
    go false t e = absurd (cc)

module _ (p : Loss) (h : IsLoss p) (waits : ℕ → ℕ → Type 0) (spent : ℕ) (searched : IsSearched (search_for p) waits spent) where
  pub waits-some : ((i u : ℕ) → waits i u → ⊥) → ⊥
  waits-some none = searched_waits (search_for p) (loss-cost p h) (loss-good p h) waits spent searched none

  module _ (l : Layer) (first : IsFirstLayer p waits l) where
    -- at a layer of the last level
    pub last-answer : (budget s : ℕ) → length (members p.targets) ≤ l.level → spent ≤ budget → s ≡ get_or l.masks 0 0 → FoundLeast s spent ≡ found p h budget
    last-answer budget s high few e =
        let key = layer-key p h waits spent searched l first in
        let list = layer-list p h waits spent searched l first in
        let level = layer_level (search_for p) (loss-cost p h) (loss-good p h) waits spent searched l.cost l.level key l.masks list in
        let last : l.level ≡ length (members p.targets) = omega (arith, high, level) in
        found-least p h budget s spent
        (found_best (search_for p) (loss-cost p h) (loss-good p h) waits spent searched l.cost l.level key l.masks list last first.some s (sym e))
        (found_work (search_for p) (loss-cost p h) (loss-good p h) waits spent searched l.cost l.level key l.masks list last)
        few

    module _ (n w : ℕ) (count : n ≡ length l.masks) (width : w ≡ width_of p) (low : l.level < length (members p.targets)) where
      product : spent + n * w ≡ spent + length l.masks * width_of p
      product = ap (λ m. spent + m * w) count ∙ ap (λ v. spent + length l.masks * v) width

      -- at a layer that is above the budget
      pub spent-answer : (budget s : ℕ) → s ≡ plain p.code p.avail p.targets → None ≡ up_to budget (spent + n * w) → FoundSpent s ≡ found p h budget
      spent-answer budget s e above =
          let key = layer-key p h waits spent searched l first in
          let list = layer-list p h waits spent searched l first in
          let part = layer_within (search_for p) (loss-cost p h) (loss-good p h) waits spent searched l.cost l.level key l.masks list low in
          found-spent p h budget s e (omega (arith, none-above budget (spent + n * w) above, product, part))

      -- after a layer whose children joined
      pub next-searched : (middle later : ℕ → ℕ → Type 0) (budget bound more : ℕ) → least_cost (search_for p) ≤ bound → IsRest p waits middle l
          → HasJoined p l bound middle later → Some more ≡ up_to budget (spent + n * w) → IsSearched (search_for p) later more × (more ≤ budget)
      next-searched middle later budget bound more high rest joined within =
          let key = layer-key p h waits spent searched l first in
          let list = layer-list p h waits spent searched l first in
          let t = some-within budget (spent + n * w) more within in (
            subst (λ (m : ℕ). IsSearched (search_for p) later m) (sym (t.0 ∙ product))
                (searched_next (search_for p) (loss-cost p h) (loss-good p h) waits spent searched l.cost l.level key l.masks list low later bound
                (layer-next p h waits spent searched l first low middle later bound rest joined) high),
            omega (arith, t.0, t.1),
          )
