-- The search of a loss, whatever keeps the masks that wait: its layers are those of the search, and what is answered is the choice.
use Rattle.std.proofs.Common.{◌≡◌, ℕ, suc, ◌+◌, ◌<◌, ◌≤◌, true, cond, List, [], ◌∷◌, length, get_or, inl, inr, refl, sym, ◌∙◌, arith, ap, ap₂, subst, ⊎_elim, add-one}
use Rattle.std.specs.Prelude.{◌↔◌, bit_or}
use Rattle.std.specs.List.{Contains}
use Rattle.std.proofs.lemmas.Bool.{le-leb, lt-leb}
use Rattle.mr_model.specs.Sets.{within}
use Rattle.mr_model.specs.Members.{members}
use Rattle.mr_model.specs.Code.{cost, plain}
use Rattle.mr_model.specs.Search.{Search, Least, Spent, is_node, is_good, choice, least_cost, best, work}
use Rattle.mr_model.specs.Choice.{choice_of}
use Rattle.mr_model.proofs.SetLaws.{Within-zero, within-true}
use Rattle.mr_model.proofs.CheapestLaws.{IsCost, cost-le}
use Rattle.mr_model.proofs.SearchLaws.{good-true, node-or, node-good}
use Rattle.mr_model.proofs.BestLaws.{best-from, best-cost, best-node, least_cost-le}
use Rattle.mr_model.proofs.WorkBounds.{work-ge, work-none}
use Rattle.mr_eq.specs.Problems.{Loss, IsLoss, search_for}
use Rattle.mr_eq.specs.Equations.{width_of}
use Rattle.mr_eq.specs.Choices.{found_of}
use Rattle.mr_eq.specs.declared.found.Found.{Found}
use Rattle.mr_eq.specs.declared.found.Found.TheVariants.{Least as FoundLeast, Spent as FoundSpent}
use Rattle.mr_eq.proofs.Losses.{loss-cost, loss-good}
use Rattle.mr_eq.proofs.LossLaws.{plain-node-law}
use Rattle.mr_front.specs.declared.layers.Layer.{Layer}
use Rattle.mr_front.specs.Waiting.{mask_cost}
use Rattle.mr_front.specs.Layers.{IsFirstLayer, IsRest, IsSomeChild, HasJoined, HasLost}
use Rattle.mr_front.proofs.LayerLaws.{IsFrontier, IsLeastKey, IsNext, empty-cost}
use Rattle.mr_front.proofs.LayerSteps.{IsStart}
use Rattle.mr_front.proofs.Counts.{IsLayerList}
use Rattle.mr_front.proofs.UnionLaws.{IsChildOf, contains-children, children-contains}
use Rattle.mr_front.proofs.SearchSteps.{IsSearched}

pub starts : (waits : ℕ → ℕ → Type 0) → ((i u : ℕ) → waits i u ↔ ((i ≡ 0) × (u ≡ 0))) → IsStart waits
starts waits h = record { empty = (h 0 0).1 (refl, refl); only = λ i u w. (h i u).0 w }

module _ (p : Loss) (h : IsLoss p) where
  -- the plain set costs at least the least cost
  pub plain-bound : (bound : ℕ) → bound ≡ mask_cost p (plain p.code p.avail p.targets) → least_cost (search_for p) ≤ bound
  plain-bound bound e =
      let s = plain p.code p.avail p.targets in
      let good = node-good (search_for p) s (plain-node-law p h) in
      let le = least_cost-le (search_for p) (loss-cost p h) (loss-good p h) s good in
      omega (arith, le, e)

  module _ (waits : ℕ → ℕ → Type 0) (spent : ℕ) (searched : IsSearched (search_for p) waits spent) (l : Layer) (first : IsFirstLayer p waits l) where
    layer-mask : (u : ℕ) → Contains l.masks u → waits l.level u × (mask_cost p u ≡ l.cost)
    layer-mask u there = (first.masks u).0 there

    one : Contains l.masks (get_or l.masks 0 0)
    one = (0, first.some, own l.masks first.some)
      where
        own : (xs : List ℕ) → 0 < length xs → get_or xs 0 (get_or xs 0 0) ≡ get_or xs 0 0
        own [] k = absurd (omega arith)
        own (x ∷ xs) k = refl

    pub layer-key : IsLeastKey (search_for p) waits l.cost l.level
    layer-key = record {
      mask = get_or l.masks 0 0;
      waiting = (layer-mask (get_or l.masks 0 0) one).0;
      priced = (layer-mask (get_or l.masks 0 0) one).1;
      least = λ i u w.
          let t = first.least i u w in
          record { cost = t.0; level = λ e. t.1 e };
    }

    pub layer-list : IsLayerList (search_for p) waits l.cost l.level l.masks
    layer-list = record {
      rises = first.sorted;
      has = λ u w e. (first.masks u).1 (w, e);
      waiting = λ u there. (layer-mask u there).0;
      priced = λ u there. (layer-mask u there).1;
    }

    module _ (low : l.level < length (members p.targets)) where
      -- a child is a node of the next level
      child-node : (u : ℕ) → IsSomeChild p l u → is_node (search_for p) (suc l.level) u ≡ true
      child-node u child =
          let c = children-contains p h l.level child.0 low l.masks u child.1 in
          subst (λ w. is_node (search_for p) (suc l.level) w ≡ true) c.union
          (node-or (search_for p) l.level c.mask c.equation (searched.frontier.nodes l.level c.mask (layer-mask c.mask c.among).0) c.inside c.equals)

      -- where the next level is the last, a child costs at least the least cost
      pub child-floor : l.level + 1 ≡ length (members p.targets) → (u : ℕ) → IsSomeChild p l u → least_cost (search_for p) ≤ mask_cost p u
      child-floor last u child =
          let node = subst (λ i. is_node (search_for p) i u ≡ true) (sym (add-one l.level) ∙ last) (child-node u child) in
          least_cost-le (search_for p) (loss-cost p h) (loss-good p h) u (node-good (search_for p) u node)

      -- what waits after the layer, once its children joined
      pub layer-next : (middle later : ℕ → ℕ → Type 0) (bound : ℕ) → IsRest p waits middle l → HasJoined p l bound middle later
          → IsNext (search_for p) waits later l.cost l.level bound
      layer-next middle later bound rest joined = record {
        only = λ i u w. ⊎_elim
            (λ (old : middle i u). let t = (rest i u).0 old in inl (t.0, λ at cost. t.1 at cost))
            (λ (new : (i ≡ l.level + 1) × IsSomeChild p l u).
            let c = children-contains p h l.level new.1.0 low l.masks u new.1.1 in
            inr (
              new.0 ∙ add-one l.level,
              record {
                mask = c.mask;
                equation = c.equation;
                waiting = (layer-mask c.mask c.among).0;
                priced = (layer-mask c.mask c.among).1;
                equation_inside = c.inside;
                is_equation = c.equals;
                union = c.union;
              },
            ))
            (joined.only i u w);
        stays = λ i u w apart. joined.stays i u ((rest i u).1 (w, apart));
        joins = λ u made few.
            let child : IsChildOf p l.level bound l.masks u = record {
              mask = made.mask;
              equation = made.equation;
              among = (first.masks made.mask).1 (made.waiting, made.priced);
              inside = made.equation_inside;
              equals = made.is_equation;
              union = made.union;
              cheap = few;
            } in
            subst (λ (i : ℕ). later i u) (add-one l.level) (joined.joins u (contains-children p h l.level bound low l.masks u child));
      }

  -- ---- what is answered

  -- what is found with a budget
  abbrev pub found : ℕ → Found
  found budget = found_of (choice_of p.code p.avail p.targets budget)

  pub found-least : (budget s w : ℕ) → s ≡ best (search_for p) → w ≡ work (search_for p) → w ≤ budget → FoundLeast s w ≡ found budget
  unfolding choice
  found-least budget s w e k le =
      ap₂ (λ (x y : ℕ). FoundLeast x y) e k
      ∙ ap (λ b. found_of (cond b (Least (best (search_for p)) (work (search_for p))) (Spent (plain p.code p.avail p.targets)))) (sym (le-leb (work (search_for p)) budget (omega (arith, k, le))))

  pub found-spent : (budget s : ℕ) → s ≡ plain p.code p.avail p.targets → budget < work (search_for p) → FoundSpent s ≡ found budget
  unfolding choice
  found-spent budget s e more =
      ap (λ (x : ℕ). FoundSpent x) e
      ∙ ap (λ b. found_of (cond b (Least (best (search_for p)) (work (search_for p))) (Spent (plain p.code p.avail p.targets)))) (sym (lt-leb (work (search_for p)) budget more))

  -- where there are more equations of a target than the budget
  pub found-many : (budget s : ℕ) → 0 < length (members p.targets) → s ≡ plain p.code p.avail p.targets → budget < width_of p → FoundSpent s ≡ found budget
  found-many budget s some e many = found-spent budget s e (omega (arith, many, work-ge (search_for p) (loss-cost p h) (loss-good p h) some))

  -- where there is no target
  pub found-none : (budget : ℕ) → length (members p.targets) ≡ 0 → FoundLeast 0 0 ≡ found budget
  found-none budget none = found-least budget 0 0 (sym empty) (sym (work-none (search_for p) none)) (omega arith)
    where
      inside : (a : ℕ) → within 0 a ≡ true
      inside a = within-true 0 a (Within-zero a)

      empty : best (search_for p) ≡ 0
      empty = best-from (search_for p) (loss-cost p h) (loss-good p h) 0 (record {
        inside = inside p.avail;
        passes = good-true (search_for p) 0 (record { inside = inside p.avail; has_each = λ j low. absurd (omega (arith, low, none)) });
        cheapest = λ y k e. cost-le p.avail (cost p.code) (loss-cost p h) 0 y (inside y) k;
        first = λ y k e c. omega arith;
      })

-- ---- some of what waits is lost

module _ (q : Search) (priced : IsCost q.avail q.cost_of) (determined : is_good q q.avail ≡ true) (waits later : ℕ → ℕ → Type 0)
    (only : (i u : ℕ) → later i u → waits i u) (keeps : (i u : ℕ) → waits i u → q.cost_of u ≤ least_cost q → later i u) where
  -- a frontier may lose what costs more than the least cost
  frontier-lost : (c j : ℕ) → IsFrontier q waits c j → IsFrontier q later c j
  frontier-lost c j h = record {
    level_le = λ i u w. h.level_le i u (only i u w);
    nodes = λ i u w. h.nodes i u (only i u w);
    ahead = λ i u w. h.ahead i u (only i u w);
    start = λ from. keeps 0 0 (h.start from)
        (subst (λ e. q.cost_of 0 ≤ e) (best-cost q priced determined) (empty-cost q priced q.levels (best q) (best-node q priced determined)));
    children = λ i v x node before level inside equation few from.
        keeps (suc i) (bit_or v x) (h.children i v x node before level inside equation few from) few;
  }

  searched-lost : (spent : ℕ) → IsSearched q waits spent → IsSearched q later spent
  searched-lost spent h = record {
    cost_at = h.cost_at;
    level_at = h.level_at;
    frontier = frontier-lost h.cost_at h.level_at h.frontier;
    ahead = h.ahead;
    spent_is = h.spent_is;
  }

-- where all up to a bound still waits, which is at least the least cost
pub lost-searched : (p : Loss) → IsLoss p → (waits later : ℕ → ℕ → Type 0) (spent most : ℕ) → IsSearched (search_for p) waits spent
    → least_cost (search_for p) ≤ most → HasLost p most waits later → IsSearched (search_for p) later spent
lost-searched p h waits later spent most searched high lost =
    searched-lost (search_for p) (loss-cost p h) (loss-good p h) waits later lost.only
    (λ i u w le. lost.keeps i u w (omega (arith, le, high))) spent searched
