-- The workers of a rebuild, as they are hired.
use Rattle.std.specs.Prelude.{◌≡◌, ℕ, ◌+◌, ◌-◌, ◌*◌, ◌<◌, ◌≤◌, Bool, List, [], ◌∷◌, ◌++◌, None, All, length, map, slice_index_or, vec_capacity, vec_len, if◌then◌else◌}
use Rattle.std.specs.Vec.Iter.{into_iter_items, into_iter_len}
use Rattle.mr_board.specs.Boards.{IsBoardOf, IsPassOf, pass_view}
use Rattle.mr_board.specs.declared.board.Board.{Board}
use Rattle.mr_board.specs.declared.view.PassView.{PassView}
use Rattle.mr_counts.specs.Shares.{whole_share}
use Rattle.mr_io.specs.Sights.{Sight}
use Rattle.mr_mend.specs.Workers.{AreStrided, IsMender, IsReader, numbers_of}
use Rattle.mr_mend.specs.declared.workers.Role.{Role}
use Rattle.mr_mend.specs.declared.workers.Worker.{Worker}
use Rattle.mr_ready.specs.Joining.{IsWhole}
use Rattle.mr_ready.specs.Lent.{told_by}
use Rattle.mr_ready.specs.Orders.{OrderParts}
use Rattle.mr_ready.specs.declared.crews.Crew.{Crew}

-- how many workers there are: with `live` as many read as mend
abbrev pub hands_of : ℕ → Bool → ℕ
hands_of workers live = if live then 2 * workers else workers

-- the eyes of the workers, in their order
abbrev pub worker_eyes : {E : Type 0} → List (Worker E) → List E
worker_eyes workers = map (λ worker. worker.eye) workers

-- all eyes of a crew, in their order
abbrev pub eyes_of : {E : Type 0} → Crew E → List E
eyes_of crew = worker_eyes crew.workers.items ++ into_iter_items crew.rest

-- so with one between those of the workers and the others
abbrev pub eyes_with : {E : Type 0} → E → Crew E → List E
eyes_with eye crew = worker_eyes crew.workers.items ++ eye ∷ into_iter_items crew.rest

-- What the worker of place k is for: the first of them mend, and the r-th behind these reads the asks r, r + workers and so on.
pub record IsPlaced (order : OrderParts) (k : ℕ) (role : Role) : Type 0 where
  pub mends : k < order.workers → IsMender order.head order.plans role
  pub reads : order.workers ≤ k → IsReader order.head role
  pub numbers : order.workers ≤ k
      → AreStrided (k - order.workers) order.workers (length order.asks) (numbers_of role)

-- one part of a pass, which did nothing yet
pub record IsFresh (b : Board) (v : PassView) : Type 0 where
  pub draws : v.draws ≡ []
  pub idle : v.claimed ≡ None
  pub share : v.parts + v.left ≡ 1

-- the worker of place k, hired
pub record IsHired {E : Type 0} (order : OrderParts) (b : Board) (k : ℕ) (worker : Worker E) : Type 0 where
  pub pass : IsPassOf b worker.pass
  pub fresh : IsFresh b (pass_view worker.pass)
  pub role : IsPlaced order k worker.role

-- The workers of the first n places are hired, and there is room for as many as there are eyes.
pub record IsHiring {E : Type 0} (sight : E → Sight) (order : OrderParts) (n : ℕ) (crew : Crew E)
    : Type 0 where
  pub board : IsBoardOf crew.board order.head order.plans (told_by sight (eyes_of crew))
  pub pass : IsPassOf crew.board crew.pass
  pub draws : (pass_view crew.pass).draws ≡ []
  pub idle : (pass_view crew.pass).claimed ≡ None
  pub parts : (pass_view crew.pass).parts ≡ 1
  pub left : (pass_view crew.pass).left + n + 1 ≡ whole_share
  pub count : vec_len crew.workers ≡ n
  pub hired : (k : ℕ) (d : Worker E) → k < length crew.workers.items
      → IsHired order crew.board k (slice_index_or crew.workers.items k d)
  pub empty : crew.back.items ≡ []
  pub none : vec_len crew.back ≡ 0
  pub places : vec_len crew.workers + into_iter_len crew.rest ≤ vec_capacity crew.workers
  pub room : vec_len crew.workers + into_iter_len crew.rest ≤ vec_capacity crew.back

-- all workers are hired
abbrev pub IsCrew : {E : Type 0} → (E → Sight) → OrderParts → Crew E → Type 0
IsCrew sight order crew = IsHiring sight order (hands_of order.workers order.live) crew

-- The passes of a crew can be joined to one, and its eyes gathered, with so many besides.
pub record HasWayBack {E : Type 0} (more : ℕ) (crew : Crew E) : Type 0 where
  pub pass : IsPassOf crew.board crew.pass
  pub idle : (pass_view crew.pass).claimed ≡ None
  pub whole : IsWhole (pass_view crew.pass)
  pub passes : All (λ worker. IsPassOf crew.board worker.pass) crew.workers.items
  pub others : All (λ worker. (pass_view worker.pass).claimed ≡ None) crew.workers.items
  pub empty : crew.back.items ≡ []
  pub none : vec_len crew.back ≡ 0
  pub room : vec_len crew.workers + into_iter_len crew.rest + more ≤ vec_capacity crew.back
