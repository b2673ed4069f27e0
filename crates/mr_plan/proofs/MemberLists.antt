-- The list of the members of a set: what holds of each, of some, and that recipes made of them stand upwards.
use Rattle.std.proofs.Common.{◌≡◌, ℕ, zero, suc, ◌+◌, ◌^◌, ◌<◌, ◌≤◌, Bool, true, false, cond, List, [], ◌∷◌, ◌++◌, map, filter, get_or, length, All, Any, ⊎_elim, refl, sym, subst, arith}
use Rattle.std.specs.Int.{bit_at}
use Rattle.std.specs.List.{range_with_len}
use Rattle.std.proofs.lemmas.Bool.{cases_eq}
use Rattle.std.proofs.lemmas.List.Elements.{All-nil, All-cons}
use Rattle.mr_model.specs.Sets.{has}
use Rattle.mr_model.specs.Members.{members}
use Rattle.mr_model.specs.Plans.{Recipe}
use Rattle.mr_model.proofs.Loops.{ranged}
use Rattle.mr_model.proofs.SetLaws.{has-true, true-has}
use Rattle.mr_plan.specs.Plans.{IsNext, AreUpward}

-- ---- each member

all_cond : (P : ℕ → Type 0) (b : Bool) (a : ℕ) (xs : List ℕ) → (b ≡ true → P a) → All P xs → All P (cond b (a ∷ xs) xs)
all_cond P true a xs here rest = All-cons P a xs (here refl) rest
all_cond P false a xs here rest = rest

all_ranged : (P : ℕ → Type 0) (n a x : ℕ) → ((t : ℕ) → bit_at x t ≡ 1 → P t) → All P (ranged n a x)
all_ranged P zero a x h = All-nil P
all_ranged P (suc n) a x h = all_cond P (has x a) a (ranged n (a + 1) x) (λ e. h a (true-has x a e)) (all_ranged P n (a + 1) x h)

-- what holds of each member holds of the list
pub members-All : (P : ℕ → Type 0) (x : ℕ) → ((t : ℕ) → bit_at x t ≡ 1 → P t) → All P (members x)
unfolding members
members-All P x h = all_ranged P 128 0 x h

-- ---- some member

pub Any-first : {X : Type 0} (P : X → Type 0) (x : X) (xs : List X) → P x → Any P (x ∷ xs)
Any-first P x xs h = (0, x, omega arith, refl, h)

pub Any-later : {X : Type 0} (P : X → Type 0) (x : X) (xs : List X) → Any P xs → Any P (x ∷ xs)
Any-later P x xs h = (suc h.0, h.1, omega (arith, h.2), h.3, h.4)

any_cond : (P : ℕ → Type 0) (b : Bool) (a : ℕ) (xs : List ℕ) → Any P xs → Any P (cond b (a ∷ xs) xs)
any_cond P true a xs h = Any-later P a xs h
any_cond P false a xs h = h

any_ranged : (P : ℕ → Type 0) (n a x t : ℕ) → a ≤ t → t < a + n → bit_at x t ≡ 1 → P t → Any P (ranged n a x)
any_ranged P zero a x t low high member h = absurd (omega arith)
any_ranged P (suc n) a x t low high member h = ⊎_elim
    (λ e. subst (λ b. Any P (cond b (a ∷ ranged n (a + 1) x) (ranged n (a + 1) x)))
    (sym (has-true x a (subst (λ i. bit_at x i ≡ 1) (sym e) member))) (Any-first P a (ranged n (a + 1) x) (subst P (sym e) h)))
    (λ apart. any_cond P (has x a) a (ranged n (a + 1) x) (any_ranged P n (a + 1) x t (omega arith) (omega arith) member h))
    (cases_eq a t)

-- what holds of a member holds of some item of the list
pub members-Any : (P : ℕ → Type 0) (x t : ℕ) → t < 128 → bit_at x t ≡ 1 → P t → Any P (members x)
unfolding members
members-Any P x t low member h = any_ranged P 128 0 x t (omega arith) (omega arith) member h

any_at : {X Y : Type 0} (P : Y → Type 0) (f : X → Y) (x : X) (xs : List X) → (Any (λ z. P (f z)) xs → Any P (map f xs))
    → (k : ℕ) (y : X) → k < length (x ∷ xs) → get_or (x ∷ xs) k y ≡ y → P (f y) → Any P (f x ∷ map f xs)
any_at P f x xs rest zero y low e p = Any-first P (f x) (map f xs) (subst (λ z. P (f z)) (sym e) p)
any_at P f x xs rest (suc k) y low e p = Any-later P (f x) (map f xs) (rest (k, y, omega arith, e, p))

-- the same of what is made of the members
pub Any-map : {X Y : Type 0} (P : Y → Type 0) (f : X → Y) (xs : List X) → Any (λ x. P (f x)) xs → Any P (map f xs)
Any-map P f [] h = absurd (omega (arith, h.2))
Any-map P f (x ∷ xs) h = any_at P f x xs (λ later. Any-map P f xs later) h.0 h.1 h.2 h.3 h.4

-- ---- recipes upwards

-- recipes that begin higher
pub AreUpward-lower : (a b : ℕ) (rs : List Recipe) → a ≤ b → AreUpward b rs → AreUpward a rs
AreUpward-lower a b [] le h = tt
AreUpward-lower a b (r ∷ rs) le h = (record { later = omega (arith, h.0.later); symbol = h.0.symbol; sources = h.0.sources }, h.1)

-- one more recipe behind them
pub AreUpward-push : (a b : ℕ) (rs : List Recipe) (r : Recipe) → AreUpward a rs → All (λ s. s.symbol < b) rs → a ≤ b → IsNext b r → AreUpward a (rs ++ r ∷ [])
AreUpward-push a b [] r h low le next = (record { later = omega (arith, next.later); symbol = next.symbol; sources = next.sources }, tt)
AreUpward-push a b (q ∷ rs) r h low le next =
    let here : q.symbol < b = low 0 q (omega arith) in
    (h.0, AreUpward-push (q.symbol + 1) b rs r h.1 (λ k d lt. low (suc k) d (omega arith)) (omega (arith, here)) next)

upward_cond : (make : ℕ → Recipe) (b : Bool) (a : ℕ) (xs : List ℕ) → (b ≡ true → IsNext a (make a)) → (make a).symbol ≡ a
    → AreUpward (a + 1) (map make xs) → AreUpward a (map make (cond b (a ∷ xs) xs))
upward_cond make true a xs here is rest = (here refl, subst (λ k. AreUpward (k + 1) (map make xs)) (sym is) rest)
upward_cond make false a xs here is rest = AreUpward-lower a (a + 1) (map make xs) (omega arith) rest

upward_ranged : (make : ℕ → Recipe) (n a x : ℕ) → a + n ≤ 128 → ((t : ℕ) → (make t).symbol ≡ t)
    → ((t : ℕ) → bit_at x t ≡ 1 → (make t).equation < 2 ^ 128) → AreUpward a (map make (ranged n a x))
upward_ranged make zero a x few is low = tt
upward_ranged make (suc n) a x few is low = upward_cond make (has x a) a (ranged n (a + 1) x)
    (λ e. record { later = omega (arith, is a); symbol = omega (arith, is a); sources = low a (true-has x a e) })
    (is a) (upward_ranged make n (a + 1) x (omega arith) is low)

-- recipes made of the members stand upwards
pub members-upward : (make : ℕ → Recipe) (x : ℕ) → ((t : ℕ) → (make t).symbol ≡ t)
    → ((t : ℕ) → bit_at x t ≡ 1 → (make t).equation < 2 ^ 128) → AreUpward 0 (map make (members x))
unfolding members
members-upward make x is low = upward_ranged make 128 0 x (omega arith) is low

-- each recipe of a list that stands upwards has a symbol below 128
pub AreUpward-at : (a : ℕ) (rs : List Recipe) → AreUpward a rs → All (λ r. r.symbol < 128) rs
AreUpward-at a [] h = All-nil (λ (r : Recipe). r.symbol < 128)
AreUpward-at a (r ∷ rs) h = All-cons (λ (q : Recipe). q.symbol < 128) r rs h.0.symbol (AreUpward-at (r.symbol + 1) rs h.1)
