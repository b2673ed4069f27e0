-- Results that follow one another, and the results of chains.
use Rattle.std.proofs.Common.{◌≡◌, is_ok, Result, Ok, Err, refl, sym, ◌∙◌, ap}
use Rattle.mr_steps.specs.Readings.{Reading, and_then, ◌>>=◌}
use Rattle.mr_steps.specs.Refusals.{Gave, followed_by, refusal_of}
use Rattle.mr_steps.specs.declared.fault.Fault.{Fault}

-- ---- results

pub ok-same : {Y : Type 0} {a b : Y} → ◌≡◌ {A = Result Y Fault} (Ok a) (Ok b) → a ≡ b
ok-same e = cc

-- steps that gave a value
pub gave-followed : {X Y : Type 0} (step : Result X Fault) (f : X → Y) (y : Y) → followed_by step (λ x. Ok (f x)) ≡ Ok y → Gave step (λ x. y ≡ f x)
gave-followed (Ok x) f y e = record { value = x; is = refl; holds = sym (ok-same e) }
gave-followed {X} {Y} (Err fault) f y e = let clash : ◌≡◌ {A = Result Y Fault} (Err fault) (Ok y) = e in cc

pub gave-then : {X Y : Type 0} (step : Result X Fault) (next : X → Result Y Fault) (y : Y) → followed_by step next ≡ Ok y → Gave step (λ x. next x ≡ Ok y)
gave-then (Ok x) next y e = record { value = x; is = refl; holds = e }
gave-then {X} {Y} (Err fault) next y e = let clash : ◌≡◌ {A = Result Y Fault} (Err fault) (Ok y) = e in cc

-- what comes after a value refuses nothing
pub refusal-followed : {X Y : Type 0} (step : Result X Fault) (f : X → Y) → refusal_of (followed_by step (λ x. Ok (f x))) ≡ refusal_of step
refusal-followed (Ok x) f = refl
refusal-followed (Err fault) f = refl

-- results that follow equal results by equal steps
pub followed-same : {X Y : Type 0} (a b : Result X Fault) (f g : X → Result Y Fault) → a ≡ b → ((x : X) → f x ≡ g x)
    → followed_by a f ≡ followed_by b g
followed-same {X} {Y} a b f g e same = ap (λ r. followed_by r f) e ∙ go b
  where
    go : (r : Result X Fault) → followed_by r f ≡ followed_by r g
    go (Ok x) = same x
    go (Err fault) = refl

-- one after another, either way
pub followed-followed : {X Y Z : Type 0} (a : Result X Fault) (f : X → Result Y Fault) (g : Y → Result Z Fault)
    → followed_by (followed_by a f) g ≡ followed_by a (λ x. followed_by (f x) g)
followed-followed (Ok x) f g = refl
followed-followed (Err fault) f g = refl

-- steps within steps, one after another
pub nest : {X Y Z : Type 0} (a : Result X Fault) (f : X → Result Y Fault) (g : Y → Result Z Fault) (k : X → Result Z Fault)
    → ((x : X) → followed_by (f x) g ≡ k x) → followed_by (followed_by a f) g ≡ followed_by a k
nest a f g k same = followed-followed a f g ∙ followed-same a a (λ x. followed_by (f x) g) k refl same

-- steps that go on alike give a value at the same places
pub tells-ok : {X Y Z : Type 0} (r : Result X Fault) (f : X → Result Y Fault) (g : X → Result Z Fault) → ((x : X) → is_ok (f x) ≡ is_ok (g x))
    → is_ok (followed_by r f) ≡ is_ok (followed_by r g)
tells-ok (Ok x) f g same = same x
tells-ok (Err fault) f g same = refl

pub tells-value : {X Y : Type 0} (r : Result X Fault) (f : X → Y) → is_ok (followed_by r (λ x. Ok (f x))) ≡ is_ok r
tells-value (Ok x) f = refl
tells-value (Err fault) f = refl

-- ---- chains

-- the result of a chain
pub result-next : {X Y : Type 0} (reading : Reading X) (next : X → Reading Y)
    → (reading >>= next).result ≡ followed_by reading.result (λ x. (next x).result)
result-next {X} {Y} reading next = go reading.result
  where
    go : (r : Result X Fault) → (and_then reading.eyes reading.taken r next).result ≡ followed_by r (λ x. (next x).result)
    go (Ok x) = refl
    go (Err fault) = refl

-- the result of a chain whose parts are known
pub result-as : {X Y : Type 0} (reading : Reading X) (next : X → Reading Y) (a : Result X Fault) (f : X → Result Y Fault)
    → reading.result ≡ a → ((x : X) → (next x).result ≡ f x) → (reading >>= next).result ≡ followed_by a f
result-as reading next a f e same =
    result-next reading next ∙ followed-same reading.result a (λ x. (next x).result) f e same

-- what the first step of a chain gave, where the chain gives a value
pub gave-on : {X Y : Type 0} (reading : Reading X) (next : X → Reading Y) (y : Y) → (reading >>= next).result ≡ Ok y
    → Gave reading.result (λ x. (next x).result ≡ Ok y)
gave-on reading next y e =
    gave-then reading.result (λ x. (next x).result) y (sym (result-next reading next) ∙ e)
