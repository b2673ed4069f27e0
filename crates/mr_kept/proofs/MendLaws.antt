-- The recipes of a plan are carried out in the bytes of a stripe, one after another.
use Rattle.std.proofs.Common.{◌≡◌, ℕ, ◌+◌, ◌*◌, ◌<◌, ◌≤◌, ◌^◌, ⊎_elim, true, List, ◌++◌, take, drop, flat_map, length, get_or, Option, Some, None, refl, sym, ap, subst, ◌∙◌, arith, take_all, length-take-le, length-append, length-drop, zero-add}
use Rattle.std.specs.Int.{bit_at}
use Rattle.std.specs.List.{range_with_len}
use Rattle.std.proofs.lemmas.Bool.{cases_eq}
use Rattle.std.proofs.lemmas.List.{get_or_default, length-map}
use Rattle.mr_model.specs.Sets.{within}
use Rattle.mr_model.specs.Plans.{Recipe}
use Rattle.mr_model.proofs.SetLaws.{true-within, member-below}
use Rattle.mr_plan.specs.Plans.{PlanParts}
use Rattle.mr_plan.specs.PlanLists.{plan_at, recipes_at}
use Rattle.mr_image.specs.Images.{Layout, stripe_symbols, xor_symbols, equation_of, rebuilt}
use Rattle.mr_image.proofs.SymbolLaws.{length-xor_symbols}
use Rattle.mr_encode.proofs.ColumnLaws.{place_end}
use Rattle.mr_encode.proofs.StripeLaws.{length-part}
use Rattle.mr_mend.proofs.Lists.{symbol_at}
use Rattle.mr_mend.proofs.Subsets.{within-low}
use Rattle.mr_kept.specs.Kept.{stripe_bytes, symbol_in, all_symbols, with_symbol_at, mended_symbol, mended_bytes, IsAmendable}
use Rattle.mr_kept.proofs.PartLaws.{xor_symbols-same, symbols-at, symbol-here, symbol-other, from-symbols, range-slot}
use Rattle.mr_kept.proofs.RecipeLaws.{equation_of-none, equation_of-some, equation-here, equation-other, equation_of-nil}

-- the first k recipes are carried out
pub record IsMendedBelow (l : Layout) (recipes : List Recipe) (k : ℕ) (start bytes : List ℕ) : Type 0 where
  pub size : length bytes ≡ length start
  pub same : (i : ℕ) → i < stripe_symbols l → symbol_in l.symbol_bytes bytes i ≡ mended_symbol l (take k recipes) start i

pub mended-start : (l : Layout) (recipes : List Recipe) (start : List ℕ) → IsMendedBelow l recipes 0 start start
unfolding mended_symbol
mended-start l recipes start = record { size = refl; same = λ i low. sym (ap (rebuilt l.symbol_bytes (all_symbols l start) (symbol_in l.symbol_bytes start i)) (equation_of-nil i)) }

length-with_symbol_at : (size i : ℕ) (bytes y : List ℕ) → i * size + size ≤ length bytes → length y ≡ size → length (with_symbol_at size i bytes y) ≡ length bytes
length-with_symbol_at size i bytes y room long =
    omega (arith, length-append (take (i * size) bytes) (y ++ drop (i * size + size) bytes), length-append y (drop (i * size + size) bytes), length-drop (i * size + size) bytes, length-take-le (i * size) bytes (omega (arith, room)), room, long)

module _ (l : Layout) (plan : PlanParts) (may : IsAmendable l plan) (start : List ℕ) (long : length start ≡ stripe_bytes l) where
  module _ (k : ℕ) (r : Recipe) (here : k < length plan.recipes) (is : r ≡ get_or plan.recipes k r) where
    pub recipe-low : r.symbol < stripe_symbols l
    recipe-low = omega (arith, may.mendable.symbols k r here, ap (λ (q : Recipe). q.symbol) is)

    recipe-inside : within r.equation plan.set ≡ true
    recipe-inside = subst (λ (q : Recipe). within q.equation plan.set ≡ true) (sym is) (may.mendable.inside k r here)

    pub recipe-small : r.equation < 2 ^ stripe_symbols l
    recipe-small = within-low r.equation plan.set (stripe_symbols l) recipe-inside may.mendable.in_range

    -- no symbol that is read is rebuilt
    reads-kept : (j : ℕ) → bit_at r.equation j ≡ 1 → (m : ℕ) (d : Recipe) → m < length plan.recipes → (get_or plan.recipes m d).symbol ≡ j → ⊥
    reads-kept j member m d low e =
        omega (arith, true-within r.equation plan.set recipe-inside j, member, may.apart m d low, ap (λ t. bit_at plan.set t) e)

    pub recipe-apart : bit_at r.equation r.symbol ≡ 0
    recipe-apart = omega (arith, true-within r.equation plan.set recipe-inside r.symbol, may.apart k r here, ap (λ (q : Recipe). bit_at plan.set q.symbol) is)

    -- the symbols before it are others
    earlier : (m : ℕ) (d : Recipe) → m < k → m < length plan.recipes → (get_or plan.recipes m d).symbol ≡ r.symbol → ⊥
    earlier m d low inside e =
        omega (arith, may.mendable.upwards m k low (omega (arith, here, length-map plan.recipes (λ (q : Recipe). q.symbol))), symbol_at plan.recipes m d inside, symbol_at plan.recipes k r here, ap (λ (q : Recipe). q.symbol) is, e)

    pub mended-turn : (bytes after : List ℕ) → IsMendedBelow l plan.recipes k start bytes
        → after ≡ with_symbol_at l.symbol_bytes r.symbol bytes (xor_symbols l.symbol_bytes (all_symbols l bytes) r.equation)
        → IsMendedBelow l plan.recipes (k + 1) start after
    unfolding mended_symbol
    mended-turn bytes after h made =
        let size : ℕ = l.symbol_bytes in
        let y : List ℕ = xor_symbols size (all_symbols l bytes) r.equation in
        let y_long : length y ≡ size = length-xor_symbols size (all_symbols l bytes) r.equation in
        let room : r.symbol * size + size ≤ length bytes = omega (arith, place_end size (stripe_symbols l) (length bytes) r.symbol (h.size ∙ long) recipe-low) in
        let reach : r.symbol * size ≤ length bytes = omega (arith, room) in
        record {
          size = ap length made ∙ length-with_symbol_at size r.symbol bytes y room y_long ∙ h.size;
          same = λ i low. ap (λ b. symbol_in size b i) made ∙ ⊎_elim
              (λ (e : i ≡ r.symbol).
              ap (symbol_in size (with_symbol_at size r.symbol bytes y)) e
              ∙ symbol-here size r.symbol bytes y reach y_long
              ∙ xor_symbols-same size (all_symbols l bytes) (all_symbols l start) r.equation (λ j member.
              let j_low : j < stripe_symbols l = member-below (stripe_symbols l) r.equation j recipe-small member in
              symbols-at size (stripe_symbols l) bytes j j_low ∙ h.same j j_low
              ∙ ap (rebuilt size (all_symbols l start) (symbol_in size start j)) (equation_of-none plan.recipes k j (λ m d below inside q. reads-kept j member m d inside q))
              ∙ sym (symbols-at size (stripe_symbols l) start j j_low))
              ∙ sym (ap (rebuilt size (all_symbols l start) (symbol_in size start r.symbol)) (equation-here plan.recipes k r here is (equation_of-none plan.recipes k r.symbol earlier)))
              ∙ ap (mended_symbol l (take (k + 1) plan.recipes) start) (sym e))
              (λ (other : i ≡ r.symbol → ⊥).
              symbol-other size r.symbol i bytes y reach y_long other ∙ h.same i low
              ∙ sym (ap (rebuilt size (all_symbols l start) (symbol_in size start i)) (equation-other plan.recipes k r here is i (λ q. other (sym q)))))
              (cases_eq i r.symbol);
        }

  -- the sources of a symbol
  pub sources-fit : (i e : ℕ) → equation_of plan.recipes i ≡ Some e → (e < 2 ^ stripe_symbols l) × (bit_at e i ≡ 0)
  sources-fit i e = equation_of-some (λ x. (x < 2 ^ stripe_symbols l) × (bit_at x i ≡ 0)) plan.recipes i e (λ k d low same.
      let r : Recipe = get_or plan.recipes k d in
      let is : r ≡ get_or plan.recipes k r = get_or_default plan.recipes k d r low in
      (recipe-small k r low is, ap (bit_at r.equation) (sym same) ∙ recipe-apart k r low is))

  -- no source of a symbol has a recipe
  pub sources-apart : (i e : ℕ) → equation_of plan.recipes i ≡ Some e → (j : ℕ) → bit_at e j ≡ 1 → equation_of plan.recipes j ≡ None
  sources-apart i e = equation_of-some (λ x. (j : ℕ) → bit_at x j ≡ 1 → equation_of plan.recipes j ≡ None) plan.recipes i e (λ k d low same j member.
      let r : Recipe = get_or plan.recipes k d in
      let is : r ≡ get_or plan.recipes k r = get_or_default plan.recipes k d r low in
      ap (λ rs. equation_of rs j) (sym (take_all (length plan.recipes) plan.recipes (omega arith)))
      ∙ equation_of-none plan.recipes (length plan.recipes) j (λ m q below inside there. reads-kept k r low is j member m q inside there))

  pub mended-all : (k : ℕ) (bytes : List ℕ) → length plan.recipes ≤ k → IsMendedBelow l plan.recipes k start bytes → bytes ≡ mended_bytes l plan.recipes start
  unfolding mended_bytes
  mended-all k bytes all h =
      from-symbols (mended_symbol l (take k plan.recipes) start) l.symbol_bytes (stripe_symbols l) bytes (h.size ∙ long) h.same
      ∙ ap (λ rs. flat_map (mended_symbol l rs start) (range_with_len 0 (stripe_symbols l))) (take_all k plan.recipes all)

-- ---- one symbol

pub mended-some : (l : Layout) (recipes : List Recipe) (bytes : List ℕ) (i e : ℕ) → equation_of recipes i ≡ Some e → mended_symbol l recipes bytes i ≡ xor_symbols l.symbol_bytes (all_symbols l bytes) e
unfolding mended_symbol
mended-some l recipes bytes i e is = ap (rebuilt l.symbol_bytes (all_symbols l bytes) (symbol_in l.symbol_bytes bytes i)) is

pub mended-none : (l : Layout) (recipes : List Recipe) (bytes : List ℕ) (i : ℕ) → equation_of recipes i ≡ None → mended_symbol l recipes bytes i ≡ symbol_in l.symbol_bytes bytes i
unfolding mended_symbol
mended-none l recipes bytes i is = ap (rebuilt l.symbol_bytes (all_symbols l bytes) (symbol_in l.symbol_bytes bytes i)) is

length-rebuilt : (size : ℕ) (symbols : List (List ℕ)) (symbol : List ℕ) (o : Option ℕ) → length symbol ≡ size → length (rebuilt size symbols symbol o) ≡ size
length-rebuilt size symbols symbol None long = long
length-rebuilt size symbols symbol (Some e) long = length-xor_symbols size symbols e

pub length-mended_symbol : (l : Layout) (recipes : List Recipe) (bytes : List ℕ) (i : ℕ) → length bytes ≡ stripe_bytes l → i < stripe_symbols l → length (mended_symbol l recipes bytes i) ≡ l.symbol_bytes
unfolding mended_symbol
length-mended_symbol l recipes bytes i long low =
    length-rebuilt l.symbol_bytes (all_symbols l bytes) (symbol_in l.symbol_bytes bytes i) (equation_of recipes i) (length-part l.symbol_bytes (stripe_symbols l) i l.symbol_bytes bytes long low refl)

-- a symbol of the mended bytes
pub symbol-mended : (l : Layout) (recipes : List Recipe) (bytes : List ℕ) (i : ℕ) → length bytes ≡ stripe_bytes l → i < stripe_symbols l
    → symbol_in l.symbol_bytes (mended_bytes l recipes bytes) i ≡ mended_symbol l recipes bytes i
unfolding mended_bytes
symbol-mended l recipes bytes i long low =
    range-slot (mended_symbol l recipes bytes) l.symbol_bytes (stripe_symbols l) 0 i (λ k below. ap (λ m. length (mended_symbol l recipes bytes m)) (zero-add k) ∙ length-mended_symbol l recipes bytes k long below) low
    ∙ ap (mended_symbol l recipes bytes) (zero-add i)

-- the recipes of the plan of a stripe
pub recipes-of : (plans : List PlanParts) (s : ℕ) → (plan_at plans s).recipes ≡ recipes_at plans s
unfolding recipes_at
recipes-of plans s = refl
