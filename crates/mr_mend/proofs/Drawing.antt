-- The stripes that a mender draws: what it stores, and what it leaves of its pass.
use Rattle.std.proofs.Common.{◌≡◌, ℕ, ◌+◌, ◌-◌, ◌*◌, ◌/◌, ◌%◌, ◌<◌, ◌≤◌, ◌==◌, Bool, true, false, cond, max, List, [], ◌∷◌, ◌++◌, length, get_or, Option, Some, None, IfSome, refl, sym, ap, subst, ◌∙◌, ⊎_elim, arith, sum_by, eqb-true, zero-mul, add-zero}
use Rattle.std.specs.Prelude.{nat_lt, nat_le}
use Rattle.std.proofs.Math.Nat.{add-mul}
use Rattle.std.proofs.lemmas.Bool.{cases_lt}
use Rattle.std.proofs.lemmas.Bool.Decides.{nat_tests}
use Rattle.std.proofs.lemmas.List.Sums.{sum_by_push}
use Rattle.mr_model.specs.Members.{members}
use Rattle.mr_counts.specs.Numbers.{times, next_above}
use Rattle.mr_counts.proofs.NumberLaws.{next_above-push}
use Rattle.mr_io.specs.Sights.{Sight, sight_with}
use Rattle.mr_io.proofs.Seeing.{sight_with-none, sight_with-more}
use Rattle.mr_image.specs.Images.{Layout, image_of, every_stripe, mended}
use Rattle.mr_plan.specs.Plans.{PlanParts}
use Rattle.mr_plan.specs.PlanLists.{plan_at, recipes_at}
use Rattle.mr_board.specs.Terms.{BoardTerms, stripes_of, stripe_words, words_of}
use Rattle.mr_board.specs.Rights.{lost_bytes, terms_for, IsRight}
use Rattle.mr_board.proofs.RightLaws.{right-told}
use Rattle.mr_board.specs.Views.{with_word, with_done}
use Rattle.mr_board.specs.Boards.{IsReady, DrawsStripe, DrawsNone}
use Rattle.mr_board.specs.declared.view.PassView.{PassView}
use Rattle.mr_mend.specs.Menders.{reads_for, drawn_bytes, spelled_word, filled_view, HasPublished, HasMended}
use Rattle.mr_mend.proofs.Lists.{flat_map-each}
use Rattle.mr_mend.proofs.Turns.{own-mended}

-- ---- the words of a stripe

-- the bytes of the lost symbols are those of the words
pub words-bytes : (l : Layout) (plans : List PlanParts) (terms : BoardTerms) (told : Option (List ℕ)) → terms ≡ terms_for l plans told → l.symbol_bytes % 8 ≡ 0
    → length (recipes_at plans 0) * l.symbol_bytes ≡ 8 * stripe_words terms.head terms.plans
unfolding stripe_words
words-bytes l plans terms told is whole =
    let b : ℕ = l.symbol_bytes in
    let eight : 8 * (b / 8) ≡ b = omega (arith, whole) in
    let here : length (recipes_at plans 0) * b ≡ 8 * (length (recipes_at plans 0) * (b / 8)) =
    ap (λ n. length (recipes_at plans 0) * n) (sym eight) ∙ times_eight (length (recipes_at plans 0)) (b / 8) in
    here ∙ ap (λ (t : BoardTerms). 8 * (length (recipes_at t.plans 0) * (t.head.symbol_bytes / 8))) (sym is)
  where
    times_eight : (a b : ℕ) → a * (8 * b) ≡ 8 * (a * b)
    times_eight a b = grind arith

-- what the plan of a stripe makes of its lost symbols is what the plans of all stripes make
pub lost-own : (l : Layout) (plans : List PlanParts) (plan : PlanParts) (told : Option (List ℕ)) (s : ℕ) (lost : List ℕ) → plan ≡ plan_at plans s
    → IfSome told (λ bytes. lost ≡ lost_bytes l (every_stripe plan.recipes) (image_of l bytes) s)
    → IfSome told (λ bytes. lost ≡ lost_bytes l (recipes_at plans) (image_of l bytes) s)
unfolding recipes_at
lost-own l plans plan None s lost own made = tt
lost-own l plans plan (Some bytes) s lost own made =
    made ∙ ap (λ (p : PlanParts). lost_bytes l (every_stripe p.recipes) (image_of l bytes) s) own
    ∙ flat_map-each (λ r. mended l (every_stripe (recipes_at plans s)) (image_of l bytes) s r.symbol) (λ r. mended l (recipes_at plans) (image_of l bytes) s r.symbol) (recipes_at plans s)
    (λ k d low. own-mended l (recipes_at plans) (image_of l bytes) s (get_or (recipes_at plans s) k d).symbol)

-- the open stripe is one of the image
pub claimed-low : (l : Layout) (plans : List PlanParts) (terms : BoardTerms) (told : Option (List ℕ)) (s : ℕ) (claimed : Option ℕ) → terms ≡ terms_for l plans told
    → IfSome claimed (λ t. t < stripes_of terms) → claimed ≡ Some s → s < l.stripes
claimed-low l plans terms told s claimed is low open_stripe =
    let here : s < stripes_of terms = subst (λ o. IfSome o (λ t. t < stripes_of terms)) open_stripe low in
    subst (λ (t : BoardTerms). s < stripes_of t) is here

-- the words of a stripe's rebuilt symbols are right
pub lost-right : (l : Layout) (plans : List PlanParts) (terms : BoardTerms) (plan : PlanParts) (told : Option (List ℕ)) (s i : ℕ) (lost given : List ℕ) → terms ≡ terms_for l plans told
    → plan ≡ plan_at plans s → s < l.stripes → IfSome told (λ bytes. lost ≡ lost_bytes l (every_stripe plan.recipes) (image_of l bytes) s) → given ≡ lost
    → ((k : ℕ) → get_or given k 0 < 256) → i < words_of terms → IsRight terms s i (spelled_word given i)
lost-right l plans terms plan told s i lost given is own low made same small inside =
    let own_bytes : IfSome told (λ bytes. given ≡ lost_bytes l (recipes_at plans) (image_of l bytes) s) =
    subst (λ xs. IfSome told (λ bytes. xs ≡ lost_bytes l (recipes_at plans) (image_of l bytes) s)) (sym same) (lost-own l plans plan told s lost own made) in
    subst (λ (t : BoardTerms). IsRight t s i (spelled_word given i)) (sym is)
    (right-told l plans told s i given own_bytes small low (subst (λ (t : BoardTerms). i < words_of t) is inside))

-- ---- the words that are stored

pub filled-start : (v : PassView) → v ≡ filled_view v (max v.filled 0)
filled-start v = let same : v.filled ≡ max v.filled 0 = omega arith in ap (λ n. filled_view v n) same

pub filled-more : (u v w : PassView) (i : ℕ) → v ≡ filled_view u (max u.filled i) → w ≡ with_word v i → w ≡ filled_view u (max u.filled (i + 1))
filled-more u v w i before now =
    let same : max (max u.filled i) (i + 1) ≡ max u.filled (i + 1) = omega arith in
    now ∙ ap (λ (z : PassView). with_word z i) before ∙ ap (λ n. filled_view u n) same

pub filled-all : (u v : PassView) (i n : ℕ) → v ≡ filled_view u (max u.filled i) → u.filled ≤ n → i ≡ n → v ≡ filled_view u n
filled-all u v i n is few last = let same : max u.filled i ≡ n = omega (arith, few, last) in is ∙ ap (λ n. filled_view u n) same

-- ---- a turn

times-push : (x : ℕ) (ns : List ℕ) (n : ℕ) → times x (ns ++ n ∷ []) ≡ times x ns + cond (n == x) 1 0
times-push x ns n = sum_by_push (λ m. cond (m == x) 1 0) ns n

at_least : (m n : ℕ) → m ≤ n → ◌≡◌ {A = ℕ} (cond (nat_le m n) 1 0) 1
at_least m n h = go (nat_le m n) refl
  where
    go : (b : Bool) → nat_le m n ≡ b → ◌≡◌ {A = ℕ} (cond b 1 0) 1
    go true e = refl
    go false e = absurd (grind (arith, nat_tests))

apart : (n x : ℕ) → x < n → ◌≡◌ {A = ℕ} (cond (n == x) 1 0) 0
apart n x h = go (n == x) refl
  where
    go : (b : Bool) → (n == x) ≡ b → ◌≡◌ {A = ℕ} (cond b 1 0) 0
    go true e = absurd (omega (arith, eqb-true n x e, h))
    go false e = refl

pub published-start : (v : PassView) → v.claimed ≡ None → v.draws ≡ [] → HasPublished v v
published-start v free none = record {
  free = free;
  drawn = λ t low some. let zero_times : times t v.draws ≡ 0 = ap (times t) none in absurd (omega (arith, some, zero_times));
  seen = λ t some. some;
  gave = refl;
  parts = refl;
  left = refl;
}

pub published-turn : (u v w z : PassView) (t : ℕ) → HasPublished u v → DrawsStripe v t w → z ≡ with_done w t → HasPublished u z
published-turn u v w z t h draws is =
    subst (λ (x : PassView). HasPublished u x) (sym (is ∙ ap (λ (x : PassView). with_done x t) draws.view)) record {
      free = refl;
      drawn = λ x low some.
          let before = times-push x v.draws t in
          let after = times-push x v.seen t in
          ⊎_elim (λ (old : 0 < times x v.draws). let done : 0 < times x v.seen = h.drawn x low old in omega (arith, after, done))
          (λ (none : times x v.draws ≤ 0). omega (arith, before, after, some, none)) (cases_lt 0 (times x v.draws));
      seen = λ x some. let after = times-push x v.seen t in let kept : 0 < times x v.seen = h.seen x some in omega (arith, after, kept);
      gave = h.gave;
      parts = h.parts;
      left = h.left;
    }

pub ready-turn : (v w z : PassView) (t : ℕ) → IsReady v → DrawsStripe v t w → z ≡ with_done w t → IsReady z
ready-turn v w z t ready draws is =
    subst (λ (x : PassView). IsReady x) (sym (is ∙ ap (λ (x : PassView). with_done x t) draws.view)) record {
      idle = refl;
      more = omega (arith, next_above-push v.draws t, ready.more, draws.stripe);
    }

-- a number that was drawn is above all before
pub drawn-less : (v w z : PassView) (t n : ℕ) → DrawsStripe v t w → z ≡ with_done w t → stripes_of v.terms ≡ n → n - next_above z.draws < n - next_above v.draws
drawn-less v w z t n draws is size =
    let same : next_above z.draws ≡ max (next_above v.draws) (t + 1) = ap (λ (x : PassView). next_above x.draws) (is ∙ ap (λ (x : PassView). with_done x t) draws.view) ∙ next_above-push v.draws t in
    omega (arith, same, draws.above, draws.stripe, size)

pub mended-end : (u v w : PassView) → HasPublished u v → DrawsNone v w → HasMended u w
mended-end u v w h draws =
    let n : ℕ = draws.number in
    let stripes : ℕ = stripes_of v.terms in
    let past : cond (nat_le stripes n) 1 0 ≡ 1 = at_least stripes n draws.beyond in
    subst (λ (x : PassView). HasMended u x) (sym draws.view) record {
      told = omega (arith, sum_by_push (λ m. cond (nat_le stripes m) 1 0) v.draws n, past);
      published = record {
        free = sym (ap (λ (x : PassView). x.claimed) draws.view) ∙ draws.idle;
        drawn = λ x low some.
            let before = times-push x v.draws n in
            let other : cond (n == x) 1 0 ≡ 0 = apart n x (omega (arith, low, draws.beyond)) in
            h.drawn x low (omega (arith, before, other, some));
        seen = h.seen;
        gave = h.gave;
        parts = h.parts;
        left = h.left;
      };
    }

-- ---- what is read

module _ (l : Layout) (plans : List PlanParts) where
  drawn-none : (draws : List ℕ) → draws ≡ [] → drawn_bytes l plans draws ≡ 0
  drawn-none draws none = ap (λ (ns : List ℕ). drawn_bytes l plans ns) none ∙ zero-mul l.symbol_bytes

  drawn-push : (draws : List ℕ) (n each : ℕ) → reads_for l plans n ≡ each → drawn_bytes l plans (draws ++ n ∷ []) ≡ drawn_bytes l plans draws + each * l.symbol_bytes
  drawn-push draws n each is =
      ap (λ k. k * l.symbol_bytes) (sum_by_push (reads_for l plans) draws n) ∙ add-mul (sum_by (reads_for l plans) draws) (reads_for l plans n) l.symbol_bytes
      ∙ ap (λ k. drawn_bytes l plans draws + k * l.symbol_bytes) is

  pub reads-stripe : (s : ℕ) → s < l.stripes → reads_for l plans s ≡ length (members (plan_at plans s).set)
  reads-stripe s low = go (nat_lt s l.stripes) refl
    where
      go : (b : Bool) → nat_lt s l.stripes ≡ b → cond b (length (members (plan_at plans s).set)) 0 ≡ length (members (plan_at plans s).set)
      go true e = refl
      go false e = absurd (grind (arith, nat_tests))

  pub reads-beyond : (s : ℕ) → l.stripes ≤ s → reads_for l plans s ≡ 0
  reads-beyond s past = go (nat_lt s l.stripes) refl
    where
      go : (b : Bool) → nat_lt s l.stripes ≡ b → cond b (length (members (plan_at plans s).set)) 0 ≡ 0
      go true e = absurd (grind (arith, nat_tests))
      go false e = refl

  pub took-start : (old : Sight) (v : PassView) → v.draws ≡ [] → old ≡ sight_with old (drawn_bytes l plans v.draws)
  took-start old v none = sight_with-none old ∙ ap (sight_with old) (sym (drawn-none v.draws none))

  pub took-turn : (old now new : Sight) (v w z : PassView) (t : ℕ) → now ≡ sight_with old (drawn_bytes l plans v.draws) → DrawsStripe v t w → z ≡ with_done w t
      → stripes_of v.terms ≡ l.stripes → new ≡ sight_with now (length (members (plan_at plans t).set) * l.symbol_bytes) → new ≡ sight_with old (drawn_bytes l plans z.draws)
  took-turn old now new v w z t before draws is size took =
      let each : ℕ = length (members (plan_at plans t).set) in
      let more : drawn_bytes l plans z.draws ≡ drawn_bytes l plans v.draws + each * l.symbol_bytes =
      ap (λ (x : PassView). drawn_bytes l plans x.draws) (is ∙ ap (λ (x : PassView). with_done x t) draws.view) ∙ drawn-push v.draws t each (reads-stripe t (omega (arith, draws.stripe, size))) in
      took ∙ ap (λ s. sight_with s (each * l.symbol_bytes)) before ∙ sight_with-more old (drawn_bytes l plans v.draws) (each * l.symbol_bytes) ∙ ap (sight_with old) (sym more)

  pub took-end : (old now : Sight) (v w : PassView) → now ≡ sight_with old (drawn_bytes l plans v.draws) → DrawsNone v w → stripes_of v.terms ≡ l.stripes
      → now ≡ sight_with old (drawn_bytes l plans w.draws)
  took-end old now v w before draws size =
      let same : drawn_bytes l plans w.draws ≡ drawn_bytes l plans v.draws + 0 * l.symbol_bytes =
      ap (λ (x : PassView). drawn_bytes l plans x.draws) draws.view ∙ drawn-push v.draws draws.number 0 (reads-beyond draws.number (omega (arith, draws.beyond, size))) in
      before ∙ ap (sight_with old) (sym (same ∙ ap (λ k. drawn_bytes l plans v.draws + k) (zero-mul l.symbol_bytes) ∙ add-zero (drawn_bytes l plans v.draws)))
