-- The numbers of a LOST word, read a part at a time.
use Rattle.std.proofs.Common.{◌≡◌, ◌∙◌, ◌+◌, ◌<◌, ◌≤◌, ◌*◌, ℕ, Bool, true, false, cond, zero, suc, List, [], ◌∷◌, ◌++◌, drop, length, filter_map, nat_le, get_or, Option, Some, None, Result, Ok, Err, refl, sym, ap, subst, arith, append_assoc, length-append}
use Rattle.std.specs.Prelude.{All}
use Rattle.std.specs.List.{cons_option, slice_index_or}
use Rattle.std.proofs.lemmas.Bool.{leb-false}
use Rattle.std.proofs.lemmas.List.{append-nil, at_drop_all, at_drop_more, get_or-append-add}
use Rattle.std.proofs.lemmas.List.Elements.{All-get_or}
use Rattle.std.proofs.Math.Nat.{mul-le-mul_left}
use Rattle.mr_model.specs.Code.{Code, Dimensions, IsDimensions}
use Rattle.mr_text.specs.Numbers.{number_of}
use Rattle.mr_words.specs.Grammar.{Text}
use Rattle.mr_words.specs.Lost.{beyond_or, device_set, devices_of, first_beyond}
use Rattle.mr_steps.specs.Losses.{lost_given, lost_symbols_given, or_no_device, symbols_of_devices}
use Rattle.mr_steps.specs.declared.fault.Fault.{Fault}
use Rattle.mr_steps.proofs.Results.{gave-followed}
use Rattle.mr_scatter_run.specs.Tasks.{numbers_in}

-- ---- the loop over the parts

module _ (ps : List Text) (list : List ℕ) (i : ℕ) (so_far : list ++ filter_map number_of (drop i ps) ≡ filter_map number_of ps) where
  module _ (text : Text) (lt : i < length ps) (at : text ≡ slice_index_or ps i text) where
    rest_is : (o : Option ℕ) → number_of text ≡ o → filter_map number_of (drop i ps) ≡ cons_option o (filter_map number_of (drop (i + 1) ps))
    rest_is o is =
        at_drop_more (filter_map number_of) ps i text lt ∙ ap (λ t. filter_map number_of (t ∷ drop (i + 1) ps)) (sym at)
        ∙ ap (λ v. cons_option v (filter_map number_of (drop (i + 1) ps))) is

    -- a part that is no number
    pub part-none : number_of text ≡ None → list ++ filter_map number_of (drop (i + 1) ps) ≡ filter_map number_of ps
    part-none is = ap (λ xs. list ++ xs) (sym (rest_is None is)) ∙ so_far

    -- one that is
    split : (n : ℕ) → number_of text ≡ Some n → list ++ (n ∷ filter_map number_of (drop (i + 1) ps)) ≡ filter_map number_of ps
    split n is = ap (λ xs. list ++ xs) (sym (rest_is (Some n) is)) ∙ so_far

    pub part-more : (n : ℕ) → number_of text ≡ Some n → (list ++ n ∷ []) ++ filter_map number_of (drop (i + 1) ps) ≡ filter_map number_of ps
    part-more n is = append_assoc list (n ∷ []) (filter_map number_of (drop (i + 1) ps)) ∙ split n is

    pub part-low : (n bound : ℕ) → number_of text ≡ Some n → All (λ x. x < bound) (filter_map number_of ps) → n < bound
    part-low n bound is all =
        let here : get_or (filter_map number_of ps) (length list + 0) 0 ≡ n =
        ap (λ xs. get_or xs (length list + 0) 0) (sym (split n is)) ∙ get_or-append-add list (n ∷ filter_map number_of (drop (i + 1) ps)) 0 0 in
        subst (λ x. x < bound) here
        (All-get_or (λ x. x < bound) (filter_map number_of ps) (length list + 0) 0
        (omega (arith, ap length (split n is), length-append list (n ∷ filter_map number_of (drop (i + 1) ps)), one_more n)) all)
      where
        one_more : (n : ℕ) → 0 < length (n ∷ filter_map number_of (drop (i + 1) ps))
        one_more n = omega arith

  -- all parts
  pub parts-all : length ps ≤ i → list ≡ filter_map number_of ps
  parts-all past = sym (append-nil list) ∙ ap (λ xs. list ++ xs) (sym (at_drop_all (filter_map number_of) ps i past)) ∙ so_far

-- ---- no number is beyond the devices

none-beyond : (devices : ℕ) (xs : List ℕ) → first_beyond devices xs ≡ None → All (λ x. x < devices) xs
none-beyond devices [] none k d low = absurd (omega (arith, low))
none-beyond devices (x ∷ xs) none k d low = go (nat_le devices x) refl none (none-beyond devices xs) k low
  where
    go : (b : Bool) → nat_le devices x ≡ b → cond b (Some x) (first_beyond devices xs) ≡ None → (first_beyond devices xs ≡ None → All (λ y. y < devices) xs)
        → (k : ℕ) → k < length (x ∷ xs) → slice_index_or (x ∷ xs) k d < devices
    go true e clash others k low = let no : ◌≡◌ {A = Option ℕ} (Some x) None = clash in cc
    go false e none others zero low = leb-false devices x e
    go false e none others (suc k) low = others none k d (omega (arith, low))

devices-ok : (o : Option ℕ) (set v : ℕ) → or_no_device (beyond_or o set) ≡ Ok v → o ≡ None
devices-ok None set v e = refl
devices-ok (Some n) set v e = let no : ◌≡◌ {A = Result ℕ Fault} (Err _) (Ok v) = e in cc

-- the numbers of lost devices are devices
pub lost-low : (m : Code) (lost : List ℕ) (symbols : ℕ) → lost_symbols_given m lost ≡ Ok symbols → All (λ x. x < m.devices) (numbers_in lost)
unfolding lost_symbols_given lost_given devices_of
lost-low m lost symbols e =
    let gave = gave-followed (lost_given m.devices lost) (λ devices. symbols_of_devices m devices) symbols e in
    none-beyond m.devices (numbers_in lost) (devices-ok (first_beyond m.devices (numbers_in lost)) (device_set m.devices (numbers_in lost)) gave.value gave.is)

pub all-below : (a b : ℕ) (xs : List ℕ) → a ≤ b → All (λ x. x < a) xs → All (λ x. x < b) xs
all-below a b xs few all k d low = let h : slice_index_or xs k d < a = all k d low in omega (arith, h, few)

-- a code has at most 128 devices
pub few-devices : (d : Dimensions) → IsDimensions d → d.devices ≤ 128
few-devices d h =
    let symbols : d.devices * d.symbols_per_device ≤ 128 = h.few_symbols in
    omega (arith, symbols, mul-le-mul_left {m = 1} {n = d.symbols_per_device} d.devices h.some_symbols)
