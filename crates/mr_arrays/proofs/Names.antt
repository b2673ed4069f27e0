-- The words of `scatter` name as many device files as they list devices.
use Rattle.std.proofs.Common.{arith, ◌≡◌, ◌==◌, ℕ, Bool, true, false, cond, List, [], ◌∷◌, Option, None, Some, bytes_eq, codes, length, option_map, refl, sym, ◌∙◌, ap, subst}
use Rattle.std.proofs.lemmas.Bool.{eqb-true}
use Rattle.mr_array_words.specs.Devices.{count_in, device_names, each_of}
use Rattle.mr_array_words.specs.Gather.{gather_of}
use Rattle.mr_array_words.specs.Scatter.{ScatterAsked, lost_list_of, lost_with, scatter_from, scatter_of, scatter_syntax}
use Rattle.mr_array_words.specs.Words.{ArrayAsked, array_words_of, to_gather, to_scatter}
use Rattle.mr_scatter_run.specs.Tasks.{numbers_in}
use Rattle.mr_words.specs.Grammar.{Text, given_of, text_in, ◌>>=◌}
use Rattle.mr_words.specs.Lost.{is_lost_word, lost_numbers}
use Rattle.mr_words.specs.Texts.{file_of, lost_of, lost_word, number_in}
use Rattle.mr_words.proofs.LostLaws.{lost_encodes}

-- what a chain gives comes from a value
pub record Came {X Y : Type 0} (o : Option X) (next : X → Option Y) (y : Y) : Type 0 where
  pub value : X
  pub is : o ≡ Some value
  pub gave : next value ≡ Some y

came : {X Y : Type 0} (o : Option X) (next : X → Option Y) (y : Y) → (o >>= next) ≡ Some y → Came o next y
came {X} {Y} None next y e = let clash : ◌≡◌ {A = Option Y} None (Some y) = e in cc
came (Some x) next y e = record { value = x; is = refl; gave = e }

some-same : {X : Type 0} {a b : X} → ◌≡◌ {A = Option X} (Some a) (Some b) → a ≡ b
some-same e = cc

each-length : {X : Type 0} (value : Text → Option X) (names : List Text) (xs : List X) → each_of value names ≡ Some xs → length xs ≡ length names
unfolding each_of
each-length {X} value [] xs e = let same : [] ≡ xs = some-same e in ap length (sym same)
each-length {X} value (name ∷ names) xs e = go (λ ys is. each-length value names ys is) (came (value name) (λ x. option_map (λ (ys : List X). x ∷ ys) (each_of value names)) xs e)
  where
    more : ((ys : List X) → each_of value names ≡ Some ys → length ys ≡ length names) → (x : X) (o : Option (List X)) → each_of value names ≡ o
        → option_map (λ (ys : List X). x ∷ ys) o ≡ Some xs → length xs ≡ length (name ∷ names)
    more rest x None is h = let clash : ◌≡◌ {A = Option (List X)} None (Some xs) = h in cc
    more rest x (Some ys) is h = let same : x ∷ ys ≡ xs = some-same h in
        let fewer = rest ys is in
        ap length (sym same) ∙ omega (arith, fewer)

    go : ((ys : List X) → each_of value names ≡ Some ys → length ys ≡ length names)
        → Came (value name) (λ x. option_map (λ (ys : List X). x ∷ ys) (each_of value names)) xs → length xs ≡ length (name ∷ names)
    go rest h = more rest h.value (each_of value names) refl h.gave

-- LOST is a list of so many numbers
lost-count : (count : ℕ) (text : Option Text) (lost : List ℕ) → lost_list_of count text ≡ Some lost → length (numbers_in lost) ≡ count
lost-count count text lost e = go (came (lost_of text) (lost_with count) lost e)
  where
    listed : (word : List ℕ) (b : Bool) → (length (lost_numbers word) == count) ≡ b → cond b (Some word) None ≡ Some lost → (word ≡ lost) × (length (lost_numbers word) ≡ count)
    listed word true is h = (some-same h, eqb-true (length (lost_numbers word)) count is)
    listed word false is h = let clash : ◌≡◌ {A = Option (List ℕ)} None (Some lost) = h in cc

    spelled : (t : Text) (b : Bool) (word : List ℕ) → is_lost_word t ≡ b → cond b (Some t) None ≡ Some word → (t ≡ word) × (is_lost_word t ≡ true)
    spelled t true word is h = (some-same h, is)
    spelled t false word is h = let clash : ◌≡◌ {A = Option Text} None (Some word) = h in cc

    at : (word : List ℕ) → Came text lost_word word → lost_with count word ≡ Some lost → length (numbers_in lost) ≡ count
    at word h gave =
        let told = spelled h.value (is_lost_word h.value) word refl h.gave in
        let list = listed word (length (lost_numbers word) == count) refl gave in
        let is : is_lost_word lost ≡ true = subst (λ w. is_lost_word w ≡ true) (told.0 ∙ list.0) told.1 in
        ap (λ w. length (lost_numbers w)) (lost_encodes lost is ∙ sym list.0) ∙ list.1

    go : Came (lost_of text) (lost_with count) lost → length (numbers_in lost) ≡ count
    go h = at h.value (came text lost_word h.value h.is) h.gave

names-count : (names : List Text) (text : Text → Option Text) (asked : ScatterAsked) → scatter_from names text ≡ Some asked
    → length asked.devices ≡ length (numbers_in asked.lost)
names-count names text asked e =
    let matrix = came (file_of (text (codes "matrix"))) _ asked e in
    let first = came (number_in (text (codes "first"))) _ asked matrix.gave in
    let lost = came (lost_list_of (length names) (text (codes "lost"))) _ asked first.gave in
    let devices = came (each_of (λ name. file_of (text name)) names) _ asked lost.gave in
    let same : ◌≡◌ {A = ScatterAsked} (record { matrix = matrix.value; first = first.value; lost = lost.value; devices = devices.value }) asked = some-same devices.gave in
    subst (λ (a : ScatterAsked). length a.devices ≡ length (numbers_in a.lost)) same
    (each-length (λ name. file_of (text name)) names devices.value devices.is ∙ sym (lost-count (length names) (text (codes "lost")) lost.value lost.is))

scatter-count : (words : List Text) (asked : ScatterAsked) → scatter_of words ≡ Some asked → length asked.devices ≡ length (numbers_in asked.lost)
scatter-count words asked e =
    let count = came (count_in scatter_syntax 0 129 words) _ asked e in
    let given = came (given_of (scatter_syntax (device_names count.value)) words) _ asked count.gave in
    names-count (device_names count.value) (text_in given.value) asked given.gave

mapped : {X : Type 0} (f : X → ArrayAsked) (o : Option X) (asked : ArrayAsked) → option_map f o ≡ Some asked → Came o (λ x. Some (f x)) asked
mapped f None asked e = let clash : ◌≡◌ {A = Option ArrayAsked} None (Some asked) = e in cc
mapped f (Some x) asked e = record { value = x; is = refl; gave = e }

pub scatter-names : (words : List Text) (asked : ScatterAsked) → array_words_of words ≡ Some (to_scatter asked)
    → length asked.devices ≡ length (numbers_in asked.lost)
unfolding array_words_of
scatter-names [] asked e = let clash : ◌≡◌ {A = Option ArrayAsked} None (Some (to_scatter asked)) = e in cc
scatter-names (command ∷ words) asked e = go (bytes_eq command (codes "gather")) (bytes_eq command (codes "scatter")) e
  where
    named : Came (scatter_of words) (λ x. Some (to_scatter x)) (to_scatter asked) → length asked.devices ≡ length (numbers_in asked.lost)
    named h =
        let is : to_scatter h.value ≡ to_scatter asked = some-same h.gave in
        let same : h.value ≡ asked = cc in
        scatter-count words asked (h.is ∙ ap Some same)

    other : Came (gather_of words) (λ x. Some (to_gather x)) (to_scatter asked) → length asked.devices ≡ length (numbers_in asked.lost)
    other h = let clash : to_gather h.value ≡ to_scatter asked = some-same h.gave in cc

    go : (a b : Bool) → cond a (option_map to_gather (gather_of words)) (cond b (option_map to_scatter (scatter_of words)) None) ≡ Some (to_scatter asked)
        → length asked.devices ≡ length (numbers_in asked.lost)
    go true b e = other (mapped to_gather (gather_of words) (to_scatter asked) e)
    go false true e = named (mapped to_scatter (scatter_of words) (to_scatter asked) e)
    go false false e = let clash : ◌≡◌ {A = Option ArrayAsked} None (Some (to_scatter asked)) = e in cc
