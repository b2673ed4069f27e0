-- The values of names, read one at a time.
use Rattle.std.proofs.Common.{◌≡◌, ◌∙◌, ◌+◌, ◌<◌, ◌≤◌, ℕ, List, [], ◌∷◌, ◌++◌, append-nil, append_assoc, drop, length, map, option_map, Option, Some, None, refl, sym, ap}
use Rattle.std.specs.List.{slice_index_or}
use Rattle.std.proofs.lemmas.List.{at_drop_all, at_drop_more}
use Rattle.mr_words.specs.Grammar.{Text, ◌>>=◌}
use Rattle.mr_array_words.specs.Devices.{each_of}

module _ {S X : Type 0} (value : Text → Option X) (name : S → Text) (names : List S) where
  abbrev from_names : List S → Option (List X)
  from_names ns = each_of value (map name ns)

  -- the values before name i are these
  abbrev pub AreSoFar : List X → ℕ → Type 0
  AreSoFar items i = from_names names ≡ option_map (λ xs. items ++ xs) (from_names (drop i names))

  first : (n : S) (ns : List S) → from_names (n ∷ ns) ≡ (value (name n) >>= (λ x. option_map (λ xs. x ∷ xs) (from_names ns)))
  unfolding each_of
  first n ns = refl

  none_of : each_of value [] ≡ Some []
  unfolding each_of
  none_of = refl

  pub none_yet : AreSoFar [] 0
  none_yet = same (from_names names)
    where
      same : (o : Option (List X)) → o ≡ option_map (λ xs. [] ++ xs) o
      same None = refl
      same (Some xs) = refl

  module _ (items : List X) (i : ℕ) (d : S) (lt : i < length names) (so_far : AreSoFar items i) where
    abbrev here : Option X
    here = value (name (slice_index_or names i d))

    next_is : (o : Option X) → here ≡ o
        → from_names names ≡ option_map (λ xs. items ++ xs) (o >>= (λ x. option_map (λ xs. x ∷ xs) (from_names (drop (i + 1) names))))
    next_is o is = so_far
        ∙ ap (option_map (λ xs. items ++ xs)) (at_drop_more from_names names i d lt
        ∙ first (slice_index_or names i d) (drop (i + 1) names)
        ∙ ap (λ v. v >>= (λ x. option_map (λ xs. x ∷ xs) (from_names (drop (i + 1) names)))) is)

    pub one_more : (x : X) → here ≡ Some x → AreSoFar (items ++ x ∷ []) (i + 1)
    one_more x is = next_is (Some x) is ∙ shifted (from_names (drop (i + 1) names))
      where
        shifted : (o : Option (List X)) → option_map (λ xs. items ++ xs) (option_map (λ xs. x ∷ xs) o) ≡ option_map (λ xs. (items ++ x ∷ []) ++ xs) o
        shifted None = refl
        shifted (Some xs) = ap Some (sym (append_assoc items (x ∷ []) xs))

    pub none_here : here ≡ None → from_names names ≡ None
    none_here is = next_is None is

  pub all_there : (items : List X) (i : ℕ) → length names ≤ i → AreSoFar items i → from_names names ≡ Some items
  all_there items i past so_far = so_far ∙ ap (option_map (λ xs. items ++ xs)) (at_drop_all from_names names i past ∙ none_of)
      ∙ ap Some (append-nil items)
