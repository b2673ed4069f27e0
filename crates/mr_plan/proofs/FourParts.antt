-- Texts that are put part by part: a text of four parts, and the texts of the items of a list.
use Rattle.std.proofs.Common.{◌≡◌, ℕ, ◌+◌, ◌<◌, List, ◌++◌, flat_map, get_or, take, length, subst, ap, ◌∙◌}
use Rattle.std.specs.Prelude.{Option, Result, IsErr}
use Rattle.mr_io.specs.Taking.{Held, Takes, TakesPart, Puts}
use Rattle.mr_io.proofs.Taking.{takes_more, part_more, part_after, puts_err, puts_then, takes_piece, part_piece}

-- ---- four parts: h, s, r and e are the parts, and their primed names the bytes that were put for them

module _ {T E : Type 0} (h s r e : List ℕ) (a b : Option Held) (result : Result T E) (h' : List ℕ) (is_h : h' ≡ h) where
  -- cut short in the first part
  pub cut_in_first : IsErr result → TakesPart a b h' → Puts a b result (h ++ s ++ r ++ e)
  cut_in_first failed part = puts_err a b result (h ++ s ++ r ++ e) failed
      (part_after a b (h ++ s ++ r) e (part_after a b (h ++ s) r (part_after a b h s (subst (λ bytes. TakesPart a b bytes) is_h part))))

  first_is : Takes a b h' → Takes a b h
  first_is first = subst (λ bytes. Takes a b bytes) is_h first

  -- in the second
  pub cut_in_second : (c : Option Held) (s' : List ℕ) → s' ≡ s → IsErr result → Takes a b h' → TakesPart b c s' → Puts a c result (h ++ s ++ r ++ e)
  cut_in_second c s' is_s failed first part = puts_err a c result (h ++ s ++ r ++ e) failed
      (part_after a c (h ++ s ++ r) e (part_after a c (h ++ s) r
      (part_more a b c h s (first_is first) (subst (λ bytes. TakesPart b c bytes) is_s part))))

  second_is : (c : Option Held) (s' : List ℕ) → s' ≡ s → Takes a b h' → Takes b c s' → Takes a c (h ++ s)
  second_is c s' is_s first second = takes_more a b c h s (first_is first) (subst (λ bytes. Takes b c bytes) is_s second)

  -- in the third
  pub cut_in_third : (c d : Option Held) (s' r' : List ℕ) → s' ≡ s → r' ≡ r → IsErr result → Takes a b h' → Takes b c s' → TakesPart c d r' → Puts a d result (h ++ s ++ r ++ e)
  cut_in_third c d s' r' is_s is_r failed first second part = puts_err a d result (h ++ s ++ r ++ e) failed
      (part_after a d (h ++ s ++ r) e (part_more a c d (h ++ s) r (second_is c s' is_s first second) (subst (λ bytes. TakesPart c d bytes) is_r part)))

  -- to the end of the last, which may be cut short
  pub puts_last : (c d f : Option Held) (s' r' : List ℕ) → s' ≡ s → r' ≡ r → Takes a b h' → Takes b c s' → Takes c d r' → Puts d f result e → Puts a f result (h ++ s ++ r ++ e)
  puts_last c d f s' r' is_s is_r first second third last =
      puts_then a d f result (h ++ s ++ r) e
      (takes_more a c d (h ++ s) r (second_is c s' is_s first second) (subst (λ bytes. Takes c d bytes) is_r third)) last

-- ---- the items of a list: the item x at i, for which these bytes were put

module _ {X : Type 0} (f : X → List ℕ) (a b c : Option Held) (xs : List X) (i : ℕ) (x : X) (bytes : List ℕ) (here : x ≡ get_or xs i x) (is : bytes ≡ f x) where
  bytes_is : bytes ≡ f (get_or xs i x)
  bytes_is = is ∙ ap f here

  pub takes_item : i < length xs → Takes a b (flat_map f (take i xs)) → Takes b c bytes → Takes a c (flat_map f (take (i + 1) xs))
  takes_item low first then = takes_piece f a b c xs i x low first (subst (λ zs. Takes b c zs) bytes_is then)

  -- the same, where the item is cut short
  pub part_item : i < length xs → Takes a b (flat_map f (take i xs)) → TakesPart b c bytes → TakesPart a c (flat_map f xs)
  part_item low first then = part_piece f a b c xs i x low first (subst (λ zs. TakesPart b c zs) bytes_is then)
