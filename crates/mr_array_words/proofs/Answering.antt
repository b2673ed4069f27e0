-- How the readers go on where a step before them answers no value.
use Rattle.std.proofs.Common.{◌≡◌, ℕ, List, drop, Option, None, Result, Ok, Err, cond, false, sym, ap, subst, refl}
use Rattle.std.proofs.lemmas.Result.{err_from_is_err_and}
use Rattle.std.specs.Result.{IsErrAnd, is_err, is_ok, result_map_both}
use Rattle.clap.specs.Words.{first_value, found_of}
use Rattle.clap.specs.declared.parser.matches.ArgMatches.{ArgMatches}
use Rattle.mr_words.specs.Grammar.{Given, Syntax, Text, ◌>>=◌, given_of, text_in}
use Rattle.mr_words.specs.Reads.{ParsesBy, Reads}
use Rattle.mr_words.specs.declared.errors.WordsError.{WordsError}
use Rattle.mr_words.specs.declared.errors.WordsError.TheVariants.{Memory, Usage}
use Rattle.mr_words.proofs.Steps.{asks_ok}
use Rattle.mr_array_words.specs.Devices.{asked_with, device_names}
use Rattle.mr_array_words.specs.Reads.{ReadsAs}

-- where a part has no value the whole has none
pub error_of : {W X Y : Type 0} (asked : W → X) (part : Option Y) (whole : Option X) (e : WordsError) (r : Result W WordsError)
    → Reads part (Err e) → IsErrAnd r (λ y. y ≡ e) → (part ≡ None → whole ≡ None) → ReadsAs asked whole r
error_of {W} {X} {Y} asked part whole e r h back none =
    let p = err_from_is_err_and r back in
    subst (λ x. ReadsAs asked whole x) (sym p.1) (subst (λ y. Reads {X = X} whole (Err y)) (sym p.2) (go e h))
  where
    go : (f : WordsError) → Reads {X = Y} part (Err f) → Reads {X = X} whole (Err f)
    go Usage g = none g
    go Memory g = tt

-- a push that went well
pub is_pushed : {T E A : Type 0} (r : Result T E) (more same : A) → is_err r ≡ false → cond (is_ok r) more same ≡ more
is_pushed (Ok x) more same e = refl
is_pushed (Err y) more same e = cc

-- ---- the words of a command with so many devices

module _ {W X : Type 0} (asked : W → X) (syntax : List Text → Syntax) (from : List Text → (Text → Option Text) → Option X) (count : ℕ) (words : List Text) where
  abbrev with_devices : Option X
  with_devices = asked_with syntax from count (drop 1 words)

  pub refused : (e : WordsError) (r : Result W WordsError) → ParsesBy (syntax (device_names count)) words (Err e) → IsErrAnd r (λ y. y ≡ e)
      → ReadsAs asked with_devices r
  refused e r h back = error_of asked (given_of (syntax (device_names count)) (drop 1 words)) with_devices e r (part e h) back
      (λ n. ap (λ o. o >>= (λ given. from (device_names count) (text_in given))) n)
    where
      part : (f : WordsError) → ParsesBy (syntax (device_names count)) words (Err f) → Reads {X = Given} (given_of (syntax (device_names count)) (drop 1 words)) (Err f)
      part Usage g = g
      part Memory g = tt

  pub taken : (names : List Text) (m : ArgMatches) (r : Result W WordsError) → names ≡ device_names count
      → (p : ParsesBy (syntax (device_names count)) words (Ok m)) → ((name : Text) → text_in p.0 name ≡ first_value (found_of m) name)
      → ReadsAs asked (from names (first_value (found_of m))) r → ReadsAs asked with_devices r
  taken names m r is p same h = asks_ok (syntax (device_names count)) (from (device_names count)) words m (result_map_both asked (λ e. e) r) p
      (λ i. from (device_names count) (λ name. same name i)) (subst (λ ns. ReadsAs asked (from ns (first_value (found_of m))) r) is h)
