-- How the readers of commands go on from one value to the next.
use Rattle.std.proofs.Common.{◌≡◌, List, drop, Option, Some, Result, Ok, Err, sym, ap, subst}
use Rattle.std.proofs.lemmas.Result.{err_from_is_err_and}
use Rattle.std.specs.Result.{IsErrAnd}
use Rattle.clap.specs.Words.{first_value, found_of}
use Rattle.clap.specs.declared.parser.matches.ArgMatches.{ArgMatches}
use Rattle.mr_words.specs.Grammar.{Given, Syntax, Text, ◌>>=◌, given_of, text_in}
use Rattle.mr_words.specs.Reads.{ParsesBy, Reads}
use Rattle.mr_words.specs.declared.errors.WordsError.{WordsError}
use Rattle.mr_words.specs.declared.errors.WordsError.TheVariants.{Usage, Memory}

module _ {X Y : Type 0} (o : Option X) (next : X → Option Y) where
  -- a value that is read, and then the others
  pub reads_then : (x : X) (r : Result Y WordsError) → o ≡ Some x → Reads (next x) r → Reads (o >>= next) r
  reads_then x r is h = subst (λ v. Reads (v >>= next) r) (sym is) h

  -- a value that is not read
  reads_error : (e : WordsError) → Reads {X = X} o (Err e) → Reads {X = Y} (o >>= next) (Err e)
  reads_error Usage h = ap (λ v. v >>= next) h
  reads_error Memory h = tt

  pub reads_err : (e : WordsError) (r : Result Y WordsError) → Reads {X = X} o (Err e) → IsErrAnd r (λ y. y ≡ e) → Reads (o >>= next) r
  reads_err e r h back = let p = err_from_is_err_and r back in
      subst (λ x. Reads (o >>= next) x) (sym p.1) (subst (λ y. Reads {X = Y} (o >>= next) (Err y)) (sym p.2) (reads_error e h))

-- ---- the reader of a command, from what a parse answers

module _ {X : Type 0} (s : Syntax) (from : (Text → Option Text) → Option X) (words : List Text) where
  -- what the words after the first ask
  abbrev pub asked : Option X
  asked = given_of s (drop 1 words) >>= (λ given. from (text_in given))

  parse_error : (e : WordsError) → ParsesBy s words (Err e) → Reads {X = Given} (given_of s (drop 1 words)) (Err e)
  parse_error Usage h = h
  parse_error Memory h = tt

  -- the words are not taken
  pub asks_err : (e : WordsError) (r : Result X WordsError) → ParsesBy s words (Err e) → IsErrAnd r (λ y. y ≡ e) → Reads asked r
  asks_err e r h back = reads_err (given_of s (drop 1 words)) (λ given. from (text_in given)) e r (parse_error e h) back

  -- the words are taken, and the values are read from the matches
  pub asks_ok : (m : ArgMatches) (r : Result X WordsError) → (p : ParsesBy s words (Ok m)) → from (text_in p.0) ≡ from (first_value (found_of m))
      → Reads (from (first_value (found_of m))) r → Reads asked r
  asks_ok m r p same h = reads_then (given_of s (drop 1 words)) (λ given. from (text_in given)) p.0 r p.1 (subst (λ o. Reads o r) (sym same) h)
