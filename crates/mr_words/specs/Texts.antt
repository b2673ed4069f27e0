-- What the texts of a command's names mean, by the kind of value: each of the texts that was given, or None.
use Rattle.std.specs.Prelude.{ℕ, List, [], ◌∷◌, Option, Some, None, ◌==◌, ◌&&◌, ◌≤◌, nat_le, length, codes, if◌then◌else◌, option_map, bytes_eq, chars}
use Rattle.std.specs.List.{list_any}
use Rattle.mr_text.specs.Numbers.{number_of}
use Rattle.mr_words.specs.Grammar.{Text, ◌>>=◌}
use Rattle.mr_words.specs.Lost.{is_lost_word}
use Rattle.mr_words.specs.declared.limits.TheConstants.{BUDGET_LIMIT, DEFAULT_BUDGET, DEFAULT_WORKERS, WORKER_LIMIT}
use Rattle.mr_words.specs.declared.code.Code.{Code}
use Rattle.mr_words.specs.declared.code.Code.TheVariants.{Rdp, Evenodd}

-- a file's name, by its characters: a text that is not empty
abbrev pub file_name : Text → Option (List ℕ)
file_name text = if length text == 0 then None else Some (chars text)

abbrev pub file_of : Option Text → Option (List ℕ)
file_of text = text >>= file_name

-- a file's name where one is given
abbrev pub file_or_none : Option Text → Option (Option (List ℕ))
file_or_none None = Some None
file_or_none (Some text) = option_map (λ name. Some name) (file_name text)

-- a LOST word, whose bytes are its characters
abbrev pub lost_word : Text → Option (List ℕ)
lost_word text = if is_lost_word text then Some text else None

abbrev pub lost_of : Option Text → Option (List ℕ)
lost_of text = text >>= lost_word

abbrev pub number_in : Option Text → Option ℕ
number_in text = text >>= number_of

-- the number, where it lies between the bounds
abbrev pub within : ℕ → ℕ → ℕ → Option ℕ
within low high n = if nat_le low n && nat_le n high then Some n else None

abbrev pub number_between : ℕ → ℕ → Text → Option ℕ
number_between low high text = number_of text >>= within low high

-- a number between the bounds, or the default where none is given
abbrev pub number_or : ℕ → ℕ → ℕ → Option Text → Option ℕ
number_or default low high None = Some default
number_or default low high (Some text) = number_between low high text

-- the number of workers
abbrev pub workers_of : Option Text → Option ℕ
workers_of = number_or DEFAULT_WORKERS 1 WORKER_LIMIT

-- a number of workers that a run may have
abbrev pub IsWorkers : ℕ → Type 0
IsWorkers workers = (1 ≤ workers) × (workers ≤ WORKER_LIMIT)

-- the budget
abbrev pub budget_of : Option Text → Option ℕ
budget_of = number_or DEFAULT_BUDGET 0 BUDGET_LIMIT

-- the code that a maker's name is of
abbrev pub code_named : Text → Option Code
code_named name =
    if bytes_eq name (codes "rdp") then Some Rdp
    else (if bytes_eq name (codes "evenodd") then Some Evenodd else None)

abbrev pub code_of : Option Text → Option Code
code_of text = text >>= code_named

-- the primes of which the code has a matrix
abbrev pub primes_of : Code → List ℕ
primes_of Rdp = 3 ∷ 5 ∷ 7 ∷ 11 ∷ []
primes_of Evenodd = 3 ∷ 5 ∷ 7 ∷ []

abbrev pub prime_for : Code → ℕ → Option ℕ
prime_for code p = if list_any (λ prime. prime == p) (primes_of code) then Some p else None

abbrev pub prime_of : Code → Option Text → Option ℕ
prime_of code text = number_in text >>= prime_for code
