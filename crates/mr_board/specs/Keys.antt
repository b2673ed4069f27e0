-- What a board is made for, by the key of its table.
use Rattle.mr_board.specs.Terms.{BoardTerms}
use Rattle.mr_board.specs.declared.rule.Terms.{Terms}

-- the terms that the key has
abbrev pub key_terms : Terms → BoardTerms
key_terms key = record { head = key.head; plans = key.plans.value; rights = key.rights.words }
