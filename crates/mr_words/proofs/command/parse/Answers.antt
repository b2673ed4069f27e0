use Rattle.std.proofs.Common.{◌∙◌, map, string_bytes}
use Rattle.mr_words.proofs.Parsing.{are_texts, parsed_err, parsed_ok}
use Rattle.mr_words.proofs.command.parse.Goals as goal

pub returns-in-Ok : goal.returns-in-Ok
returns-in-Ok c = λ title s of. parsed_ok title s _ of (map string_bytes c.args.words.now) (are_texts c.args.words.now) c.in-Ok.matches
    c.in-Ok.ensures.kinds c.in-Ok.ensures.matches

pub returns : goal.returns
returns c = λ title s of. parsed_err title s _ of (map string_bytes c.args.words.now) (are_texts c.args.words.now) c.in-Err.error
    c.in-Err.ensures.kinds (λ memory. c.in_default.not-OutOfMemory (c.kind.ensures ∙ memory))
