use Rattle.std.proofs.Common.{arith, ◌∙◌, drop, map, string_bytes, refl, sym, subst}
use Rattle.mr_array_words.specs.Gather.{gather_asked, gather_from, gather_syntax}
use Rattle.mr_array_words.specs.Reads.{ReadsAs}
use Rattle.mr_array_words.proofs.Counted.{none_between, one_between}
use Rattle.mr_array_words.proofs.gather_words.read_gather.Goals as goal

pub returns-in-Some : goal.returns-in-Some
returns-in-Some c = subst (λ o. ReadsAs gather_asked o c.read_devices.result)
    (sym (one_between gather_syntax 4 (λ names. omega arith) (λ names name. refl) (drop 1 (map string_bytes c.args.words.now)) gather_from 1 128 (omega arith)
    c.in-Some.count (sym c.device_count.ensures.count ∙ c.in-Some.is)))
    c.read_devices.ensures

pub returns-in-None : goal.returns-in-None
returns-in-None c = none_between gather_syntax 4 (λ names. omega arith) (λ names name. refl) (drop 1 (map string_bytes c.args.words.now)) gather_from 1 128 (omega arith)
    (sym c.device_count.ensures.count ∙ c.in-None.is)
