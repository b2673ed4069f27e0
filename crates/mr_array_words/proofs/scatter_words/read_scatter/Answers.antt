use Rattle.std.proofs.Common.{arith, ◌∙◌, drop, map, string_bytes, refl, sym, subst}
use Rattle.mr_array_words.specs.Scatter.{scatter_asked, scatter_from, scatter_syntax}
use Rattle.mr_array_words.specs.Reads.{ReadsAs}
use Rattle.mr_array_words.proofs.Counted.{none_between, one_between}
use Rattle.mr_array_words.proofs.scatter_words.read_scatter.Goals as goal

pub returns-in-Some : goal.returns-in-Some
returns-in-Some c = subst (λ o. ReadsAs scatter_asked o c.read_devices.result)
    (sym (one_between scatter_syntax 3 (λ names. omega arith) (λ names name. refl) (drop 1 (map string_bytes c.args.words.now)) scatter_from 0 129 (omega arith)
    c.in-Some.count (sym c.device_count.ensures.count ∙ c.in-Some.is)))
    c.read_devices.ensures

pub returns-in-None : goal.returns-in-None
returns-in-None c = none_between scatter_syntax 3 (λ names. omega arith) (λ names name. refl) (drop 1 (map string_bytes c.args.words.now)) scatter_from 0 129 (omega arith)
    (sym c.device_count.ensures.count ∙ c.in-None.is)
