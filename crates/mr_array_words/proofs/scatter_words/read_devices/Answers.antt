use Rattle.std.proofs.Common.{◌∙◌, codes, map, string_bytes, refl, sym, ap}
use Rattle.mr_words.specs.Clap.{app_for}
use Rattle.mr_array_words.specs.Scatter.{scatter_asked, scatter_from, scatter_syntax}
use Rattle.mr_array_words.specs.Devices.{device_names}
use Rattle.mr_array_words.proofs.Answering.{refused, taken}
use Rattle.mr_array_words.proofs.Names.{scatter_fit}
use Rattle.mr_array_words.proofs.scatter_words.read_devices.Goals as goal

pub returns-in_err-matches : goal.returns-in_err-matches
returns-in_err-matches c =
    let names = ap (map string_bytes) c.deref.ensures.value ∙ c.in_ok-names.ensures in
    refused scatter_asked scatter_syntax scatter_from c.args.count (map string_bytes c.args.words.now) c.in_err-matches.field-0.0 c.from_residual-in_err-matches.result
    (c.in_err-matches.ensures (codes "scatter") (scatter_syntax (device_names c.args.count)) (record {
      is = c.in_ok-command.ensures ∙ ap (λ ns. app_for (codes "scatter") (scatter_syntax ns)) names;
      fit = scatter_fit c.args.count c.requires;
    })) c.from_residual-in_err-matches.ensures.1

pub returns : goal.returns
returns c =
    let names = ap (map string_bytes) c.deref.ensures.value ∙ c.in_ok-names.ensures in
    let p = c.in_ok-matches.ensures (codes "scatter") (scatter_syntax (device_names c.args.count)) (record {
      is = c.in_ok-command.ensures ∙ ap (λ ns. app_for (codes "scatter") (scatter_syntax ns)) names;
      fit = scatter_fit c.args.count c.requires;
    }) in
    taken scatter_asked scatter_syntax scatter_from c.args.count (map string_bytes c.args.words.now) (map string_bytes c.deref-2.result.now) c.in_ok-matches.matches
    c.scatter_values.result (ap (map string_bytes) c.deref-2.ensures.value ∙ c.in_ok-names.ensures) p (λ name. sym (p.2.0 name refl)) c.scatter_values.ensures
