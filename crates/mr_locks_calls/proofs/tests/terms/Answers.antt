use Rattle.std.proofs.Common.{◌≡◌, ℕ, List, All, Vec, Global, length, sym, ap, subst, ◌∙◌}
use Rattle.std.proofs.lemmas.List.{length-map}
use Rattle.std.proofs.lemmas.List.Elements.{All-map}
use Rattle.mr_kept.specs.Kept.{items_of, stripe_bytes}
use Rattle.mr_locks_calls.proofs.tests.terms.Goals as goal

pub returns-clause-parts : goal.returns-clause-parts
returns-clause-parts c =
    let is = c.of.ensures in
    record {
      plans = c.requires.plans;
      code = c.requires.code;
      count = length-map c.of.result.value.items (λ v. v.items) ∙ ap (λ q. length q.items) is ∙ c.requires.count ∙ sym c.requires.stripes;
      widths = subst (λ (q : _). All (λ (bytes : List ℕ). length bytes ≡ stripe_bytes c.args.head) (items_of q.items)) (sym is)
          (subst (λ (n : ℕ). All (λ (bytes : List ℕ). length bytes ≡ n) (items_of c.args.image.now.items)) (sym c.requires.symbols) (All-map (λ (bytes : List ℕ). length bytes ≡ 64) (λ (v : Vec ℕ Global). v.items) c.args.image.now.items c.requires.widths));
      ops = c.requires.ops;
    }
