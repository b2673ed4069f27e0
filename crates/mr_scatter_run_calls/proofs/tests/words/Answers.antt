use Rattle.std.proofs.Common.{◌≡◌, ◌∙◌, length, ap, sym, arith}
use Rattle.mr_scatter_run.specs.Tasks.{numbers_in}
use Rattle.mr_scatter_run_calls.proofs.Opened.{two-listed}
use Rattle.mr_scatter_run_calls.proofs.tests.words.Goals as goal

pub returns-clause-two : goal.returns-clause-two
returns-clause-two c = omega (arith, ap length c.new-devices.ensures.items, c.in_ok-push.ensures.len, c.in_ok-push-2.ensures.len)

pub returns-clause-listed : goal.returns-clause-listed
returns-clause-listed c =
    let two : length c.push-2.new.self.items ≡ 2 = omega (arith, ap length c.new-devices.ensures.items, c.in_ok-push.ensures.len, c.in_ok-push-2.ensures.len) in
    two ∙ sym (ap (λ word. length (numbers_in word)) c.in_ok-copy_of-4.ensures ∙ two-listed)
