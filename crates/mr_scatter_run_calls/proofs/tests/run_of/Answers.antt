use Rattle.std.proofs.Common.{◌≡◌, length, refl, arith}
use Rattle.mr_array_words.specs.Scatter.{scatter_asked}
use Rattle.mr_scatter_run_calls.proofs.Opened.{all-opened}
use Rattle.mr_scatter_run_calls.proofs.tests.run_of.Goals as goal

pub bytes-requires : goal.bytes-requires
bytes-requires c =
    let two : length c.scatter_image.new.lent.devices.now.opened ≡ 2 = all-opened c.in_ok-devices.devices c.scatter_image.new.lent.devices.now _ _ (scatter_asked c.in_ok-words.words) _ _ _ 2
    (c.scatter_image.ensures.answers _ refl _ refl _ refl) refl c.if-run-eq0.true c.in_ok-devices.ensures c.in_ok-words.ensures.two in
    omega (arith, two)

pub bytes-requires-then-run-eq0 : goal.bytes-requires-then-run-eq0
bytes-requires-then-run-eq0 c =
    let two : length c.scatter_image.new.lent.devices.now.opened ≡ 2 = all-opened c.in_ok-devices.devices c.scatter_image.new.lent.devices.now _ _ (scatter_asked c.in_ok-words.words) _ _ _ 2
    (c.scatter_image.ensures.answers _ refl _ refl _ refl) refl c.if-run-eq0.true c.in_ok-devices.ensures c.in_ok-words.ensures.two in
    omega (arith, two)
