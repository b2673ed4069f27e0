use Rattle.std.proofs.Common.{◌≡◌, map}
use Rattle.std.specs.List.{range_with_len}
use Rattle.mr_image.specs.Rotated.{codes_by}
use Rattle.mr_scrub.proofs.scrubbing.checks_by.Given as goal

-- the checks of the rotations so far are listed
abbrev pub invariant-loop-rotation : goal.invariant-loop-rotation
invariant-loop-rotation l = l.checks.items ≡ map (codes_by l.head l.matrix) (range_with_len 0 l.rotation)
