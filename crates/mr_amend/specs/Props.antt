-- That the parts of an image fit each other has one proof at most, so that it may be a ghost field.
use Rattle.std.specs.Prelude.{ℕ}
use Rattle.std.proofs.Props.{props}
use Rattle.mr_image.specs.Images.{Layout}
use Rattle.mr_ops.specs.Ops.{IsOpOf}
use Rattle.mr_ops.specs.declared.ops.Op.{Op}
use Rattle.mr_ops.specs.declared.ops.Op.TheVariants.{Read, Write}
use Rattle.mr_history.specs.Histories.{Names, PartsFit}

IsOpOf-prop : (l : Layout) (k : ℕ) (op : Op) → IsProp (IsOpOf l k op)
IsOpOf-prop l k (Read t i) = Prim.hlevel props
IsOpOf-prop l k (Write t p) = Prim.hlevel props

ruleset parts_props = (IsOpOf-prop, props)

pub PartsFit-prop : (n : Names) → IsProp (PartsFit n)
PartsFit-prop n = Prim.hlevel parts_props
