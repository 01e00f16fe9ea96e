use mathlib.Core.Path.{ap}
use Prim.Native.Nat.{◌+◌, ◌*◌, ◌-◌}
use native.Mathlib.Omega.{arith}
use lib.ListN.{length, drop, length-drop}
use lib.Seq.{length-take-le}
use Rattle.split.proofs.Stores.{put_sets}
use Rattle.split.proofs.parts.put.Goals as goal

pub returns : goal.returns
returns g c =
    let i = g.row.N * c.args.k in
    let rest = drop i c.args.to.now in
    put_sets _ _ _ _ _ c.copy_from_slice.ensures.after
    (omega (arith, length-drop i c.args.to.now, length-take-le (i + g.row.N - i) rest (omega (arith, length-drop i c.args.to.now)), ap length c.copy_from_slice.ensures.after, c.copy_from_slice.ensures.len))
    (omega (arith, length-drop i c.args.to.now, length-take-le (i + g.row.N - i) rest (omega (arith, length-drop i c.args.to.now)), ap length c.copy_from_slice.ensures.after, c.copy_from_slice.ensures.len))
