use mathlib.Core.Path.{◌≡◌}
use Prim.Native.Nat.{◌+◌, ◌-◌, ◌≤◌}
use Rattle.stream.specs.Bits.{value_of, bits, field}
use Rattle.stream.proofs.get.get_bytes.Given as goal

abbrev pub invariant-loop-left : goal.invariant-loop-left
invariant-loop-left l =
    (l.left ≤ l.n) × (l.p ≡ l.at + (l.n - l.left)) × (l.v ≡ value_of (field (bits l.buf) l.at (l.n - l.left)))

abbrev pub decreases-loop-left : goal.decreases-loop-left
decreases-loop-left l = l.left
