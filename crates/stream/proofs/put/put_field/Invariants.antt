use mathlib.Core.Path.{◌≡◌}
use Prim.Native.Nat.{◌+◌, ◌-◌, ◌/◌, ◌^◌, ◌≤◌}
use lib.ListN.{length}
use Rattle.stream.specs.Bits.{bits_of, bits, replaced}
use Rattle.stream.proofs.put.put_field.Given as goal

abbrev pub invariant-loop-left : goal.invariant-loop-left
invariant-loop-left l =
    (l.left ≤ l.n) × (l.p ≡ l.at + (l.n - l.left)) × (length l.buf ≡ length l.initial.buf)
    × (bits l.buf ≡ replaced (bits l.initial.buf) l.at (bits_of (l.n - l.left) (l.value / 2 ^ l.left)))

abbrev pub decreases-loop-left : goal.decreases-loop-left
decreases-loop-left l = l.left
