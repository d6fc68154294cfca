use Rattle.std.proofs.Common.{◌≡◌, ◌-◌, ◌≤◌}
use Rattle.decode.proofs.Dods.{RowsLeft}
use Rattle.decode.proofs.timestamp.read_row.Given as goal

abbrev pub invariant-loop-i : goal.invariant-loop-i
invariant-loop-i l = (l.i ≤ 3) × RowsLeft l.initial.behind l.i l.behind × (l.behind.buf.now ≡ l.initial.behind.buf.now)

abbrev pub decreases-loop-i : goal.decreases-loop-i
decreases-loop-i l = 3 - l.i
