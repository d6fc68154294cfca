use mathlib.Core.Path.{◌≡◌}
use lib.ListN.{drop}
use Rattle.layout.specs.Writing.{row_bits}
use Rattle.layout.specs.Rows.{rows}
use Rattle.encode.proofs.dod.row_of.Given as goal

abbrev pub invariant-loop-row : goal.invariant-loop-row
invariant-loop-row l = row_bits rows l.d ≡ row_bits (drop l.row-index rows) l.d
