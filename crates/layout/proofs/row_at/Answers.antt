use mathlib.Core.Path.{sym}
use Rattle.layout.specs.Rows.{row32, rows, row_at}
use Rattle.layout.proofs.Table.{at_any, at_past}
use Rattle.layout.proofs.row_at.Goals as goal

pub returns-then-i-lt4 : goal.returns-then-i-lt4
unfolding row_at
returns-then-i-lt4 c = at_any rows _ _ row32 c.if-i-lt4.true

pub returns : goal.returns
unfolding row_at
returns c = sym (at_past rows _ row32 c.if-i-lt4.false)
