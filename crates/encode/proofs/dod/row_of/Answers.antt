use mathlib.Core.Path.{sym, ◌∙◌}
use native.Mathlib.Omega.{arith}
use mir.Facts.{to_z-of_z}
use Rattle.encode.proofs.Codes.{row_here, row_next, one_takes}
use Rattle.encode.proofs.dod.row_of.Goals as goal

pub returns-then-takes : goal.returns-then-takes
returns-then-takes c = row_here _ c.loop-row.row-index _ c.loop-row.invariant (omega arith) _ (to_z-of_z c.ranges.d) (sym c.takes.ensures ∙ c.if-takes.true)

pub loop-row-preserved : goal.loop-row-preserved
loop-row-preserved c = row_next _ c.loop-row.row-index _ c.loop-row.invariant (omega arith) (sym c.takes.ensures ∙ c.if-takes.false)

pub unreachable-requires : goal.unreachable-requires
unreachable-requires c = one_takes _ _ (rw (to_z-of_z c.ranges.d) c.requires) c.loop-row.invariant (omega arith)
