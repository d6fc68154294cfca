use mathlib.Core.Path.{sym}
use native.Mathlib.Omega.{arith}
use Rattle.stream.proofs.Outcomes.{field_faults}
use Rattle.stream.proofs.field.fit_of.Goals as goal

pub returns-then-len-gt-LIMIT : goal.returns-then-len-gt-LIMIT
returns-then-len-gt-LIMIT c = sym ((field_faults _ _ _ _).too_long (omega arith))

pub returns-then-len-p : goal.returns-then-len-p
returns-then-len-p c = sym ((field_faults _ _ _ _).no_fit (omega arith) (omega arith))

pub returns-then-len-p-2 : goal.returns-then-len-p-2
returns-then-len-p-2 c = sym ((field_faults _ _ _ _).runs_past (omega arith) (omega arith) (omega arith))

pub returns : goal.returns
returns c = sym ((field_faults _ _ _ _).there (omega arith) (omega arith))
