use mathlib.Core.Path.{sym, ◌∙◌}
use native.Mathlib.Omega.{arith}
use Rattle.encode.proofs.CallLaws.{misfits}
use Rattle.encode.proofs.std_encoder.no_fit.Goals as goal

pub returns-then-n-len : goal.returns-then-n-len
returns-then-n-len c = sym ((misfits 6 _ _).other_length (λ e. c.if-n-len.true (omega arith)))

pub returns-then-len-gt-LIMIT : goal.returns-then-len-gt-LIMIT
returns-then-len-gt-LIMIT c = sym ((misfits 6 _ _).too_long (omega arith) (omega arith))

pub returns-then-at-lt64 : goal.returns-then-at-lt64
returns-then-at-lt64 c = sym ((misfits 6 _ _).too_early (omega arith) (omega arith) (omega arith))

pub returns-then-left : goal.returns-then-left
returns-then-left c = sym ((misfits 6 _ _).too_late (omega arith) (omega arith) (omega arith) (omega arith))

pub returns : goal.returns
returns c = c.is_bad.ensures ∙ sym ((misfits 6 _ _).otherwise (omega arith) (omega arith) (omega arith) (omega arith))
