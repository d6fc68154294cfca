use Rattle.std.proofs.Common.{sym, ap, ◌∙◌, arith}
use Rattle.stream.specs.declared.position.BitPos.{BitPos}
use Rattle.decode.proofs.CallLaws.{misfits}
use Rattle.decode.proofs.std_decoder.no_fit.Goals as goal

pub returns-then-n-len : goal.returns-then-n-len
returns-then-n-len c = sym ((misfits 6 _ _).other_length (omega arith))

pub returns-then-len-gt-LIMIT : goal.returns-then-len-gt-LIMIT
returns-then-len-gt-LIMIT c = sym ((misfits 6 _ _).too_long (omega arith) (omega arith))

pub returns-then-len-at : goal.returns-then-len-at
returns-then-len-at c = sym ((misfits 6 _ _).too_late (omega arith) (omega arith) (omega (arith, c.get-at.ensures ∙ ap (λ (p : BitPos). p.0) c.position.ensures)))

pub returns : goal.returns
returns c = c.has_no_digit.ensures ∙ sym ((misfits 6 _ _).otherwise (omega arith) (omega arith) (omega (arith, c.get-at.ensures ∙ ap (λ (p : BitPos). p.0) c.position.ensures)))
