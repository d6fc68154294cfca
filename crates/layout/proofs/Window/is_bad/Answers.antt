use Rattle.layout.proofs.Zeros.{bad_64, bad_other}
use Rattle.layout.proofs.Window.is_bad.Goals as goal

pub returns-then-self-eq64 : goal.returns-then-self-eq64
returns-then-self-eq64 c = bad_64 _ _ c.if-self-eq64.true

pub returns : goal.returns
returns c = bad_other _ _ _ c.if-self-eq64.false c.has_no_digit.ensures
