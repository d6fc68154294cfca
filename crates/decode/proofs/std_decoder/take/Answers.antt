use Rattle.std.proofs.Common.{refl}
use Rattle.layout.specs.Answers.{answer_of}
use Rattle.decode.specs.Parts.{then_found, step_of}
use Rattle.decode.specs.Calls.{stepped}
use Rattle.decode.proofs.std_decoder.take.Goals as goal

pub returns-in-Err : goal.returns-in-Err
unfolding stepped then_found answer_of
returns-in-Err c = rw c.in-Err.is c.stop.ensures

pub returns-in-Ok-End : goal.returns-in-Ok-End
unfolding stepped then_found step_of answer_of
returns-in-Ok-End c = rw (c.in-Ok-End.is, (rw c.in-Ok-End.is at c.in-Ok-End.field-0-is)) (rw c.position.ensures at c.stop-in-Ok-End.ensures)

pub returns-in-Ok-Point : goal.returns-in-Ok-Point
unfolding stepped then_found step_of answer_of
returns-in-Ok-Point c = rw (c.in-Ok-Point.is, (rw c.in-Ok-Point.is at c.in-Ok-Point.field-0-is), c.position-in-Ok-Point.ensures, c.behind-decoder.ensures) refl
