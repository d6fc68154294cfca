use Rattle.std.proofs.lemmas.Result.{err_from_is_err_and}
use Rattle.std.proofs.Common.{◌∙◌, arith}
use Rattle.layout.specs.Reading.{read_first}
use Rattle.decode.specs.Parts.{then_found}
use Rattle.decode.proofs.Fields.{by_short, by_zero, by_other}
use Rattle.decode.proofs.found.read_first.Goals as goal

pub returns-in_err-control_bit : goal.returns-in_err-control_bit
unfolding then_found read_first
returns-in_err-control_bit c = let p = err_from_is_err_and c.from_residual.result c.from_residual.ensures.1 in rw (p.1, p.2) (by_short _ _ _ _ _ _ c.in_err-control_bit.ensures)

pub returns-then-control_bit-eq0 : goal.returns-then-control_bit-eq0
unfolding read_first
returns-then-control_bit-eq0 c = c.read_first_time.ensures ∙ by_zero _ _ _ _ _ _ _ c.in_ok-control_bit.ensures (omega arith)

pub returns : goal.returns
unfolding read_first
returns c = c.read_marker.ensures ∙ by_other _ _ _ _ _ _ _ c.in_ok-control_bit.ensures (omega arith)
