use Rattle.std.proofs.lemmas.Result.{err_from_is_err_and}
use Rattle.std.proofs.Common.{◌∙◌, arith}
use Rattle.layout.specs.Reading.{read_dod}
use Rattle.layout.specs.Rows.{signed}
use Rattle.decode.specs.Parts.{then_found, Then, dod_then, FieldOf}
use Rattle.decode.proofs.Fields.{by_short, by_zero, by_other, whole_on}
use Rattle.decode.proofs.timestamp.read_dod.Goals as goal

pub returns-in_err-bit : goal.returns-in_err-bit
unfolding then_found Then dod_then FieldOf read_dod
returns-in_err-bit c = let p = err_from_is_err_and c.from_residual.result c.from_residual.ensures.1 in rw (p.1, p.2) (λ f. by_short _ _ _ _ _ _ c.in_err-bit.ensures, tt)

pub returns-then-bit-eq0 : goal.returns-then-bit-eq0
unfolding then_found Then dod_then FieldOf read_dod signed
returns-then-bit-eq0 c = (λ f. by_zero _ _ _ _ _ _ _ c.in_ok-bit.ensures (omega arith), whole_on _ _ _ _ c.in_ok-bit.ensures)

pub returns : goal.returns
unfolding read_dod
returns c = (
  λ f. c.read_row.ensures.0 f ∙ by_other _ _ _ _ _ _ _ c.in_ok-bit.ensures (omega arith),
  rw (whole_on _ _ _ _ c.in_ok-bit.ensures) at c.read_row.ensures.1,
)
