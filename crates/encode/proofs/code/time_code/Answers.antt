use mathlib.Core.Path.{◌∙◌}
use native.Mathlib.Omega.{arith}
use Rattle.encode.specs.Parts.{word_of}
use Rattle.encode.proofs.Codes.{zero_is, dod_zero, in_rows}
use Rattle.encode.proofs.code.time_code.Goals as goal

pub returns-then-d-eq0 : goal.returns-then-d-eq0
unfolding word_of
returns-then-d-eq0 c = (omega arith, omega arith, dod_zero _ (zero_is _ c.ranges.d c.if-d-eq0.true))

pub returns : goal.returns
returns c =
    let k = c.row_code.ensures in
    (k.0, k.1, k.2 ∙ in_rows _ _ c.ranges.d c.row_of.ensures.0 c.if-d-eq0.false)
