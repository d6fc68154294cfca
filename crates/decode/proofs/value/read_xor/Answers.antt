use Rattle.std.proofs.lemmas.Result.{err_from_is_err_and}
use Rattle.std.proofs.Common.{◌∙◌, arith}
use Rattle.layout.specs.Reading.{read_xor}
use Rattle.decode.specs.Parts.{then_found, Then, head_then, SoundHead}
use Rattle.decode.proofs.Fields.{by_short, by_zero, by_other, whole_on}
use Rattle.decode.proofs.value.read_xor.Goals as goal

pub returns-in_err-zeroes_bit : goal.returns-in_err-zeroes_bit
unfolding then_found Then head_then SoundHead read_xor
returns-in_err-zeroes_bit c = let p = err_from_is_err_and c.from_residual.result c.from_residual.ensures.1 in rw (p.1, p.2) (λ v f. by_short _ _ _ _ _ _ c.in_err-zeroes_bit.ensures, tt)

pub returns-then-zeroes_bit-eq0 : goal.returns-then-zeroes_bit-eq0
unfolding then_found Then head_then SoundHead read_xor
returns-then-zeroes_bit-eq0 c = (
  λ v f. by_zero _ _ _ _ _ _ _ c.in_ok-zeroes_bit.ensures (omega arith),
  (omega arith, whole_on _ _ _ _ c.in_ok-zeroes_bit.ensures),
)

pub returns : goal.returns
unfolding read_xor
returns c = (
  λ v f. c.read_window.ensures.0 v _ f ∙ by_other _ _ _ _ _ _ _ c.in_ok-zeroes_bit.ensures (omega arith),
  rw (whole_on _ _ _ _ c.in_ok-zeroes_bit.ensures) at c.read_window.ensures.1,
)
