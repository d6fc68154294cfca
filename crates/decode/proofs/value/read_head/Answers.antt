use Rattle.std.proofs.lemmas.Result.{err_from_is_err_and}
use Rattle.std.proofs.Common.{◌∙◌, arith, rules}
use Rattle.layout.specs.Reading.{read_value}
use Rattle.decode.specs.Parts.{then_found, Then, head_then, SoundHead}
use Rattle.decode.proofs.Fields.{by_short, by_zero, by_other, whole_on}
use Rattle.decode.proofs.value.read_head.Goals as goal

pub returns-in_err-control_bit : goal.returns-in_err-control_bit
unfolding then_found Then head_then SoundHead read_value
returns-in_err-control_bit c = let p = err_from_is_err_and c.from_residual.result c.from_residual.ensures.1 in rw (p.1, p.2) (λ v f. by_short _ _ _ _ _ _ c.in_err-control_bit.ensures, tt)

pub returns-then-control_bit-eq0 : goal.returns-then-control_bit-eq0
unfolding then_found Then head_then SoundHead read_value
returns-then-control_bit-eq0 c = (
  λ v f. by_zero _ _ _ _ _ _ _ c.in_ok-control_bit.ensures (omega arith),
  whole_on _ _ _ _ c.in_ok-control_bit.ensures,
)

pub read_xor-requires : goal.read_xor-requires
read_xor-requires c = record { trail_bound = search rules }

pub returns : goal.returns
unfolding read_value
returns c = (
  λ v f. c.read_xor.ensures.0 v f ∙ by_other _ _ _ _ _ _ _ c.in_ok-control_bit.ensures (omega arith),
  rw (whole_on _ _ _ _ c.in_ok-control_bit.ensures) at c.read_xor.ensures.1,
)
