use Rattle.std.proofs.lemmas.Result.{err_from_is_err_and}
use Rattle.std.proofs.Common.{arith}
use Rattle.layout.specs.Reading.{read_digits}
use Rattle.decode.specs.Parts.{then_found, Then}
use Rattle.decode.proofs.Fields.{by_short, whole_on}
use Rattle.decode.proofs.Values.{digits_read}
use Rattle.decode.proofs.value.read_digits.Goals as goal

pub returns-in_err-x : goal.returns-in_err-x
unfolding then_found Then read_digits
returns-in_err-x c = let p = err_from_is_err_and c.from_residual.result c.from_residual.ensures.1 in rw (p.1, p.2) (λ f. by_short _ _ _ _ _ _ c.in_err-x.ensures, tt)

pub returns : goal.returns
unfolding then_found Then
returns c =
    let a = c.args in (
      λ f. digits_read _ _ a.previous a.w _ c.in_ok-x.ensures (omega arith) f,
      (whole_on _ _ _ _ c.in_ok-x.ensures, omega arith),
    )
