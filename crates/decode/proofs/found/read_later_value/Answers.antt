use Rattle.std.proofs.Common.{◌∙◌}
use Rattle.std.proofs.lemmas.Result.{err_from_is_err_and}
use Rattle.decode.specs.Parts.{then_found, Then, step_of, CarriedOn}
use Rattle.decode.proofs.Fields.{done_point}
use Rattle.decode.proofs.found.read_later_value.Goals as goal

pub returns-in_err-value : goal.returns-in_err-value
unfolding then_found Then
returns-in_err-value c = let p = err_from_is_err_and c.from_residual.result c.from_residual.ensures.1 in rw (p.1, p.2) (c.in_err-value.ensures.0 _, tt)

pub returns : goal.returns
unfolding then_found Then step_of CarriedOn
returns c = (done_point _ _ _ ∙ c.in_ok-value.ensures.0 _, c.in_ok-value.ensures.1)
