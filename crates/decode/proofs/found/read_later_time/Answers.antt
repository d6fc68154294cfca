use Rattle.std.proofs.Common.{◌∙◌}
use Rattle.std.proofs.lemmas.Result.{err_from_is_err_and}
use Rattle.layout.specs.Reading.{after_dod}
use Rattle.decode.specs.Parts.{then_found, Then}
use Rattle.decode.proofs.found.read_later_time.Goals as goal

pub returns-in_err-time : goal.returns-in_err-time
unfolding then_found after_dod Then
returns-in_err-time c = let p = err_from_is_err_and c.from_residual.result c.from_residual.ensures.1 in rw (p.1, p.2) (c.in_err-time.ensures _ _ _, tt)

pub returns : goal.returns
unfolding then_found after_dod
returns c = (c.read_later_value.ensures.0 ∙ c.in_ok-time.ensures _ _ _, c.read_later_value.ensures.1)
