use Rattle.std.proofs.lemmas.Result.{err_from_is_err_and}
use Rattle.std.proofs.Common.{◌∙◌}
use Rattle.decode.specs.Parts.{then_found, step_of}
use Rattle.decode.proofs.Fields.{by_short, by_whole, done_point}
use Rattle.decode.proofs.found.read_first_value.Goals as goal

pub returns-in_err-value : goal.returns-in_err-value
unfolding then_found
returns-in_err-value c = let p = err_from_is_err_and c.from_residual.result c.from_residual.ensures.1 in rw (p.1, p.2) (by_short _ _ _ _ _ _ c.in_err-value.ensures)

pub returns : goal.returns
unfolding then_found step_of
returns c = done_point _ _ _ ∙ by_whole _ _ _ _ _ _ c.in_ok-value.ensures
