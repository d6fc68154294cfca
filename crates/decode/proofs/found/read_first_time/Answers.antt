use Rattle.std.proofs.lemmas.Result.{err_from_is_err_and}
use Rattle.std.proofs.Common.{pos, refl, ◌∙◌, arith}
use Rattle.layout.specs.Reading.{first_time}
use Rattle.decode.specs.Parts.{then_found, step_of}
use Rattle.decode.proofs.Times.{time_passes, time_got}
use Rattle.decode.proofs.Fields.{by_short, by_whole}
use Rattle.decode.proofs.found.read_first_time.Goals as goal

pub returns-in_err-delta : goal.returns-in_err-delta
unfolding then_found step_of first_time
returns-in_err-delta c = let p = err_from_is_err_and c.from_residual.result c.from_residual.ensures.1 in rw (p.1, p.2) (by_short _ _ _ _ _ _ c.in_err-delta.ensures)

pub returns-then-start-delta : goal.returns-then-start-delta
unfolding then_found step_of first_time
returns-then-start-delta c = time_passes _ _ _ _ (pos _) _ refl (omega arith) ∙ by_whole _ _ _ _ _ _ c.in_ok-delta.ensures

pub returns : goal.returns
unfolding first_time
returns c = c.read_first_value.ensures ∙ time_got _ _ _ _ (pos _) _ refl (omega arith) ∙ by_whole _ _ _ _ _ _ c.in_ok-delta.ensures
