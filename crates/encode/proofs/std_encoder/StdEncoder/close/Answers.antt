use mathlib.Core.Path.{◌∙◌}
use Rattle.encode.specs.Calls.{in_use}
use Rattle.encode.proofs.CallLaws.{is_refused, told_refused, close_refused}
use Rattle.encode.proofs.std_encoder.StdEncoder.close.Goals as goal

pub returns-in-Err : goal.returns-in-Err
returns-in-Err c = told_refused in_use _ _ _ _ _ c.refuse.ensures ∙ close_refused 6 _ _ _ c.in-Err.why (is_refused _ _ _ c.standing_of.ensures c.in-Err.is)
