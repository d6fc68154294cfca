use mathlib.Core.Path.{◌∙◌}
use Rattle.encode.specs.Calls.{no_values}
use Rattle.encode.proofs.CallLaws.{is_refused, told_refused, refused_standing}
use Rattle.encode.proofs.std_encoder.StdEncoder.encode.Goals as goal

pub returns-in-Err : goal.returns-in-Err
returns-in-Err c = told_refused no_values _ _ _ _ _ c.refuse.ensures ∙ refused_standing 6 _ _ _ _ c.in-Err.why (is_refused _ _ _ c.standing_of.ensures c.in-Err.is)
