use Rattle.encode.specs.States.{view}
use Rattle.encode.specs.Calls.{no_values}
use Rattle.encode.proofs.CallLaws.{told_refused, refused_time}
use Rattle.encode.proofs.Points.{last_meets}
use Rattle.encode.proofs.Standing.{refused_stands}
use Rattle.encode.specs.Parts.{Meets}
use mathlib.Core.Path.{◌∙◌}
use Rattle.encode.proofs.std_encoder.offer.Goals as goal

pub write_point-requires-clause-coded : goal.write_point-requires-clause-coded
unfolding Meets
write_point-requires-clause-coded c = last_meets (view c.args.e) _ c.last.ensures _ _ _ c.code_after.ensures c.in-Ok.is

pub returns-in-Err : goal.returns-in-Err
unfolding Meets
returns-in-Err c = (
  told_refused no_values _ _ _ _ _ c.refuse.ensures
      ∙ refused_time 6 _ _ _ _ c.in-Err.why c.requires (last_meets (view c.args.e) _ c.last.ensures _ _ _ c.code_after.ensures c.in-Err.is),
  refused_stands _ _ c.requires _ c.refuse.ensures.1,
)
