use mathlib.Core.Path.{ap, ◌∙◌}
use native.Mathlib.Omega.{arith}
use Rattle.encode.specs.Calls.{Outcome, no_values}
use Rattle.encode.proofs.CallLaws.{is_refused, told_refused}
use Rattle.encode.proofs.Runs.{no_points, none_offered}
use Rattle.encode.proofs.pack.pack_some.Goals as goal

pub returns-then-points_in-eq0 : goal.returns-then-points_in-eq0
returns-then-points_in-eq0 c = no_points _ _ _ _ _ (omega (arith, c.points_in.ensures, c.if-points_in-eq0.true))

pub returns-in-Err : goal.returns-in-Err
returns-in-Err c =
    ap (λ (o : Outcome). (0, o)) (told_refused no_values _ _ _ _ _ c.refuse.ensures)
    ∙ none_offered _ _ _ _ _ c.in-Err.why (is_refused _ _ _ c.standing_of.ensures c.in-Err.is) (omega arith)
