use Rattle.std.proofs.lemmas.Result.{err_from_is_err_and}
use Rattle.std.proofs.Common.{arith}
use Rattle.layout.specs.Reading.{read_marker}
use Rattle.decode.specs.Parts.{then_found, step_of}
use Rattle.decode.proofs.Steps.{marker_end, marker_wrong}
use Rattle.decode.proofs.Fields.{by_short}
use Rattle.decode.proofs.found.read_marker.Goals as goal

pub returns-in_err-marker : goal.returns-in_err-marker
unfolding then_found step_of read_marker
returns-in_err-marker c = let p = err_from_is_err_and c.from_residual.result c.from_residual.ensures.1 in rw (p.1, p.2) (by_short _ _ _ _ _ _ c.in_err-marker.ensures)

pub returns-then-marker-eq-MARKER_REST : goal.returns-then-marker-eq-MARKER_REST
unfolding then_found step_of
returns-then-marker-eq-MARKER_REST c = marker_end _ _ _ c.in_ok-marker.ensures (omega arith)

pub returns : goal.returns
unfolding then_found step_of
returns c = marker_wrong _ _ _ c.in_ok-marker.ensures (omega arith)
