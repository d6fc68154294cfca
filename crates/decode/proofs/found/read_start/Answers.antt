use Rattle.std.proofs.Common.{◌∙◌}
use Rattle.decode.specs.Parts.{then_found}
use Rattle.decode.proofs.Steps.{start_short, start_whole}
use Rattle.decode.proofs.found.read_start.Goals as goal

pub returns-in_default : goal.returns-in_default
unfolding then_found
returns-in_default c = start_short 6 _ _ _ _ c.in_default.ensures

pub returns : goal.returns
returns c = c.read_first.ensures ∙ start_whole 6 _ _ _ _ c.in-Ok.ensures
