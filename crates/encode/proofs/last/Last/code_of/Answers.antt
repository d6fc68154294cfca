use Rattle.encode.proofs.Points.{meets_told}
use Rattle.encode.proofs.last.Last.code_of.Goals as goal

pub returns : goal.returns
returns c = meets_told _ _ _ c.code_after.ensures
