use Rattle.tsz.proofs.FileLaws.{said_is}
use Rattle.tsz.proofs.said.Said.at.Goals as goal

pub returns : goal.returns
returns c = said_is _ _ _ _ c.from.ensures
