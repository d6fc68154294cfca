use Rattle.tsz.proofs.FileLaws.{used_said}
use Rattle.tsz.proofs.pack.said_closed.Goals as goal

pub returns : goal.returns
returns c = used_said _ _ _ _ _ _ c.unwrap_or.ensures c.new.ensures c.new-2.ensures
