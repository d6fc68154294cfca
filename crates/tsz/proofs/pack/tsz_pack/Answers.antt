use Rattle.tsz.proofs.FileLaws.{passed_on}
use Rattle.tsz.proofs.pack.tsz_pack.Goals as goal

pub returns : goal.returns
returns c = passed_on _ _ _ _ c.say.ensures c.pack-s.ensures
