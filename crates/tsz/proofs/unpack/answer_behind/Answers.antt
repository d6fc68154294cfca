use Rattle.tsz.proofs.FileLaws.{behind_stop, behind_full}
use Rattle.tsz.proofs.unpack.answer_behind.Goals as goal

pub returns-in-Some : goal.returns-in-Some
returns-in-Some c k q = behind_stop _ _ _ _ k q _ c.in-Some.is

pub returns-in-None : goal.returns-in-None
returns-in-None c k q = behind_full _ _ _ _ k q _ (c.one_more.ensures k q) c.in-None.is
