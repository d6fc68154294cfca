use mathlib.Core.Path.{refl}
use Rattle.tsz.proofs.FileLaws.{more_stop, more_full}
use Rattle.tsz.proofs.unpack.one_more.Goals as goal

pub returns-in-Some : goal.returns-in-Some
returns-in-Some c k q = more_stop _ _ _ _ _ _ _ _ _ _ c.unpack_some-more.ensures refl refl _ c.in-Some.is k q

pub returns-in-None : goal.returns-in-None
returns-in-None c k q = more_full _ _ _ _ _ _ _ _ _ _ c.unpack_some-more.ensures refl refl _ _ _ c.in-None.is k q
