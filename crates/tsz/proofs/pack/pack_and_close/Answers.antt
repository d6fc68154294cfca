use native.Mathlib.Omega.{arith}
use Rattle.tsz.proofs.FileLaws.{closes, fault_is}
use Rattle.tsz.proofs.pack.pack_and_close.Goals as goal

pub returns : goal.returns
returns c = closes _ _ _ _ _ _ _ _ _ _ _ _ c.pack_some-packed.ensures c.close-closed.ensures (fault_is _) c.said_closed.ensures (omega arith)
