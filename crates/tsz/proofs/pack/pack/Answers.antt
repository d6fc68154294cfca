use native.Mathlib.Omega.{arith}
use Rattle.tsz.proofs.FileLaws.{not_opened, opened}
use Rattle.tsz.proofs.pack.pack.Goals as goal

pub returns-in-Err : goal.returns-in-Err
returns-in-Err c = not_opened _ _ _ _ _ _ _ _ _ (rw c.in-Err.is at c.open-opened.ensures) c.at.ensures c.new.ensures

pub returns-in-Ok : goal.returns-in-Ok
returns-in-Ok c = opened _ _ _ _ _ _ _ _ _ _ (rw c.in-Ok.is at c.open-opened.ensures) c.pack_and_close.ensures (omega arith)
