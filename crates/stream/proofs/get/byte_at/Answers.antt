use native.Mathlib.Omega.{arith}
use Rattle.stream.proofs.Taking.{byte_value}
use Rattle.stream.proofs.get.byte_at.Goals as goal

pub returns : goal.returns
returns c = byte_value _ _ _ c.wide.ensures.0 (omega arith) c.wide.ensures.1
