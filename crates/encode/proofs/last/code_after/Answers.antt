use Rattle.encode.proofs.Points.{falls}
use native.Mathlib.Omega.{arith}
use Rattle.encode.specs.Parts.{Meets}
use Rattle.encode.proofs.last.code_after.Goals as goal

pub returns-then-p-k : goal.returns-then-p-k
unfolding Meets
returns-then-p-k c = falls _ _ _ (omega arith)
