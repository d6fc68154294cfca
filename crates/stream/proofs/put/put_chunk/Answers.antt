use native.Mathlib.Omega.{arith}
use Rattle.stream.proofs.Placing.{chunk_put}
use Rattle.stream.proofs.put.put_chunk.Goals as goal

pub returns : goal.returns
returns c = chunk_put _ _ _ _ _ (omega arith) (omega arith) (omega arith) c.placed.ensures
