use native.Mathlib.Omega.{arith}
use Rattle.stream.proofs.Bytes.{length_bits}
use Rattle.stream.proofs.Taking.{ahead_some}
use Rattle.stream.proofs.get.get_field.Goals as goal

pub returns-then-at-buf : goal.returns-then-at-buf
returns-then-at-buf c = ahead_some _ _ _ _ c.word_from.ensures (omega arith) (rw length_bits (omega arith))
