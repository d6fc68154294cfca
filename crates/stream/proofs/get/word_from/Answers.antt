use native.Mathlib.Omega.{arith}
use Rattle.stream.proofs.Bytes.{length_bits}
use Rattle.stream.proofs.Taking.{ahead_fits, ahead_sum}
use Rattle.stream.proofs.get.word_from.Goals as goal

pub overflow_add-result : goal.overflow_add-result
overflow_add-result c = record { fits = ahead_fits _ _ _ _ c.word.ensures c.byte_at.ensures (rw length_bits (omega arith)) }

pub returns : goal.returns
returns c = ahead_sum _ _ _ _ c.word.ensures c.byte_at.ensures (rw length_bits (omega arith))
