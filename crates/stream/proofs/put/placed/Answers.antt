use Rattle.stream.proofs.Placing.{placed_byte, placed_bits}
use Rattle.stream.proofs.put.placed.Goals as goal

pub overflow_cast-result : goal.overflow_cast-result
overflow_cast-result c = rw c.from.ensures (record { fits = placed_byte _ _ _ _ c.ranges.old.fits c.requires.c_bound c.requires.chunk_bound })

pub returns : goal.returns
returns c = rw c.from.ensures (placed_bits _ _ _ _ c.ranges.old.fits c.requires.c_bound c.requires.chunk_bound)
