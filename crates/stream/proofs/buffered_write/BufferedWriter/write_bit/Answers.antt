use Rattle.stream.proofs.buffered_write.BufferedWriter.write_bit.Goals as goal

pub returns : goal.returns
returns c = rw c.to_u64.ensures at c.write_bits.ensures
