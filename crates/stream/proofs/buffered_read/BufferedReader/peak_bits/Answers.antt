use Rattle.stream.proofs.Outcomes.{peeked}
use Rattle.stream.proofs.buffered_read.BufferedReader.peak_bits.Goals as goal

pub returns : goal.returns
returns c = peeked _ _ _ _ _ c.read_bits-f.ensures
