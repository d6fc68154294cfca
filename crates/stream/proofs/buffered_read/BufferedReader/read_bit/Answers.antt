use Rattle.std.proofs.Common.{rules}
use Rattle.stream.proofs.Outcomes.{told_as, read_lt}
use Rattle.stream.proofs.buffered_read.BufferedReader.read_bit.Goals as goal

pub map-requires : goal.map-requires
map-requires c = λ v e. read_lt _ _ 1 _ _ (told_as _ _ 1 _ _ _ e c.read_bits-f.ensures)

pub returns : goal.returns
returns c = search rules
