use Rattle.std.proofs.Common.{length, ◌-◌}
use Rattle.unpack.proofs.read_input.Given as goal

abbrev pub decreases-loop-n : goal.decreases-loop-n
decreases-loop-n g l = length l.initial.buf - l.n
