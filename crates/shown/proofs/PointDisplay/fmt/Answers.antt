use Rattle.std.proofs.Common.{arith}
use Rattle.std.proofs.lemmas.Grind.{common_steps}
use Rattle.shown.proofs.Zeros.{zeros_before}
use Rattle.shown.proofs.PointDisplay.fmt.Goals as goal

pub returns-clause-writes : goal.returns-clause-writes
returns-clause-writes g c = grind (arith, common_steps, zeros_before 16 c.args.self.now.0.bits)
