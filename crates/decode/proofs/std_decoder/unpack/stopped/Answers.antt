use Rattle.std.proofs.Common.{ap}
use Rattle.layout.specs.Answers.{Answer}
use Rattle.decode.specs.States.{tell, Dec}
use Rattle.decode.specs.Lists.{said}
use Rattle.decode.proofs.std_decoder.unpack.stopped.Goals as goal

pub returns : goal.returns
returns c = ap (λ (d : Dec). (c.args.given, said (tell c.args.answer), d)) (ap (λ (o : Answer × Dec). o.1) c.stop-next.ensures)
