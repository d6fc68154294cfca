use Rattle.std.proofs.Common.{refl}
use Rattle.decode.specs.Calls.{ends}
use Rattle.decode.proofs.std_decoder.stop.Goals as goal

pub returns : goal.returns
unfolding ends
returns c = refl
