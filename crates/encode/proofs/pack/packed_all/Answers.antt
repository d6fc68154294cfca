use Rattle.encode.proofs.Runs.{caught}
use Rattle.encode.proofs.pack.packed_all.Goals as goal

pub returns : goal.returns
returns c = let k = c.catch_up-encoder.ensures in caught _ _ _ _ _ k.0 k.1
