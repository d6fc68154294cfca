use native.Mathlib.Omega.{arith}
use Rattle.encode.proofs.Runs.{caught_stands}
use Rattle.encode.proofs.pack.Waiting.offer.Goals as goal

pub offer-requires : goal.offer-requires
offer-requires c = caught_stands _ _ _ _ _ _ c.catch_up-behind.ensures.0 c.requires (omega arith) (omega arith)
