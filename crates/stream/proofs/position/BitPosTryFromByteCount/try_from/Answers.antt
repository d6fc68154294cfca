use mathlib.Core.Path.{sym}
use native.Mathlib.Omega.{arith}
use Rattle.stream.proofs.Outcomes.{place_beyond, place_there}
use Rattle.stream.proofs.position.BitPosTryFromByteCount.try_from.Goals as goal

pub returns-then-n-gt-LIMIT : goal.returns-then-n-gt-LIMIT
returns-then-n-gt-LIMIT c = sym (place_beyond _ (omega arith))

pub returns : goal.returns
returns c = sym (place_there _ (omega arith))
