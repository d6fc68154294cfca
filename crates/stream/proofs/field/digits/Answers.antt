use native.Mathlib.Omega.{arith}
use native.Mathlib.Nat.{mod-lt}
use lib.Pow.{pow_pos}
use Rattle.stream.proofs.Numbers.{bits_of_mod}
use Rattle.stream.proofs.Taking.{one_shl}
use Rattle.stream.proofs.field.digits.Goals as goal

pub nonzero_rem-result : goal.nonzero_rem-result
nonzero_rem-result c = rw (one_shl c.args.c 64 (omega arith)) (pow_pos c.args.c)

pub returns : goal.returns
returns c = rw (one_shl c.args.c 64 (omega arith)) (mod-lt _ (pow_pos c.args.c), bits_of_mod c.args.c _)
