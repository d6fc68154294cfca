use native.Mathlib.Omega.{arith}
use Rattle.stream.proofs.Taking.{shl_sum, more_value}
use Rattle.stream.proofs.get.more.Goals as goal

pub overflow_add-result : goal.overflow_add-result
overflow_add-result c = record { fits = shl_sum _ _ _ (omega arith) c.requires.v_bound c.digits.ensures.0 }

pub returns : goal.returns
returns c =
    more_value _ _ _ _ _ _ c.requires.c_nonzero c.requires.c_bound c.requires.c_bound_2 c.requires.v_bound c.wide.ensures.0 c.digits.ensures.0 c.digits.ensures.1
