use borrow.Author.Rules.{rules}
use native.Mathlib.Omega.{arith}
use Rattle.stream.proofs.Bytes.{length_bits}
use Rattle.stream.proofs.Placing.{none_put, more_put, all_put}
use Rattle.stream.proofs.put.put_field.Goals as goal

pub loop-left-init : goal.loop-left-init
loop-left-init c = (search rules, omega arith, search rules, none_put _ _ _ _ (omega arith))

pub loop-left-preserved : goal.loop-left-preserved
loop-left-preserved c =
    let loop = c.loop-left in (
      search rules,
      omega arith,
      omega arith,
      more_put _ _ _ _ _ _ _ _ _ (rw length_bits (omega arith)) (omega arith) (omega arith) loop.invariant.1 loop.invariant.3 c.put_some-c.ensures.1,
    )

pub returns : goal.returns
returns c = all_put _ _ _ _ _ _ (omega arith) c.loop-left.invariant.3
