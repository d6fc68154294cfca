use borrow.Author.Rules.{rules}
use native.Mathlib.Omega.{arith}
use Rattle.stream.proofs.Bytes.{length_bits}
use Rattle.stream.proofs.Taking.{none_read, has_room, more_read, all_read}
use Rattle.stream.proofs.get.get_bytes.Goals as goal

pub loop-left-init : goal.loop-left-init
loop-left-init c = (search rules, omega arith, none_read _ _ _ (omega arith))

pub more-v-requires : goal.more-v-requires
more-v-requires c = record { c_nonzero = search rules; c_bound = search rules; c_bound_2 = omega arith; v_bound = has_room _ _ _ _ _ (omega arith) c.loop-left.invariant.2 }

pub loop-left-preserved : goal.loop-left-preserved
loop-left-preserved c =
    let loop = c.loop-left in (
      search rules,
      omega arith,
      more_read _ _ _ _ _ _ _ _ (omega arith) (omega arith) loop.invariant.1 (rw length_bits (omega arith)) loop.invariant.2 c.more-v.ensures,
    )

pub returns : goal.returns
returns c = all_read _ _ _ _ _ (omega arith) c.loop-left.invariant.2
