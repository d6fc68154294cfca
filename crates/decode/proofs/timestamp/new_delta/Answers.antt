use Rattle.stream.proofs.Taking.{one_shl}
use Rattle.std.proofs.Common.{◌≡◌, ℤ, pos, ◌+ℤ◌, refl, ap, sym, arith, rules}
use Rattle.layout.specs.Rows.{signed}
use Rattle.layout.specs.Reading.{new_time}
use Rattle.decode.specs.Parts.{comes_to, then_found}
use Rattle.decode.proofs.Times.{sum_falls, sum_above, wraps_below, wraps_above, time_falls, time_passes}
use Rattle.decode.proofs.timestamp.new_delta.Goals as goal
use Rattle.decode.proofs.timestamp.new_delta.Goals.{then-half-raw+else-delta-all, else-half-raw+else-delta-raw}

pub overflow_sub-all : goal.overflow_sub-all
overflow_sub-all c = omega (arith, one_shl c.args.field.width 64 (omega arith))

pub returns-then-delta-all : goal.returns-then-delta-all
unfolding then_found
returns-then-delta-all c t q s f =
    let a = c.args.field in
    time_falls t q s f _ (sum_falls a.width a.raw a.some a.narrow a.inside c.args.delta (omega arith) (omega arith))

pub returns-then-delta-raw : goal.returns-then-delta-raw
unfolding then_found
returns-then-delta-raw c t q s f =
    let a = c.args.field in
    time_passes t q s f _ _ (sum_above a.width a.raw a.some a.narrow a.inside c.args.delta (omega arith)) (omega arith)

pub returns : goal.returns
unfolding then_found
returns c t q s f =
    -- behind both checks the wrapping sum is the true one
    let sum : pos c.args.delta +ℤ signed c.args.field.width c.args.field.raw ≡ pos _ =
    elim c.if-half-raw.branch [
      | then-half-raw+else-delta-all w ↦ wraps_below _ _ c.args.field.some c.args.field.narrow c.args.field.inside _ _ _ (search rules) c.extend-dod.ensures refl (omega arith) (omega arith)
      | else-half-raw+else-delta-raw w ↦ wraps_above _ _ c.args.field.some c.args.field.narrow c.args.field.inside _ _ _ (search rules) c.extend-dod.ensures refl (omega arith) (omega arith)
    ] in
    ap (λ (z : ℤ). comes_to (new_time t z f) q s) (sym sum)
