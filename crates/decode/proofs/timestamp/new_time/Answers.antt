use Rattle.std.proofs.Common.{pos, refl, ◌∙◌, arith}
use Rattle.std.proofs.lemmas.Result.{err_from_is_err_and}
use Rattle.decode.specs.Parts.{then_found}
use Rattle.decode.proofs.Times.{time_passes, time_got}
use Rattle.decode.proofs.timestamp.new_time.Goals as goal

pub returns-in_err-next : goal.returns-in_err-next
unfolding then_found
returns-in_err-next c q s f = let p = err_from_is_err_and c.from_residual.result c.from_residual.ensures.1 in rw (p.1, p.2) (c.in_err-next.ensures _ q s f)

pub returns-then-time-next : goal.returns-then-time-next
unfolding then_found
returns-then-time-next c q s f = time_passes c.args.time q s f (pos _) _ refl (omega arith) ∙ c.in_ok-next.ensures _ q s f

pub returns : goal.returns
unfolding then_found
returns c q s f = time_got c.args.time q s f (pos _) _ refl (omega arith) ∙ c.in_ok-next.ensures _ q s f
