use mathlib.Core.Path.{◌∙◌}
use native.Mathlib.Omega.{arith}
use Rattle.stream.specs.declared.refusal.Refusal.TheVariants.{TooLong, NoRoom}
use Rattle.encode.specs.Calls.{no_values}
use Rattle.encode.specs.Parts.{word_of}
use Rattle.encode.proofs.CallLaws.{told_refused, open_faults, open_refused, opened}
use Rattle.encode.proofs.std_encoder.StdEncoder.open.Goals as goal

pub returns-then-n-gt-LIMIT : goal.returns-then-n-gt-LIMIT
returns-then-n-gt-LIMIT c =
    let r = c.refuse.ensures in
    told_refused no_values _ _ _ _ _ (r.0, r.1 ∙ c.never_opened.ensures) ∙ open_refused _ _ _ TooLong ((open_faults _).too_long (omega arith))

pub returns-then-n-lt13 : goal.returns-then-n-lt13
returns-then-n-lt13 c =
    let r = c.refuse-then-n-lt13.ensures in
    told_refused no_values _ _ _ _ _ (r.0, r.1 ∙ c.never_opened-then-n-lt13.ensures) ∙ open_refused _ _ _ NoRoom ((open_faults _).no_room (omega arith) (omega arith))

pub returns : goal.returns
unfolding word_of
returns c =
    let p = c.put-w.ensures in
    let zero = c.new.ensures in
    opened _ _ _ _ _ _ ((open_faults _).opens (omega arith) (omega arith)) c.new-2.ensures (omega (arith, p.0, zero)) (rw zero at p).1
