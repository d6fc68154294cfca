use Rattle.std.proofs.Common.{◌∙◌}
use Rattle.std.proofs.lemmas.Result.{err_from_is_err_and}
use Rattle.layout.specs.Reading.{read_later}
use Rattle.decode.specs.Parts.{then_found, Then, dod_then, FieldOf, step_of, CarriedOn}
use Rattle.decode.proofs.Fields.{at_place}
use Rattle.decode.proofs.found.read_later.Goals as goal

pub returns-in_err-dod : goal.returns-in_err-dod
unfolding then_found Then read_later
returns-in_err-dod c = let p = err_from_is_err_and c.from_residual.result c.from_residual.ensures.1 in rw (p.1, p.2) (c.in_err-dod.ensures.0 _ ∙ at_place c.refilled.result _ _ c.refilled.ensures _, tt)

pub returns-in-End : goal.returns-in-End
unfolding then_found Then dod_then step_of CarriedOn read_later
returns-in-End c = let k = rw c.in-End.is at c.in_ok-dod.ensures in (k.0 _ ∙ at_place c.refilled.result _ _ c.refilled.ensures _, tt)

pub returns-in-Got : goal.returns-in-Got
unfolding then_found Then dod_then FieldOf read_later
returns-in-Got c =
    let k = rw c.in-Got.is at c.in_ok-dod.ensures in
    (c.read_later_time.ensures.0 ∙ k.0 _ ∙ at_place c.refilled.result _ _ c.refilled.ensures _, rw (k.1, c.refilled.ensures.1) at c.read_later_time.ensures.1)
