use Rattle.encode.proofs.Points.{ok_is, err_is, machine_in, dod_out, later_out, later_coded}
use mathlib.Core.Path.{sym, ◌∙◌}
use Rattle.std.proofs.lemmas.Result.{err_from_is_err_and}
use Rattle.encode.specs.Parts.{Meets}
use Rattle.encode.proofs.last.later_code.Goals as goal

pub time_code-time-requires : goal.time_code-time-requires
time_code-time-requires c = machine_in _ _ _ (ok_is _ _ _ (sym c.ok_or.ensures.value ∙ c.in_ok-dod.was) ∙ c.dod_between.ensures)

pub returns-in_err-dod : goal.returns-in_err-dod
unfolding Meets
returns-in_err-dod c =
    let p = err_from_is_err_and c.from_residual.result c.from_residual.ensures.1 in
    let r = err_is _ _ _ (sym c.ok_or.ensures.value ∙ c.in_err-dod.was) in
    rw (p.1, p.2, r.1) (later_out _ _ c.requires (dod_out _ _ (sym r.0 ∙ c.dod_between.ensures)))

pub returns : goal.returns
unfolding Meets
returns c =
    later_coded _ _ _ _ _ c.requires (ok_is _ _ _ (sym c.ok_or.ensures.value ∙ c.in_ok-dod.was) ∙ c.dod_between.ensures) c.time_code-time.ensures.2 c.value_code.ensures
