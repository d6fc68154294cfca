use Rattle.std.proofs.lemmas.Result.{err_from_is_err_and}
use Rattle.std.proofs.Common.{◌∙◌, arith}
use Rattle.decode.specs.Parts.{then_found, Then, dod_then, FieldOf}
use Rattle.decode.proofs.Fields.{by_short, by_zero, by_other, whole_lt, done_end, whole_on}
use Rattle.decode.proofs.Dods.{row_width, last_row}
use Rattle.decode.proofs.timestamp.last_field.Goals as goal

pub get-requires : goal.get-requires
get-requires c = record { le_n = omega (arith, row_width 3 _ c.row_at-last.ensures) }

pub returns-then-raw-eq0 : goal.returns-then-raw-eq0
unfolding then_found Then dod_then FieldOf
returns-then-raw-eq0 c = (λ f. done_end _ _ ∙ by_zero _ _ _ _ _ _ _ c.in_ok-raw.ensures (omega arith) ∙ last_row _ c.row_at-last.ensures f _ _, tt)

pub returns-in_err-raw : goal.returns-in_err-raw
unfolding then_found Then dod_then FieldOf
returns-in_err-raw c = let p = err_from_is_err_and c.from_residual.result c.from_residual.ensures.1 in rw (p.1, p.2) (λ f. by_short _ _ _ _ _ _ c.in_err-raw.ensures ∙ last_row _ c.row_at-last.ensures f _ _, tt)

pub returns : goal.returns
unfolding then_found Then dod_then FieldOf
returns c = (
  λ f. by_other _ _ _ _ _ _ _ c.in_ok-raw.ensures (omega arith) ∙ last_row _ c.row_at-last.ensures f _ _,
  whole_on _ _ _ _ c.in_ok-raw.ensures,
)

pub invariant_of-result : goal.invariant_of-result
invariant_of-result c =
    let w = row_width 3 _ c.row_at-last.ensures in
    record { some = w.0; narrow = w.1; inside = whole_lt _ _ _ _ c.in_ok-raw.ensures }
