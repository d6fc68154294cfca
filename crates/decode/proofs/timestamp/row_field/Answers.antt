use Rattle.std.proofs.lemmas.Result.{err_from_is_err_and}
use Rattle.std.proofs.Common.{rules}
use Rattle.decode.specs.Parts.{then_found, Then, dod_then, FieldOf}
use Rattle.decode.proofs.Fields.{by_short, by_whole, whole_lt, whole_on}
use Rattle.decode.proofs.timestamp.row_field.Goals as goal

pub returns-in_err-raw : goal.returns-in_err-raw
unfolding then_found Then dod_then FieldOf
returns-in_err-raw c = let p = err_from_is_err_and c.from_residual.result c.from_residual.ensures.1 in rw (p.1, p.2) (λ f. by_short _ _ _ _ _ _ c.in_err-raw.ensures, tt)

pub returns : goal.returns
unfolding then_found Then dod_then FieldOf
returns c = (
  λ f. by_whole _ _ _ _ _ _ c.in_ok-raw.ensures,
  whole_on _ _ _ _ c.in_ok-raw.ensures,
)

pub invariant_of-result : goal.invariant_of-result
invariant_of-result c = record { some = search rules; narrow = search rules; inside = whole_lt _ _ _ _ c.in_ok-raw.ensures }
