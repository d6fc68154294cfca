use Rattle.std.proofs.lemmas.Result.{err_from_is_err_and}
use Rattle.std.proofs.Common.{refl, ◌∙◌, arith, rules}
use Rattle.decode.specs.Parts.{then_found, Then}
use Rattle.decode.proofs.Dods.{row_width, rows_first, rows_short, rows_here, rows_next, rows_last}
use Rattle.decode.proofs.Fields.{whole_on}
use Rattle.decode.proofs.timestamp.read_row.Goals as goal

pub loop-i-init : goal.loop-i-init
loop-i-init c = (search rules, rows_first c.args.p, refl)

pub returns-in_err-bit : goal.returns-in_err-bit
unfolding then_found Then
returns-in_err-bit c = let p = err_from_is_err_and c.from_residual.result c.from_residual.ensures.1 in rw (p.1, p.2) (rows_short c.args.p c.loop-i.i c.loop-i.behind c.loop-i.invariant.1 (omega arith) _ c.in_err-bit.ensures, tt)

pub row_field-requires : goal.row_field-requires
row_field-requires c = record { le_width = row_width _ _ c.row_at-row.ensures }

pub returns-then-bit-eq0 : goal.returns-then-bit-eq0
returns-then-bit-eq0 c =
    let loop = c.loop-i in (
      λ f. rows_here c.args.p loop.i loop.behind loop.invariant.1 (omega arith) _ c.in_ok-bit.ensures (omega arith) _ c.row_at-row.ensures f _ (c.row_field.ensures.0 f),
      rw (whole_on _ _ _ _ c.in_ok-bit.ensures, loop.invariant.2) at c.row_field.ensures.1,
    )

pub loop-i-preserved : goal.loop-i-preserved
loop-i-preserved c =
    let loop = c.loop-i in
    (omega arith, rows_next c.args.p loop.i loop.behind loop.invariant.1 (omega arith) _ c.in_ok-bit.ensures (omega arith), whole_on _ _ _ _ c.in_ok-bit.ensures ∙ loop.invariant.2)

pub returns : goal.returns
returns c =
    let loop = c.loop-i in
    (λ f. c.last_field.ensures.0 f ∙ rows_last c.args.p loop.i loop.behind loop.invariant.1 (omega arith) (omega arith) f, rw loop.invariant.2 at c.last_field.ensures.1)
