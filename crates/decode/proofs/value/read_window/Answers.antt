use Rattle.std.proofs.lemmas.Result.{err_from_is_err_and}
use Rattle.std.proofs.Common.{◌∙◌, arith}
use Rattle.layout.specs.Reading.{read_window}
use Rattle.decode.specs.Parts.{then_found, Then, head_then, SoundHead}
use Rattle.decode.proofs.Fields.{by_short, by_whole, whole_lt, whole_on}
use Rattle.decode.proofs.Values.{opened_bad, opened_good, window_read_lem}
use Rattle.decode.proofs.value.read_window.Goals as goal

pub returns-in_err-zeros : goal.returns-in_err-zeros
unfolding then_found Then SoundHead read_window
returns-in_err-zeros c = let p = err_from_is_err_and c.from_residual.result c.from_residual.ensures.1 in rw (p.1, p.2) (λ v w f. by_short _ _ _ _ _ _ c.in_err-zeros.ensures, tt)

pub returns-in_err-less : goal.returns-in_err-less
unfolding then_found Then SoundHead read_window
returns-in_err-less c = let p = err_from_is_err_and c.from_residual-in_err-less.result c.from_residual-in_err-less.ensures.1 in rw (p.1, p.2) (λ v w f. by_short _ _ _ _ _ _ c.in_err-less.ensures ∙ by_whole _ _ _ _ _ _ c.in_ok-zeros.ensures, tt)

pub overflow_cast-lead : goal.overflow_cast-lead
overflow_cast-lead c = omega (arith, whole_lt _ _ _ _ c.in_ok-zeros.ensures)

pub overflow_cast-size : goal.overflow_cast-size
overflow_cast-size c = omega (arith, whole_lt _ _ _ _ c.in_ok-less.ensures)

pub overflow_add-size : goal.overflow_add-size
overflow_add-size c = omega (arith, whole_lt _ _ _ _ c.in_ok-less.ensures)

pub overflow_add-lead : goal.overflow_add-lead
overflow_add-lead c = omega (arith, whole_lt _ _ _ _ c.in_ok-zeros.ensures, whole_lt _ _ _ _ c.in_ok-less.ensures)

pub returns-then-lead-size-gt64 : goal.returns-then-lead-size-gt64
unfolding then_found Then SoundHead
returns-then-lead-size-gt64 c = (
  λ v w f. opened_bad v _ _ _ _ f (omega arith)
      ∙ window_read_lem _ _ _ _ _ c.in_ok-zeros.ensures c.in_ok-less.ensures f,
  tt,
)

pub returns : goal.returns
unfolding then_found Then head_then SoundHead
returns c = (
  λ v w f. opened_good v _ _ _ _ f (omega arith)
      ∙ window_read_lem _ _ _ _ _ c.in_ok-zeros.ensures c.in_ok-less.ensures f,
  (omega arith, whole_on _ _ _ _ c.in_ok-less.ensures ∙ whole_on _ _ _ _ c.in_ok-zeros.ensures),
)
