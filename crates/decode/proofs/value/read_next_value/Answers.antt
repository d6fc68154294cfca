use Rattle.std.proofs.Common.{◌∙◌, rules}
use Rattle.std.proofs.lemmas.Result.{err_from_is_err_and}
use Rattle.decode.specs.Parts.{then_found, Then, head_then, SoundHead}
use Rattle.decode.proofs.value.read_next_value.Goals as goal

pub read_digits-requires : goal.read_digits-requires
unfolding Then SoundHead
read_digits-requires c = let k = rw c.in-Digits.is at c.in_ok-head.ensures.1 in record { trail_bound = k.0 }

pub returns-in_err-head : goal.returns-in_err-head
unfolding then_found Then
returns-in_err-head c = let p = err_from_is_err_and c.from_residual.result c.from_residual.ensures.1 in rw (p.1, p.2) (λ f. c.in_err-head.ensures.0 _ f, tt)

pub returns-in-Same : goal.returns-in-Same
unfolding then_found Then head_then SoundHead
returns-in-Same c = let k = rw c.in-Same.is at c.in_ok-head.ensures in (λ f. k.0 _ f, (k.1, search rules))

pub returns-in-Digits : goal.returns-in-Digits
unfolding then_found Then head_then SoundHead
returns-in-Digits c = let k = rw c.in-Digits.is at c.in_ok-head.ensures in (λ f. c.read_digits.ensures.0 f ∙ k.0 _ f, rw k.1.1 at c.read_digits.ensures.1)
