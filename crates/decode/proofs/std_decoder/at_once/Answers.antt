use Rattle.std.proofs.Common.{sym, ap, ◌∙◌}
use Rattle.decode.specs.States.{ending_of}
use Rattle.decode.specs.Parts.{AtOnce}
use Rattle.decode.proofs.CallLaws.{every_state}
use Rattle.decode.proofs.std_decoder.at_once.Goals as goal

pub returns-in-Some : goal.returns-in-Some
unfolding AtOnce
returns-in-Some c bs = sym ((every_state 6 _ _ _).repeats _ (ap ending_of c.in-Some.is))

pub returns-then-no_fit : goal.returns-then-no_fit
unfolding AtOnce
returns-then-no_fit c bs = sym ((every_state 6 _ _ _).thirteen (ap ending_of c.in-None.is) (sym c.no_fit.ensures ∙ c.if-no_fit.true))

pub returns-else-no_fit : goal.returns-else-no_fit
unfolding AtOnce
returns-else-no_fit c = (ap ending_of c.in-None.is, sym c.no_fit.ensures ∙ c.if-no_fit.false)
