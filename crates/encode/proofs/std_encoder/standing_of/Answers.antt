use mathlib.Core.Path.{sym, ◌∙◌}
use borrow.Author.Rules.{rules}
use Rattle.encode.proofs.CallLaws.{standing_faults}
use Rattle.encode.proofs.std_encoder.standing_of.Goals as goal

pub returns-then-e : goal.returns-then-e
returns-then-e c = sym ((standing_faults 6 _ _).closed c.if-e.true)

pub returns-then-no_fit : goal.returns-then-no_fit
returns-then-no_fit c = sym ((standing_faults 6 _ _).misfit (search rules) (sym c.no_fit.ensures ∙ c.if-no_fit.true))

pub returns : goal.returns
returns c = sym ((standing_faults 6 _ _).stands (search rules) (sym c.no_fit.ensures ∙ c.if-no_fit.false))
