use mathlib.Core.Path.{sym, ◌∙◌}
use mir.Val.{SFits}
use mir.Syntax.{w64}
use borrow.Author.Rules.{rules}
use Rattle.layout.specs.Rows.{within}
use Rattle.layout.proofs.Tests.{and_true, and_false, le_is}
use Rattle.layout.proofs.Row.takes.Goals as goal

pub returns-then-self-d : goal.returns-then-self-d
unfolding within
returns-then-self-d c =
    let a = c.args in
    let lo : SFits w64 a.self.lowest = search rules in
    let hi : SFits w64 a.self.highest = search rules in
    let d : SFits w64 a.d = search rules in
    le_is _ _ d hi ∙ sym (and_true _ _ (sym (le_is _ _ lo d) ∙ c.if-self-d.true))

pub returns-else-self-d : goal.returns-else-self-d
unfolding within
returns-else-self-d c =
    let a = c.args in
    let lo : SFits w64 a.self.lowest = search rules in
    let d : SFits w64 a.d = search rules in
    c.if-self-d.false ∙ sym (and_false _ _ (sym (le_is _ _ lo d) ∙ c.if-self-d.false))
