use mathlib.Core.Path.{sym, ◌∙◌}
use borrow.Author.Tests.{le-leb, lt-leb}
use Rattle.layout.proofs.Tests.{and_true, and_false}
use Rattle.encode.proofs.Values.{by_zeros}
use Rattle.encode.proofs.code.covers.Goals as goal

pub returns-then-window-tight : goal.returns-then-window-tight
returns-then-window-tight c = sym (and_true _ _ (le-leb _ _ c.if-window-tight.true)) ∙ by_zeros _ _ _ c.tight_of-tight.ensures

pub returns-else-window-tight : goal.returns-else-window-tight
returns-else-window-tight c = let f = lt-leb _ _ c.if-window-tight.false in f ∙ sym (and_false _ _ f) ∙ by_zeros _ _ _ c.tight_of-tight.ensures
