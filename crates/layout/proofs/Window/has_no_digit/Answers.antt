use mathlib.Core.Path.{refl}
use Rattle.layout.specs.Windows.{no_digit}
use Rattle.layout.proofs.Window.has_no_digit.Goals as goal

pub returns : goal.returns
unfolding no_digit
returns c = rw (c.from.ensures, c.from-2.ensures) refl
