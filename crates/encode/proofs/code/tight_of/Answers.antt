use mathlib.Core.Path.{refl}
use Rattle.layout.specs.Windows.{tight}
use Rattle.encode.proofs.code.tight_of.Goals as goal

pub returns : goal.returns
unfolding tight
returns c = refl
