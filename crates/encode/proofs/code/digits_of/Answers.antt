use mathlib.Core.Path.{refl}
use Rattle.encode.specs.Parts.{word_of}
use Rattle.encode.proofs.Values.{covers_digits}
use Rattle.encode.proofs.code.digits_of.Goals as goal

pub returns : goal.returns
unfolding word_of
returns c = (refl, covers_digits _ _ c.ranges.x.fits c.requires.x_value, refl)
