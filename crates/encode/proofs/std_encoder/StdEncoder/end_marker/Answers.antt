use mathlib.Core.Path.{refl}
use Rattle.stream.specs.Bits.{odd, bits_of, digit, value_of}
use Rattle.layout.specs.Writing.{marker}
use Rattle.encode.proofs.std_encoder.StdEncoder.end_marker.Goals as goal

pub returns : goal.returns
unfolding bits_of odd value_of digit marker
returns c = (refl, refl)
