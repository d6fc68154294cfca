use mathlib.Core.Path.{refl}
use Rattle.encode.specs.Parts.{word_of}
use Rattle.encode.proofs.Codes.{joined_fits, joined_short, joined_word}
use Rattle.encode.proofs.code.Code.with.Goals as goal

pub overflow_add-bits : goal.overflow_add-bits
overflow_add-bits c = record { fits = joined_fits _ _ _ _ c.requires.short c.requires.n_bound c.requires.low_bound }

pub returns : goal.returns
unfolding word_of
returns c = (refl, joined_short _ _ _ _ c.requires.short c.requires.n_bound c.requires.low_bound, joined_word _ _ _ _ c.requires.short c.requires.n_bound c.requires.low_bound)
