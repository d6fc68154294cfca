use Rattle.decode.proofs.Peeks.{none_known}
use Rattle.decode.proofs.field.bare.Goals as goal

pub invariant_of-result : goal.invariant_of-result
invariant_of-result c = record { short = c.requires.short; known = none_known _ _ c.requires.inside }
