use Rattle.std.proofs.Common.{rules}
use Rattle.decode.proofs.Peeks.{word_known}
use Rattle.decode.proofs.Fields.{known_inside}
use Rattle.decode.proofs.field.Peeked.peek.Goals as goal

pub bare-requires : goal.bare-requires
bare-requires c = record { short = c.args.self.short; inside = known_inside _ _ _ _ c.args.self.known }

pub invariant_of-result : goal.invariant_of-result
invariant_of-result c = record { short = search rules; known = word_known _ _ _ _ c.ahead.ensures c.in-Some.is }
