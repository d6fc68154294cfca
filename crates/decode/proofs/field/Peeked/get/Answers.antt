use Rattle.std.proofs.Common.{refl, arith}
use Rattle.decode.proofs.Peeks.{known_rest}
use Rattle.decode.proofs.Fields.{got_known, place_fits, known_inside}
use Rattle.decode.proofs.field.Peeked.get.Goals as goal

pub further-requires : goal.further-requires
further-requires c = place_fits _ _ _ (known_inside _ _ _ _ c.args.self.known) c.args.self.short (omega arith)

pub invariant_of-rest : goal.invariant_of-rest
invariant_of-rest c = record { short = c.args.self.short; known = rw c.further.ensures (known_rest _ _ _ _ _ c.args.self.known (omega arith)) }

pub returns : goal.returns
returns c = got_known _ _ _ _ _ _ c.args.self.known (omega arith) c.further.ensures refl
