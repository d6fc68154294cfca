use Rattle.std.proofs.Common.{◌∙◌, arith}
use Rattle.decode.proofs.Fields.{known_room, got_known, place_fits, known_inside}
use Rattle.decode.proofs.field.Peeked.get_digits.Goals as goal

pub further-requires : goal.further-requires
further-requires c = place_fits _ _ _ (known_inside _ _ _ _ c.peek-p.result.known) c.peek-p.result.short (omega arith)

pub bare-rest-requires : goal.bare-rest-requires
bare-rest-requires c = record { short = c.peek-p.result.short; inside = rw c.further.ensures (known_room _ _ _ _ _ c.peek-p.result.known (omega arith)) }

pub returns : goal.returns
returns c =
    let p = c.peek-p.ensures in
    let b = c.bare-rest.ensures in
    got_known _ _ _ _ _ _ (rw (p.0, p.1) at c.peek-p.result.known) (omega arith) (rw p.0 at (b.0 ∙ c.further.ensures)) (b.1 ∙ p.1)
