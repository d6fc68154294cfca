use Rattle.std.proofs.Common.{◌∙◌, arith}
use Rattle.stream.proofs.Bytes.{length_bits}
use Rattle.decode.specs.States.{view}
use Rattle.decode.proofs.Fields.{at_place}
use Rattle.decode.proofs.CallLaws.{fit_gives, onward_first, onward_later}
use Rattle.decode.proofs.std_decoder.look.Goals as goal

pub bare-p-requires : goal.bare-p-requires
bare-p-requires c = let k = fit_gives 6 _ _ c.requires in record { short = k.0; inside = rw length_bits k.2 }

pub returns-then-d : goal.returns-then-d
returns-then-d c = let b = c.bare-p.ensures in (rw (b.0, b.1) at c.read_start.ensures) ∙ onward_first 6 (view c.args.d) _ c.if-d.true

pub read_later-requires : goal.read_later-requires
read_later-requires c =
    let k = fit_gives 6 _ _ c.requires in record { trail_bound = omega arith }

pub returns : goal.returns
returns c =
    c.read_later.ensures.0
    ∙ at_place c.bare-p.result _ _ c.bare-p.ensures _
    ∙ onward_later 6 (view c.args.d) _ c.if-d.false
