use mathlib.Core.Path.{ap, ◌∙◌}
use native.Mathlib.Omega.{arith}
use Rattle.stream.specs.declared.position.BitPos.{BitPos}
use Rattle.encode.specs.Calls.{marked}
use Rattle.encode.proofs.CallLaws.{stands_as, length_marker, closes}
use Rattle.encode.proofs.std_encoder.finish.Goals as goal

pub put-behind-requires : goal.put-behind-requires
put-behind-requires c =
    let t = stands_as 6 _ _ c.requires in
    let m = c.end_marker.ensures in record { buf_len_bound = omega (arith, t.same, t.small); len_bound = omega (arith, m.1, length_marker); len_bound_2 = omega (arith, m.1, length_marker, t.same, t.room) }

pub returns : goal.returns
unfolding marked
returns c =
    let m = c.end_marker.ensures in
    let p = c.put-behind.ensures in
    closes _ _ _ _ _ _ _ c.requires m.0 m.1 (ap (λ (q : BitPos). q.0) c.position-end.ensures ∙ p.0) c.from.ensures p.1
