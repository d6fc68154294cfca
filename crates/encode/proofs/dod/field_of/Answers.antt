use native.Mathlib.Omega.{arith}
use mir.Facts.{to_z-of_z}
use Rattle.stream.proofs.Taking.{one_shl}
use Rattle.layout.proofs.Fields.{field_size, field_back}
use Rattle.encode.proofs.Signs.{field_is}
use Rattle.encode.proofs.dod.field_of.Goals as goal

pub returns : goal.returns
returns c =
    let r = c.requires in
    rw (one_shl c.args.n 64 (omega arith), c.cast_unsigned.ensures, to_z-of_z c.ranges.d)
    (field_is c.args.n c.args.d r.n_bound (field_size _ _ r.n_some r.d_value) (field_back _ _ r.n_some r.d_value).whole)
