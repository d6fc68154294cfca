use native.Mathlib.Omega.{arith}
use Rattle.stream.proofs.Bytes.{length_bits}
use Rattle.encode.proofs.CallLaws.{put_both}
use Rattle.encode.proofs.put.put_point.Goals as goal

pub returns : goal.returns
returns c =
    let h = c.put-behind.ensures in
    let d = c.put.ensures in
    (omega (arith, h.0, d.0), put_both _ _ _ _ _ c.args.k (rw length_bits (omega arith)) h.0 h.1 d.1)
