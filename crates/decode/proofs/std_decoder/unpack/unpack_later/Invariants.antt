use Rattle.std.proofs.Common.{◌≡◌, ◌+◌, ◌-◌, ◌<◌, ◌≤◌, false, length}
use Rattle.stream.specs.Bits.{bits}
use Rattle.stream.specs.Calls.{limit}
use Rattle.decode.specs.States.{still, dec}
use Rattle.decode.specs.Parts.{place}
use Rattle.decode.specs.Lists.{unpacks_of}
use Rattle.decode.specs.Filling.{filling_from}
use Rattle.decode.proofs.std_decoder.unpack.unpack_later.Given as goal

abbrev pub invariant-loop-i : goal.invariant-loop-i
invariant-loop-i l =
    (l.i ≤ l.n) × (length l.times ≡ length l.initial.times) × (length l.values ≡ length l.initial.values) × (l.k.window.lead + l.k.window.trail < 64) × (l.p.buf.now ≡ l.buf) × (l.len.0 ≡ length l.buf) × (length l.buf ≤ limit)
    × (filling_from l.i l.times l.values (unpacks_of 6 (l.n - l.i) (dec l.len.0 (place l.p) l.k false still) (length l.buf) (bits l.buf))
    ≡ filling_from l.initial.i l.initial.times l.initial.values (unpacks_of 6 (l.n - l.initial.i) (dec l.len.0 (place l.initial.p) l.initial.k false still) (length l.buf) (bits l.buf)))

abbrev pub decreases-loop-i : goal.decreases-loop-i
decreases-loop-i l = l.n - l.i
