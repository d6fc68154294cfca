use mathlib.Core.Path.{◌≡◌}
use lib.ListN.{length, drop}
use Rattle.stream.specs.Bits.{bits}
use Rattle.encode.specs.States.{view}
use Rattle.encode.specs.Calls.{standing}
use Rattle.encode.specs.Lists.{pairs, packs_of}
use Rattle.encode.specs.Parts.{ahead, zeroed}
use Rattle.encode.proofs.Packs.{later}
use Rattle.encode.proofs.pack.pack_points.Given as goal

abbrev pub invariant-loop-i : goal.invariant-loop-i
invariant-loop-i l =
    let w = l.waiting in
    let n = length l.fn.buf in
    record {
      stands : 0 ≡ standing 6 (view w.encoder) n;
      told : later l.i (packs_of 6 (ahead w.time w.zeros (view w.encoder)) n (zeroed (bits l.buf) w.encoder.w.at.0 w.zeros) (pairs (drop l.i l.times) (drop l.i l.values)))
          ≡ packs_of 6 (view l.fn.encoder) n (bits l.fn.buf) (pairs l.times l.values);
    }
