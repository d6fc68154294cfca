use mathlib.Core.Path.{◌≡◌, sym}
use native.Mathlib.Omega.{arith}
use Rattle.encode.specs.States.{view}
use Rattle.encode.proofs.CallLaws.{stands_as}
use Rattle.encode.proofs.Packs.{none_before, accepted, stopped, pairs_out}
use Rattle.encode.proofs.Runs.{moved_stands, within_bits, none_wait, two_wait, at_last}
use Rattle.encode.proofs.pack.pack_points.Goals as goal

pub none-waiting-requires : goal.none-waiting-requires
none-waiting-requires c = let t = stands_as 6 _ _ c.requires in (t.small, t.room)

pub loop-i-init : goal.loop-i-init
loop-i-init c =
    let w = c.none-waiting.ensures in
    rw w.0 (record { stands = c.requires; told = none_wait (view c.args.encoder) _ _ _ 0 _ _ _ w.1 w.2 (none_before _) })

pub loop-i-preserved-then-takes : goal.loop-i-preserved-then-takes
loop-i-preserved-then-takes c =
    let loop = c.loop-i in
    let w = c.with-waiting.ensures in
    let t = c.takes.ensures c.if-takes.true in
    let within = within_bits _ _ loop.buf loop.invariant.stands loop.auto.buf in
    record {
      stands = rw w.0 loop.invariant.stands;
      told = rw (w.0, w.1, w.2) (two_wait c.args.times.now c.args.values.now loop.i _ (view loop.waiting.encoder) _ _ _ _ loop.invariant.told t.1 loop.invariant.stands within (omega (arith, t.0, loop.waiting.room.1)) (omega (arith, c.points_in-n.ensures)));
    }

pub returns-in-Err : goal.returns-in-Err
returns-in-Err c =
    let loop = c.loop-i in
    stopped c.args.times.now c.args.values.now loop.i _ _ _ _ _ _ _ _ c.offer-r.ensures.0 loop.invariant.told _ c.in-Err.is (omega (arith, c.points_in-n.ensures)) loop.auto.buf

pub none-waiting-requires-in-Ok : goal.none-waiting-requires-in-Ok
none-waiting-requires-in-Ok c = let t = stands_as 6 _ _ c.offer-r.ensures.1 in (t.small, t.room)

pub loop-i-preserved : goal.loop-i-preserved
loop-i-preserved c =
    let loop = c.loop-i in
    let o = c.offer-r in
    let w = c.none-waiting-in-Ok.ensures in
    rw w.0
    (record {
      stands = moved_stands _ _ _ o.ensures.1 (sym loop.auto.buf);
      told = none_wait (view o.result.encoder) _ _ _ _ _ _ _ w.1 w.2 (accepted c.args.times.now c.args.values.now loop.i _ _ _ _ _ _ _ _ o.ensures.0 loop.invariant.told c.in-Ok.is (omega (arith, c.points_in-n.ensures)) loop.auto.buf);
    })

pub returns : goal.returns
returns c =
    let loop = c.loop-i in
    let all : c.points_in-n.result ≡ loop.i = omega arith in
    at_last _ _ _ _ _ _ _ (rw all at c.packed_all.ensures) loop.invariant.told (pairs_out c.args.times.now c.args.values.now loop.i (omega (arith, c.points_in-n.ensures)))
