use native.Mathlib.Omega.{arith}
use Rattle.encode.proofs.CallLaws.{stands_as, no_room, written}
use Rattle.encode.proofs.Points.{rises}
use Rattle.encode.proofs.Standing.{told_stands}
use Rattle.encode.proofs.std_encoder.write_point.Goals as goal

pub overflow_sub-kept : goal.overflow_sub-kept
overflow_sub-kept c = rises _ _ _ c.requires.coded.0

pub overflow_mul-all : goal.overflow_mul-all
overflow_mul-all c = let t = stands_as 6 _ _ c.requires.value in omega (arith, t.small)

pub overflow_add-end : goal.overflow_add-end
overflow_add-end c =
    let t = stands_as 6 _ _ c.requires.value in
    let h = c.requires.coded.1 in
    omega (arith, t.small, t.room, h.head.0, h.digits.0)

pub overflow_add-with_marker : goal.overflow_add-with_marker
overflow_add-with_marker c =
    let t = stands_as 6 _ _ c.requires.value in
    let h = c.requires.coded.1 in
    omega (arith, t.small, t.room, h.head.0, h.digits.0)

pub returns-then-all-with_marker : goal.returns-then-all-with_marker
returns-then-all-with_marker c =
    told_stands _ _ c.requires.value _ _ _ (no_room _ _ _ _ c.args.k c.requires.value c.requires.coded _ _ c.refuse.ensures (omega arith)) (omega arith) (omega arith)

pub put_point-behind-requires : goal.put_point-behind-requires
put_point-behind-requires c =
    let t = stands_as 6 _ _ c.requires.value in
    let h = c.requires.coded.1 in record { buf_len_bound = omega (arith, t.same, t.small); len_bound = (omega (arith, h.head.0), h.digits.0); len_bound_2 = omega (arith, t.same) }

pub returns : goal.returns
returns c =
    let p = c.put_point-behind.ensures in
    told_stands _ _ c.requires.value _ _ _ (written _ _ _ _ c.args.k c.requires.value c.requires.coded _ _ p.0 (omega arith) p.1) (omega arith) (omega arith)
