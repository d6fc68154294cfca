use Rattle.encode.proofs.Signs.{machine_sub, dod_taken, dod_low, dod_high}
use Rattle.encode.proofs.dod.dod_between.Goals.{else-d-geminus2147483647-via-then-d-geminus2147483647+else-d-le2147483648, else-d-geminus2147483647-via-else-d-geminus2147483647}
use Rattle.encode.proofs.dod.dod_between.Goals as goal

pub returns-then-d-le2147483648 : goal.returns-then-d-le2147483648
returns-then-d-le2147483648 c =
    dod_taken _ _ _ (machine_sub _ _ _ _ c.from.ensures c.from-2.ensures c.ranges.delta.fits c.ranges.previous.fits)
    c.if-d-geminus2147483647.true c.if-d-le2147483648.true

pub returns : goal.returns
returns c =
    let e = machine_sub _ _ _ _ c.from.ensures c.from-2.ensures c.ranges.delta.fits c.ranges.previous.fits in
    elim c.else-d-geminus2147483647.branch [
      | else-d-geminus2147483647-via-then-d-geminus2147483647+else-d-le2147483648 w ↦ dod_high _ _ _ e w.if-d-le2147483648.false
      | else-d-geminus2147483647-via-else-d-geminus2147483647 w ↦ dod_low _ _ _ e w.if-d-geminus2147483647.false
    ]
