use Rattle.std.proofs.Common.{sym, ◌∙◌}
use Rattle.decode.proofs.CallLaws.{found_stepped, every_state, said_at_once, reads_on}
use Rattle.decode.proofs.std_decoder.StdDecoder.next.Goals as goal

pub look-requires : goal.look-requires
look-requires c = (reads_on _ _ _ c.at_once.ensures c.in-None.is).1

pub returns-in-Some : goal.returns-in-Some
returns-in-Some c = said_at_once _ _ _ c.at_once.ensures _ c.in-Some.is _

pub returns-in-None : goal.returns-in-None
returns-in-None c =
    let k = reads_on _ _ _ c.at_once.ensures c.in-None.is in
    c.take.ensures
    ∙ found_stepped _ _ _ c.look.ensures
    ∙ sym ((every_state 6 _ _ _).goes_on k.0 k.1)
