use Rattle.std.proofs.Common.{◌∙◌, arith}
use Rattle.decode.proofs.CallLaws.{said_at_once, reads_on}
use Rattle.decode.proofs.Unpacks.{none_before, at_start, filled, all_full}
use Rattle.decode.proofs.std_decoder.unpack.unpack_some.Goals as goal

pub returns-then-n-eq0 : goal.returns-then-n-eq0
returns-then-n-eq0 c = filled _ _ _ _ _ _ _ (all_full _ _ _ _ _ _ _ _ (at_start _ _ _ _ _ _) (omega arith)) c.points_in-n.ensures

pub unpack_ended-requires : goal.unpack_ended-requires
unpack_ended-requires c = record { n_nonzero = (omega arith, omega (arith, c.points_in-n.ensures), omega (arith, c.points_in-n.ensures)); d_value = said_at_once _ _ _ c.at_once.ensures _ c.in-Some.is _ }

pub unpack_first-requires : goal.unpack_first-requires
unpack_first-requires c = let k = reads_on _ _ _ c.at_once.ensures c.in-None.is in record { n_nonzero = (omega arith, omega (arith, c.points_in-n.ensures), omega (arith, c.points_in-n.ensures)); buf_value = k.1; d_value = (c.if-decoder.true, k.0) }

pub returns-then-decoder : goal.returns-then-decoder
returns-then-decoder c = filled _ _ _ _ _ _ _ (c.unpack_first.ensures ∙ none_before _ _ _) c.points_in-n.ensures

pub unpack_later-requires : goal.unpack_later-requires
unpack_later-requires c = let k = reads_on _ _ _ c.at_once.ensures c.in-None.is in record { from_le_n = (omega arith, omega (arith, c.points_in-n.ensures), omega (arith, c.points_in-n.ensures)); buf_value = k.1; d_value = (c.if-decoder.false, k.0) }

pub returns-in-Some : goal.returns-in-Some
returns-in-Some c = filled _ _ _ _ _ _ _ (c.unpack_ended.ensures ∙ none_before _ _ _) c.points_in-n.ensures

pub returns-else-decoder : goal.returns-else-decoder
returns-else-decoder c = filled _ _ _ _ _ _ _ (c.unpack_later.ensures ∙ at_start _ _ _ _ _ _) c.points_in-n.ensures
