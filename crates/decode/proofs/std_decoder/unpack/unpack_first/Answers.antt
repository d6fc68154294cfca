use Rattle.std.proofs.Common.{◌∙◌, arith, length-set, rules}
use Rattle.stream.proofs.Bytes.{length_bits}
use Rattle.decode.proofs.CallLaws.{fit_gives}
use Rattle.decode.proofs.Unpacks.{from_first, told_as, put_in, at_end, at_refusal}
use Rattle.decode.proofs.Firsts.{first_answers, first_stands}
use Rattle.decode.proofs.std_decoder.unpack.unpack_first.Goals as goal

pub bare-requires : goal.bare-requires
bare-requires c = let k = fit_gives 6 _ _ c.requires.buf_value in record { short = k.0; inside = rw length_bits k.2 }

pub unpack_later-requires : goal.unpack_later-requires
unpack_later-requires c =
    let p = c.put_first.ensures in
    let k = first_stands _ _ _ c.requires.buf_value c.requires.d_value.0 c.requires.d_value.1 _ (rw (c.bare.ensures.0, c.bare.ensures.1) at c.read_start-found.ensures) _ _ _ _ (told_as _ _ _ _ c.take-next.ensures c.in-Point.is) (length_bits _) in record { from_le_n = (search rules, rw (p.0, length-set) c.requires.n_nonzero.1, rw (p.1, length-set) c.requires.n_nonzero.2); buf_value = k.0; d_value = (k.1, k.2) }

pub returns-in-End : goal.returns-in-End
returns-in-End c = at_end 0 _ _ _ _ _ _ _ _ _ (first_answers _ _ _ c.requires.buf_value c.requires.d_value.0 c.requires.d_value.1 _ (rw (c.bare.ensures.0, c.bare.ensures.1) at c.read_start-found.ensures) _ c.take-next.ensures) (from_first _ _ _ _ _ _) _ c.in-End.is c.requires.n_nonzero.0

pub returns-in-Refused : goal.returns-in-Refused
returns-in-Refused c = at_refusal 0 _ _ _ _ _ _ _ _ _ (first_answers _ _ _ c.requires.buf_value c.requires.d_value.0 c.requires.d_value.1 _ (rw (c.bare.ensures.0, c.bare.ensures.1) at c.read_start-found.ensures) _ c.take-next.ensures) (from_first _ _ _ _ _ _) _ c.in-Refused.is c.requires.n_nonzero.0

pub returns-in-Point : goal.returns-in-Point
returns-in-Point c =
    let p = c.put_first.ensures in
    c.unpack_later.ensures
    ∙ rw (p.0, p.1) (put_in 0 _ _ _ _ _ _ _ _ _ (first_answers _ _ _ c.requires.buf_value c.requires.d_value.0 c.requires.d_value.1 _ (rw (c.bare.ensures.0, c.bare.ensures.1) at c.read_start-found.ensures) _ c.take-next.ensures) (from_first _ _ _ _ _ _) _ _ c.in-Point.is c.requires.n_nonzero.0 (omega arith) (omega arith))
