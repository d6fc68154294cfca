use Rattle.decode.proofs.Unpacks.{from_first, at_end, at_refusal, repeated}
use Rattle.decode.proofs.std_decoder.unpack.unpack_ended.Goals as goal

pub returns-in-End : goal.returns-in-End
returns-in-End c = at_end 0 _ _ _ _ _ _ _ _ _ c.requires.d_value (from_first _ _ _ _ _ _) _ c.in-End.is c.requires.n_nonzero.0

pub returns-in-Refused : goal.returns-in-Refused
returns-in-Refused c = at_refusal 0 _ _ _ _ _ _ _ _ _ c.requires.d_value (from_first _ _ _ _ _ _) _ c.in-Refused.is c.requires.n_nonzero.0

pub returns-in-Point : goal.returns-in-Point
returns-in-Point c = repeated _ _ _ _ _ _ _ _ _ c.requires.d_value _ _ c.in-Point.is c.requires.n_nonzero.1 c.requires.n_nonzero.2 (c.fill.ensures.after (λ y e. e)) (c.fill-in-Point.ensures.after (λ y e. e))
