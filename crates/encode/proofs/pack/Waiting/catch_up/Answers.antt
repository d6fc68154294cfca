use native.Mathlib.Omega.{arith}
use Rattle.encode.specs.Parts.{word_of, ahead, zeroed}
use Rattle.encode.proofs.CallLaws.{stands_as}
use Rattle.encode.proofs.pack.Waiting.catch_up.Goals as goal

pub put-encoder-requires : goal.put-encoder-requires
put-encoder-requires c = let t = stands_as 6 _ _ c.requires in record { buf_len_bound = omega (arith, t.same, t.small); len_bound = omega arith; len_bound_2 = omega (arith, t.same) }

pub returns : goal.returns
unfolding ahead zeroed word_of
returns c =
    let p = c.put-encoder.ensures in
    (rw p.0, p.1)
