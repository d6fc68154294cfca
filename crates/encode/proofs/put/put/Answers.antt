use Rattle.encode.specs.Parts.{word_of}
use Rattle.encode.proofs.CallLaws.{wrote_there}
use Rattle.encode.proofs.put.put.Goals as goal

pub returns : goal.returns
unfolding word_of
returns c = wrote_there _ _ _ _ _ _ _ c.write_bits-done.ensures c.requires.buf_len_bound c.requires.len_bound c.requires.len_bound_2
