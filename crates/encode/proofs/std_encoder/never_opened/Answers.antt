use Rattle.encode.specs.Calls.{shut}
use Rattle.encode.proofs.std_encoder.never_opened.Goals as goal

pub returns : goal.returns
unfolding shut
returns c = rw (c.new.ensures, c.new-2.ensures)
