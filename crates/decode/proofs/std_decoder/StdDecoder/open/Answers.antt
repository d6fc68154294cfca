use Rattle.std.proofs.Common.{refl}
use Rattle.decode.specs.Calls.{fresh, shut}
use Rattle.decode.proofs.CallLaws.{open_not, open_there}
use Rattle.decode.proofs.std_decoder.StdDecoder.open.Goals as goal

pub returns-then-n-gt-LIMIT : goal.returns-then-n-gt-LIMIT
unfolding shut
returns-then-n-gt-LIMIT c = rw (c.new.ensures, c.new-r.ensures, open_not _ c.if-n-gt-LIMIT.true) refl

pub returns : goal.returns
unfolding fresh
returns c = rw (c.new-2.ensures, c.new-r.ensures, open_there _ c.if-n-gt-LIMIT.false) refl
