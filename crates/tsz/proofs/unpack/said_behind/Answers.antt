use Rattle.tsz.specs.Files.{saying_at}
use Rattle.tsz.proofs.unpack.said_behind.Goals as goal

pub returns-in-End : goal.returns-in-End
unfolding saying_at
returns-in-End c = rw c.in-End.is c.at.ensures

pub returns-in-Refused : goal.returns-in-Refused
unfolding saying_at
returns-in-Refused c = rw c.in-Refused.is c.at-in-Refused.ensures

pub returns-in-Point : goal.returns-in-Point
unfolding saying_at
returns-in-Point c = rw c.in-Point.is c.at-in-Point.ensures
