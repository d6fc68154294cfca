use borrow.Author.Rules.{rules}
use Rattle.stream.proofs.put.put_some.Goals as goal

pub returns : goal.returns
returns c = (search rules, rw c.digits.ensures.1 at c.put_chunk.ensures)
