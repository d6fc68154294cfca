use Rattle.tsz.proofs.FileLaws.{unpacked}
use Rattle.tsz.proofs.unpack.tsz_unpack.Goals as goal

pub returns : goal.returns
returns c = unpacked _ _ _ _ _ _ _ _ _ _ _ _ _ _ _ c.open-opened.ensures c.unpack_some-unpacked.ensures c.answer_behind-answer.ensures c.position.ensures c.said_behind-s.ensures c.say.ensures
