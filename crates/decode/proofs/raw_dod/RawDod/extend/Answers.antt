use Rattle.std.proofs.Common.{arith, rules}
use Rattle.decode.proofs.Times.{extend_below, extend_above}
use Rattle.decode.proofs.raw_dod.RawDod.extend.Goals as goal

pub returns-then-raw-half : goal.returns-then-raw-half
returns-then-raw-half c = extend_above _ _ c.args.self.some c.args.self.narrow c.args.self.inside (omega arith)

pub returns : goal.returns
returns c = extend_below _ _ c.args.self.some c.args.self.narrow c.args.self.inside _ (search rules) (omega arith) (omega arith)
