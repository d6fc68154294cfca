use Rattle.std.proofs.Common.{rules}
use Rattle.decode.proofs.Fields.{read_inside, got_whole, got_short}
use Rattle.decode.proofs.field.Peeked.read.Goals as goal

pub bare-requires : goal.bare-requires
bare-requires c = record { short = c.args.self.short; inside = read_inside _ _ _ (search rules) c.args.self.short _ _ c.read_bits-read.ensures _ c.in-Ok.is }

pub returns-in-Err : goal.returns-in-Err
returns-in-Err c = got_short _ _ _ (search rules) (search rules) _ _ c.read_bits-read.ensures _ c.in-Err.is

pub returns-in-Ok : goal.returns-in-Ok
returns-in-Ok c = got_whole _ _ _ (search rules) (search rules) _ _ c.read_bits-read.ensures _ c.in-Ok.is _ c.bare.ensures
