use Rattle.encode.proofs.Points.{first_far, first_coded}
use native.Mathlib.Omega.{arith}
use borrow.Author.Rules.{rules}
use Rattle.encode.specs.Parts.{Meets}
use Rattle.encode.proofs.last.first_code.Goals as goal

pub returns-then-delta-gt16383 : goal.returns-then-delta-gt16383
unfolding Meets
returns-then-delta-gt16383 c = first_far _ _ c.requires (omega arith)

pub returns : goal.returns
unfolding Meets
returns c = first_coded _ _ c.requires (search rules) (omega arith)
