use Rattle.std.proofs.Common.{ℕ, ◌+◌, ap, ◌∙◌, arith}
use Rattle.stream.specs.declared.position.BitPos.{BitPos}
use Rattle.decode.proofs.field.further.Goals as goal

pub overflow_add-at : goal.overflow_add-at
overflow_add-at c = record { fits = omega (arith, c.get.ensures ∙ ap (λ (p : BitPos). p.0) c.position.ensures, c.requires) }

pub returns : goal.returns
returns c = ap (λ (p : BitPos). p.0) c.at.ensures ∙ c.new.ensures ∙ ap (λ (q : ℕ). q + c.args.n) (c.get.ensures ∙ ap (λ (p : BitPos). p.0) c.position.ensures)
