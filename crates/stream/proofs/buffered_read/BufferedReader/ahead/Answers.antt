use mathlib.Core.Path.{sym, ap, ◌∙◌}
use mathlib.Core.List.{[], ◌∷◌}
use Prim.Native.Nat.{ℕ}
use native.Mathlib.Omega.{arith}
use Rattle.stream.specs.Calls.{given}
use Rattle.stream.proofs.Outcomes.{ahead_is, ahead_none}
use Rattle.stream.proofs.buffered_read.BufferedReader.ahead.Goals as goal

pub returns-then-p-buf : goal.returns-then-p-buf
returns-then-p-buf c = ap (λ (w : ℕ). given (w ∷ [])) c.word_from.ensures ∙ sym (ahead_is _ _ (omega arith))

pub returns : goal.returns
returns c = sym (ahead_none _ _ (omega arith))
