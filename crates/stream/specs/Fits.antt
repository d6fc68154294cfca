-- The number of a rule that a private helper asks, here and in the crates above. No public call mentions it.
use Rattle.std.specs.Prelude.{ℕ, Ok, Err, ⊤}
use Rattle.std.specs.declared.result.Result.{Result}
use Rattle.stream.specs.Refusals.{number_of}
use Rattle.stream.specs.declared.refusal.Refusal.{Refusal}

-- the number of what is refused, 0 for nothing
abbrev pub fault_of : Result ⊤ Refusal → ℕ
fault_of (Ok done) = 0
fault_of (Err r) = number_of r
