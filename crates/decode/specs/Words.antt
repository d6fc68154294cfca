-- What is known of the bits behind a reader: the highest of a word.
use Rattle.std.specs.Prelude.{◌≡◌, ℕ, ◌+◌, ◌-◌, ◌*◌, ◌^◌, ◌≤◌, Bool, List, length}
use Rattle.std.specs.Coded.{le_prop}
use mathlib.Core.HLevel.{×₃_prop}
use native.Mathlib.Nat.{ℕ_set}
use Rattle.stream.specs.Bits.{value_of, field}

-- h of the bits at q among s are known: they are the highest of the word w, and below them are zeros
unfoldable pub Known : List Bool → ℕ → ℕ → ℕ → Type 0
Known s q h w = (h ≤ 64) × (q + h ≤ length s) × (w ≡ value_of (field s q h) * 2 ^ (64 - h))

pub Known-prop : (s : List Bool) (q h w : ℕ) → IsProp (Known s q h w)
unfolding Known
Known-prop s q h w =
    let few : IsProp (h ≤ 64) = le_prop in
    let inside : IsProp (q + h ≤ length s) = le_prop in
    let same : IsProp (w ≡ value_of (field s q h) * 2 ^ (64 - h)) = ℕ_set _ _ in
    ×₃_prop few inside same
