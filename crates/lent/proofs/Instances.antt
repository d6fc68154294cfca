-- The reader at a few points, by computing: where a wrong definition has to fail.
use mathlib.Core.Path.{◌≡◌, refl}
use mathlib.Core.List.{[], ◌∷◌}
use Prim.Native.Nat.{ℕ}
use Rattle.stream.specs.Bits.{odd, bits_of, digit, value_of, bits, field}
use Rattle.stream.specs.Refusals.{when, or_else, by_fault}
use Rattle.stream.specs.Calls.{given, refused, field_fault, read_of}
use Rattle.lent.specs.declared.held_reader.HeldReader.{HeldReader}
use Rattle.lent.specs.Calls.{Reading, held_of}

-- the byte A5, wherever it lies
module _ (place : ℕ × ℕ) where
  abbrev held : ℕ → HeldReader
  held at = record { bytes = record { ref_ptr = place; now = 165 ∷ [] }; at = record { 0 = at } }

  -- its last four bits, and past them
  moves_at : ◌≡◌ {A = Reading} (held_of (held 4) 4) (given (5 ∷ []), 8, (held 4).bytes)
  unfolding read_of by_fault field_fault when or_else value_of digit bits bits_of odd field
  moves_at = refl

  stays_at : ◌≡◌ {A = Reading} (held_of (held 4) 5) (refused 7, 4, (held 4).bytes)
  unfolding read_of by_fault field_fault when or_else
  stays_at = refl

  beyond_at : ◌≡◌ {A = Reading} (held_of (held 9) 1) (refused 13, 9, (held 9).bytes)
  unfolding read_of by_fault field_fault when or_else
  beyond_at = refl
