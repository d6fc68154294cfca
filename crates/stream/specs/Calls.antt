-- What the calls of the bit writer and the bit reader tell, and what a write leaves: document 01, "Port order", 2.
use Rattle.std.specs.Prelude.{Bool, cond, List, [], ◌∷◌, ℕ, ◌+◌, ◌*◌, ◌/◌, min, length, ltb, Ok, Err, Some, None, ⊤}
use Rattle.std.specs.declared.option.Option.{Option}
use Rattle.std.specs.declared.result.Result.{Result}
use Rattle.stream.specs.Bits.{bits_of, value_of, bits, field, replaced}
use Rattle.stream.specs.Refusals.{number_of, when, or_else, by_fault}
use Rattle.stream.specs.declared.Bit.{Bit}
use Rattle.stream.specs.declared.Bit.TheVariants.{Zero, One}
use Rattle.stream.specs.declared.refusal.Refusal.{Refusal}
use Rattle.stream.specs.declared.position.BitPos.{BitPos}
use Rattle.stream.specs.declared.buffered_write.Written.{Written}
use Rattle.stream.specs.declared.buffered_read.Reading.{Reading}

-- the most bytes that a lent buffer may have
abbrev pub limit : ℕ
limit = 16777216

-- ---- answers on paper: the values that a call gives, or the number that it is refused with

pub data Told : Type 0 where
  given : (values : List ℕ) → Told
  refused : (number : ℕ) → Told

abbrev pub bit_number : Bit → ℕ
bit_number Zero = 0
bit_number One = 1

-- of a result: the values of what it gives, or the number of its refusal
abbrev pub tell : {A : Type 0} → (A → List ℕ) → Result A Refusal → Told
tell values (Ok x) = given (values x)
tell values (Err r) = refused (number_of r)

abbrev pub tell_write : Result ⊤ Refusal → Told
tell_write = tell (λ done. [])

abbrev pub tell_bit : Result Bit Refusal → Told
tell_bit = tell (λ b. bit_number b ∷ [])

abbrev pub tell_byte : Result ℕ Refusal → Told
tell_byte = tell (λ x. x ∷ [])

abbrev pub tell_bits : Result ℕ Refusal → Told
tell_bits = tell (λ v. v ∷ [])

abbrev pub tell_in_bits : Result BitPos Refusal → Told
tell_in_bits = tell (λ p. p.0 ∷ [])

abbrev pub tell_ahead : Option ℕ → Told
tell_ahead None = given []
tell_ahead (Some w) = given (w ∷ [])

-- ---- outcomes on paper: what was answered, the position after it and, of a write, the bits after it

abbrev pub told_write : Written → List ℕ → Told × ℕ × List Bool
told_write r l = (tell_write r.answer, r.writer.at.0, bits l)

abbrev pub told_bit : Reading Bit → Told × ℕ
told_bit r = (tell_bit r.answer, r.reader.at.0)

abbrev pub told_byte : Reading ℕ → Told × ℕ
told_byte r = (tell_byte r.answer, r.reader.at.0)

abbrev pub told_bits : Reading ℕ → Told × ℕ
told_bits r = (tell_bits r.answer, r.reader.at.0)

-- ---- fields

-- a count above 64 is taken as 64
abbrev pub width : ℕ → ℕ
width num = min num 64

-- n bits at p in a buffer of len bytes: 5, then 13, then the refusal of a field that does not fit; 0 where it is there
unfoldable pub field_fault : ℕ → ℕ → ℕ → ℕ → ℕ
field_fault short len p n =
    or_else (when (ltb limit len) 5) (or_else (when (ltb (8 * len) p) 13) (when (ltb (8 * len) (p + n)) short))

-- a write of the num low bits of x at p into the bytes l
unfoldable pub write_of : List ℕ → ℕ → ℕ → ℕ → Told × ℕ × List Bool
write_of l p x num =
    by_fault {A = Told × ℕ × List Bool} (field_fault 1 (length l) p (width num))
    (given [], p + width num, replaced (bits l) p (bits_of (width num) x))
    (λ r. (refused r, p, bits l))

-- a read of num bits at p out of the bytes l
unfoldable pub read_of : List ℕ → ℕ → ℕ → Told × ℕ
read_of l p num =
    by_fault {A = Told × ℕ} (field_fault 7 (length l) p (width num))
    (given (value_of (field (bits l) p (width num)) ∷ []), p + width num)
    (λ r. (refused r, p))

-- a peek is a read that does not move
unfoldable pub peek_of : List ℕ → ℕ → ℕ → Told × ℕ
peek_of l p num = ((read_of l p num).0, p)

-- the 64 bits at p, where that byte and eight more are there; nothing elsewhere
unfoldable pub ahead_of : List ℕ → ℕ → Told
ahead_of l p = given (cond (ltb (length l) (p / 8 + 9)) [] (value_of (field (bits l) p 64) ∷ []))

-- the position behind n bytes: 5 above the limit
unfoldable pub in_bits_of : ℕ → Told
in_bits_of n = by_fault (when (ltb limit n) 5) (given (8 * n ∷ [])) refused
