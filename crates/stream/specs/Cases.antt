-- Worked cases of bits, bytes and calls.
use Rattle.std.specs.Prelude.{◌≡◌, Bool, true, false, List, [], ◌∷◌, ◌++◌, map, ℕ, ◌-◌, ◌^◌, replicate}
use Rattle.stream.specs.Bits.{bits_of, value_of, bits, padded}
use Rattle.stream.specs.Calls.{Told, given, refused, field_fault, write_of, read_of, peek_of, ahead_of, in_bits_of}

pub data Case : Type 0 where
  -- the n low digits of a number
  digits : (n x : ℕ) (expected : List Bool) → Case
  -- the bits of bytes
  bytes : (l : List ℕ) (expected : List Bool) → Case
  -- bits as whole bytes
  whole : (s : List Bool) (expected : List ℕ) → Case
  -- the refusal of n bits at p in len bytes, short being that of a field which does not fit; 0 for none
  fault : (short len p n : ℕ) (expected : ℕ) → Case
  -- a write of the num low bits of x at p: its answer, the position and the bytes after it
  writes : (before : List ℕ) (p x num : ℕ) (expected : Told) (then : ℕ) (after : List ℕ) → Case
  -- a read of num bits at p, and a peek
  reads : (l : List ℕ) (p num : ℕ) (expected : Told) (then : ℕ) → Case
  peeks : (l : List ℕ) (p num : ℕ) (expected : Told) (then : ℕ) → Case
  -- the 64 bits at p, where nine bytes are there
  aheads : (l : List ℕ) (p : ℕ) (expected : Told) → Case
  -- the position behind n bytes
  behind : (n : ℕ) (expected : Told) → Case

pub data Seen : Type 0 where
  number : ℕ → Seen
  bit_list : List Bool → Seen
  answer : Told → ℕ → Seen
  place : Told → Seen

unfoldable pub seen_read : Told × ℕ → Seen
seen_read o = answer o.0 o.1

unfoldable pub seen_write : Told × ℕ × List Bool → List Seen
seen_write o = answer o.0 o.1 ∷ bit_list o.2 ∷ []

-- digits are seen both ways: of the number, and as a number
unfoldable pub seen : Case → List Seen
seen (digits n x e) = bit_list (bits_of n x) ∷ number (value_of e) ∷ []
seen (bytes l e) = bit_list (bits l) ∷ []
seen (whole s e) = bit_list (padded s) ∷ []
seen (fault s len p n e) = number (field_fault s len p n) ∷ []
seen (writes l p x num t q m) = seen_write (write_of l p x num)
seen (reads l p num t q) = seen_read (read_of l p num) ∷ []
seen (peeks l p num t q) = seen_read (peek_of l p num) ∷ []
seen (aheads l p t) = place (ahead_of l p) ∷ []
seen (behind n t) = place (in_bits_of n) ∷ []

unfoldable pub expected : Case → List Seen
expected (digits n x e) = bit_list e ∷ number x ∷ []
expected (bytes l e) = bit_list e ∷ []
expected (whole s e) = bit_list (bits e) ∷ []
expected (fault s len p n e) = number e ∷ []
expected (writes l p x num t q m) = answer t q ∷ bit_list (bits m) ∷ []
expected (reads l p num t q) = answer t q ∷ []
expected (peeks l p num t q) = answer t q ∷ []
expected (aheads l p t) = place t ∷ []
expected (behind n t) = place t ∷ []

unfoldable pub cases : List Case
cases =
    -- bits go highest first
    digits 4 0b0001 (false ∷ false ∷ false ∷ true ∷ [])
    ∷ digits 3 0b110 (true ∷ true ∷ false ∷ [])
    ∷ bytes (0xA5 ∷ 0x01 ∷ []) (true ∷ false ∷ true ∷ false ∷ false ∷ true ∷ false ∷ true ∷ false ∷ false ∷ false ∷ false ∷ false ∷ false ∷ false ∷ true ∷ [])
    -- bits left over in the last byte are zero; a whole byte has none
    ∷ whole (bits_of 3 0b111) (0xE0 ∷ [])
    ∷ whole (bits_of 8 0x7F) (0x7F ∷ [])
    -- a write inside a byte, up to its edge, over the edge, over a whole byte; a field holds the low bits of its number
    ∷ writes (0xFF ∷ 0xFF ∷ 0xFF ∷ []) 3 0 2 (given []) 5 (0xE0 ∷ 0xFF ∷ 0xFF ∷ [])
    ∷ writes (0xFF ∷ 0xFF ∷ 0xFF ∷ []) 3 0b00110 5 (given []) 8 (0xE6 ∷ 0xFF ∷ 0xFF ∷ [])
    ∷ writes (0xFF ∷ 0xFF ∷ 0xFF ∷ []) 3 0b001101 6 (given []) 9 (0xE6 ∷ 0x80 ∷ 0xFF ∷ [])
    ∷ writes (0xFF ∷ 0xFF ∷ 0xFF ∷ []) 8 0x100 8 (given []) 16 (0xFF ∷ 0x00 ∷ 0xFF ∷ [])
    -- no bits change nothing, at the buffer's end too
    ∷ writes (0xFF ∷ 0xFF ∷ []) 3 0 0 (given []) 3 (0xFF ∷ 0xFF ∷ [])
    ∷ writes (0xFF ∷ []) 8 0 0 (given []) 8 (0xFF ∷ [])
    -- 64 bits in nine bytes; 65 are taken as 64, so nine bytes hold them from bit 8 on
    ∷ writes (replicate 9 0xFF) 4 0 64 (given []) 68 (0xF0 ∷ replicate 8 0x00)
    ∷ writes (replicate 9 0xFF) 8 0 65 (given []) 72 (0xFF ∷ replicate 8 0x00)
    -- one bit too many, and a position past the end: refused, nothing changed
    ∷ writes (0xFF ∷ 0xFF ∷ []) 9 0 8 (refused 1) 9 (0xFF ∷ 0xFF ∷ [])
    ∷ writes (0xFF ∷ []) 9 0 0 (refused 13) 9 (0xFF ∷ [])
    -- a read moves by its field, a peek stays; neither moves where it is refused
    ∷ reads (0xE6 ∷ 0x80 ∷ []) 3 6 (given (0b001101 ∷ [])) 9
    ∷ peeks (0xE6 ∷ 0x80 ∷ []) 3 6 (given (0b001101 ∷ [])) 3
    ∷ reads (0xE6 ∷ 0x80 ∷ []) 16 0 (given (0 ∷ [])) 16
    ∷ reads (replicate 9 0xFF) 8 65 (given ((2 ^ 64 - 1) ∷ [])) 72
    ∷ reads (0xE6 ∷ 0x80 ∷ []) 9 8 (refused 7) 9
    ∷ peeks (0xE6 ∷ 0x80 ∷ []) 9 8 (refused 7) 9
    ∷ reads (0xE6 ∷ []) 9 0 (refused 13) 9
    -- 64 bits at once, out of nine bytes; none out of eight, or of nine at the second
    ∷ aheads (replicate 8 0xFF ++ (0x00 ∷ [])) 4 (given ((2 ^ 64 - 16) ∷ []))
    ∷ aheads (replicate 8 0xFF) 0 (given [])
    ∷ aheads (replicate 9 0xFF) 8 (given [])
    -- the refusals in order: 5, then 13, then the field's; at the limit there is none
    ∷ fault 1 16777217 134217737 1 5
    ∷ fault 7 16777217 0 0 5
    ∷ fault 1 16777216 134217729 0 13
    ∷ fault 7 1 9 64 13
    ∷ fault 1 16777216 134217728 1 1
    ∷ fault 7 16777216 134217728 0 0
    -- the place behind some bytes
    ∷ behind 16777216 (given (134217728 ∷ []))
    ∷ behind 16777217 (refused 5)
    ∷ []

-- `worked`
abbrev pub Worked : Type 0
Worked = map seen cases ≡ map expected cases
