-- Numbers and bytes as bits, highest first, and a field written over them: document 01, "The bit layout", first paragraph, and
-- what a write leaves. The bit 1 is `true`, the bit 0 is `false`.
use Rattle.std.specs.Prelude.{Bool, true, false, List, [], ◌∷◌, ◌++◌, ℕ, zero, suc, ◌+◌, ◌-◌, ◌*◌, ◌/◌, ◌%◌, ◌^◌, length, take, drop, replicate, eqb}

-- ---- numbers

-- the lowest binary digit of x
unfoldable pub odd : ℕ → Bool
odd x = eqb (x % 2) 1

-- the n low binary digits of x, highest first
unfoldable pub bits_of : ℕ → ℕ → List Bool
bits_of zero x = []
bits_of (suc n) x = odd (x / 2 ^ n) ∷ bits_of n x

unfoldable pub digit : Bool → ℕ
digit true = 1
digit false = 0

-- the number whose binary digits these are, highest first
unfoldable pub value_of : List Bool → ℕ
value_of [] = 0
value_of (b ∷ bs) = digit b * 2 ^ length bs + value_of bs

-- ---- bytes

-- the bits of a list of bytes: eight of each
unfoldable pub bits : List ℕ → List Bool
bits [] = []
bits (x ∷ xs) = bits_of 8 x ++ bits xs

-- how many bytes hold q bits
abbrev pub bytes_for : ℕ → ℕ
bytes_for q = (q + 7) / 8

-- the first byte's edge at or after bit q
unfoldable pub edge : ℕ → ℕ
edge q = 8 * bytes_for q

-- the bits from q to that edge
abbrev pub spare : ℕ → ℕ
spare q = edge q - q

-- bits left over in the last byte are zero
unfoldable pub padded : List Bool → List Bool
padded bs = bs ++ replicate (spare (length bs)) false

-- ---- fields

-- the n bits at p
unfoldable pub field : List Bool → ℕ → ℕ → List Bool
field bs p n = take n (drop p bs)

-- bs with f at p, and zeros after it up to the byte's edge
unfoldable pub laid : List Bool → ℕ → List Bool → List Bool
laid bs p f = take p bs ++ (f ++ (replicate (spare (p + length f)) false ++ drop (edge (p + length f)) bs))

-- bs after a write of the field f at p: the rest of the last byte touched is zero and nothing else changes; an empty field changes
-- nothing
unfoldable pub replaced : List Bool → ℕ → List Bool → List Bool
replaced bs p [] = bs
replaced bs p (b ∷ f) = laid bs p (b ∷ f)
