-- Document 01's marked cases, M1 to M10, the others beside them, and sentences of it that a case shows.
use Rattle.std.specs.Prelude.{◌≡◌, ℕ, ◌+◌, ◌-◌, ◌^◌, Bool, true, false, List, [], ◌∷◌, ◌++◌, map, ℤ, pos, length, take, replicate}
use Rattle.stream.specs.Bits as stream
use Rattle.stream.specs.Refusals.{or_else}
use Rattle.stream.specs.Bits.{bits_of, padded, field}
use Rattle.layout.specs.Rows.{minus, in_field}
use Rattle.layout.specs.Windows.{window}
use Rattle.layout.specs.Writing.{Point, point_of, state, Progress, going, time_fault, start_bits, first_bits, state_after, opened, stream_bits}
use Rattle.layout.specs.Reading.{Outcome, got, cut, run, Kind, time_control, time_field, value_control, window_zeros, value_digits, first_marker, Label, item, Found, read_next}
use Rattle.layout.specs.Answers.{Answer, a_point, an_end, refusal, answers}

-- what a case says of values of 64 bits
pub data Case : Type 0 where
  -- a start and points: the bytes of the closed stream, and its size in bits
  bytes : (start : ℕ) (points : List Point) (expected : List ℕ) (size : ℕ) → Case
  -- a start and points: the bits that stand last before the marker, and the stream's size
  bits : (start : ℕ) (points : List Point) (expected : List Bool) (size : ℕ) → Case
  -- a start and points offered: the first refusal, 0 for none
  ruled : (start : ℕ) (points : List Point) (expected : ℕ) → Case
  -- a field's width and a dod: whether the field takes it
  takes : (n : ℕ) (d : ℤ) (expected : Bool) → Case
  -- bits: the decoder's first answers
  reads : (s : List Bool) (expected : List Answer) → Case
  -- a place in a series and too few bits from there on: the item that is torn, and where it begins
  lacks : (g : Progress) (s : List Bool) (kind : Kind) (first : ℕ) → Case

-- ---- the two sides of a case

pub data Seen : Type 0 where
  sized : (size : ℕ) (s : List Bool) → Seen
  ruling : ℕ → Seen
  taken : Bool → Seen
  told : List Answer → Seen
  torn : (kind : Kind) (first : ℕ) → Seen
  whole : Seen

unfoldable pub first_fault : Progress → List Point → ℕ
first_fault g [] = 0
first_fault g (p ∷ ps) = or_else (time_fault g p.time) (first_fault (going (state_after 6 g p)) ps)

unfoldable pub torn_item : Outcome Label Found → Seen
torn_item (got a q) = whole
torn_item (cut (item kind back) p n) = torn kind (p - back)

unfoldable pub seen : Case → Seen
seen (bytes start ps e n) = sized (length (stream_bits 6 start ps)) (padded (stream_bits 6 start ps))
seen (bits start ps e n) = sized (length (stream_bits 6 start ps)) (field (stream_bits 6 start ps) (n - 36 - length e) (length e))
seen (ruled start ps k) = ruling (first_fault (opened 6 start) ps)
seen (takes n d e) = taken (in_field n d)
seen (reads s e) = told (answers 6 (length e) s)
seen (lacks g s k q) = torn_item (run (read_next 6 g) 0 s)

unfoldable pub expected : Case → Seen
expected (bytes start ps e n) = sized n (stream.bits e)
expected (bits start ps e n) = sized n e
expected (ruled start ps k) = ruling k
expected (takes n d e) = taken e
expected (reads s e) = told e
expected (lacks g s k q) = torn k q

-- ---- the cases

-- the bits of 1.0 and of 0.5
abbrev pub one : ℕ
one = 0x3ff0000000000000

abbrev pub half : ℕ
half = 0x3fe0000000000000

abbrev pub m1 : List ℕ
m1 = replicate 8 0 ++ (0xF0 ∷ replicate 4 0)

abbrev pub m2 : List ℕ
m2 = replicate 9 0 ++ (0x14 ∷ replicate 7 0) ++ (0x01 ∷ 0xE0 ∷ replicate 4 0)

abbrev pub m3 : List ℕ
m3 = replicate 9 0 ++ (0x14 ∷ replicate 8 0) ++ (0x78 ∷ replicate 4 0)

abbrev pub m4 : List Point
m4 = point_of 10 0 ∷ point_of 20 one ∷ []

abbrev pub m6 : List Point
m6 = m4 ++ (point_of 30 half ∷ point_of 40 0 ∷ [])

-- start 0, a first delta of 5000, then a point with this second delta and the same value
abbrev pub second : ℕ → List Point
second δ = point_of 5000 0 ∷ point_of (5000 + δ) 0 ∷ []

-- M2's first point, which ends at 143, and bits behind it
abbrev pub after_first : List Bool → List Bool
after_first more = start_bits 0 ++ first_bits 6 0 (point_of 10 0) ++ more

-- behind it a time of dod 0 and a window of l leading zeros and k + 1 digits
abbrev pub windowed : ℕ → ℕ → List Bool → List Bool
windowed l k ds = after_first (bits_of 3 0b011 ++ bits_of 6 l ++ bits_of 6 k ++ ds)

-- M1 to M10
unfoldable pub marked_cases : List Case
marked_cases =
    bytes 0 [] m1 100
    ∷ bytes 0 (point_of 10 0 ∷ []) m2 179
    ∷ bytes 0 (point_of 10 0 ∷ point_of 20 0 ∷ []) m3 181
    ∷ bits 0 m4 (bits_of 1 0 ++ bits_of 2 0b11 ++ bits_of 6 0b000010 ++ bits_of 6 0b001001 ++ bits_of 10 0b1111111111) 204
    ∷ bits 0 (m4 ++ (point_of 30 0 ∷ [])) (bits_of 1 0 ++ bits_of 2 0b10 ++ bits_of 10 0b1111111111) 217
    ∷ bits 0 m6 (bits_of 3 0b010 ++ bits_of 10 0b0000000001 ++ bits_of 3 0b010 ++ bits_of 10 0b1111111110) 230
    -- M7: dods 64, 65, -63, -64; each with the value's bit 0
    ∷ bits 0 (second 5064) (bits_of 2 0b10 ++ bits_of 7 0b1000000 ++ bits_of 1 0) 189
    ∷ bits 0 (second 5065) (bits_of 3 0b110 ++ bits_of 9 0b001000001 ++ bits_of 1 0) 192
    ∷ bits 0 (second 4937) (bits_of 2 0b10 ++ bits_of 7 0b1000001 ++ bits_of 1 0) 189
    ∷ bits 0 (second 4936) (bits_of 3 0b110 ++ bits_of 9 0b111000000 ++ bits_of 1 0) 192
    -- M8: dods 2048, 2049, -2048
    ∷ bits 0 (second 7048) (bits_of 4 0b1110 ++ bits_of 12 0b100000000000 ++ bits_of 1 0) 196
    ∷ bits 0 (second 7049) (bits_of 4 0b1111 ++ bits_of 32 2049 ++ bits_of 1 0) 216
    ∷ bits 0 (second 2952) (bits_of 4 0b1111 ++ bits_of 32 0xFFFFF800 ++ bits_of 1 0) 216
    -- M9: dods 2^31 and -2^31
    ∷ ruled 0 (second (5000 + 2 ^ 31)) 0
    ∷ ruled 0 (point_of 0 0 ∷ point_of (2 ^ 31) 0 ∷ point_of (2 ^ 31) 0 ∷ []) 4
    -- M10
    ∷ ruled 0 (point_of 16383 0 ∷ []) 0
    ∷ ruled 0 (point_of 16384 0 ∷ []) 3
    ∷ []

-- window fields 1 and 63, 0 and 63, 63 and 0; M1 cut to 7, 8 and 12 bytes
unfoldable pub other_cases : List Case
other_cases =
    reads (windowed 1 63 []) (a_point 10 0 143 ∷ refusal 9 ∷ [])
    ∷ reads (windowed 0 63 (bits_of 64 5)) (a_point 10 0 143 ∷ a_point 20 5 222 ∷ [])
    ∷ reads (windowed 63 0 (bits_of 1 1)) (a_point 10 0 143 ∷ a_point 20 1 159 ∷ [])
    ∷ reads (stream.bits (take 7 m1)) (refusal 6 ∷ refusal 6 ∷ [])
    ∷ reads (stream.bits (take 8 m1)) (refusal 7 ∷ refusal 7 ∷ [])
    ∷ reads (stream.bits (take 12 m1)) (refusal 7 ∷ refusal 7 ∷ [])
    ∷ []

-- sentences of document 01, each by a case or two
unfoldable pub rule_cases : List Case
rule_cases =
    -- the window is the last one opened: M6 is read back; whatever follows the end is ignored
    reads (stream_bits 6 0 m6) (a_point 10 0 143 ∷ a_point 20 one 168 ∷ a_point 30 half 181 ∷ a_point 40 0 194 ∷ an_end 230 ∷ an_end 230 ∷ [])
    ∷ reads (stream.bits m1 ++ bits_of 8 0xFF) (an_end 100 ∷ an_end 100 ∷ [])
    -- a xor of 1 has too few zeros below for the window 2 and 52; one of 2^63 too few above for the window 63 and 0
    ∷ bits 0 (m4 ++ (point_of 30 (one + 1) ∷ [])) (bits_of 3 0b011 ++ bits_of 6 63 ++ bits_of 6 0 ++ bits_of 1 1) 220
    ∷ bits 0 (point_of 10 0 ∷ point_of 20 1 ∷ point_of 30 (2 ^ 63 + 1) ∷ []) (bits_of 3 0b011 ++ bits_of 6 0 ++ bits_of 6 0 ++ bits_of 1 1) 211
    -- rule 2; 4 is told by the true dod, not by its low 32 bits, and by both ends of its range
    ∷ ruled 5 (point_of 4 0 ∷ []) 2
    ∷ ruled 0 (point_of 10 0 ∷ point_of 9 0 ∷ []) 2
    ∷ ruled 0 (point_of 10 0 ∷ point_of 10 0 ∷ []) 0
    ∷ ruled 0 (second (5000 + 2 ^ 32)) 4
    ∷ ruled 0 (second (5001 + 2 ^ 31)) 4
    ∷ ruled 0 (point_of 0 0 ∷ point_of (2 ^ 31) 0 ∷ point_of (2 ^ 31 + 1) 0 ∷ []) 0
    -- the field of the lowest dod
    ∷ bits 0 (point_of 0 0 ∷ point_of (2 ^ 31) 0 ∷ point_of (2 ^ 31 + 1) 0 ∷ []) (bits_of 4 0b1111 ++ bits_of 32 0x80000001 ++ bits_of 1 0) 253
    -- a field of 7 bits takes -63 to 64, one of 1 bit 0 and 1
    ∷ takes 7 (minus 64) false
    ∷ takes 7 (minus 63) true
    ∷ takes 7 (pos 64) true
    ∷ takes 7 (pos 65) false
    ∷ takes 1 (minus 1) false
    ∷ takes 1 (pos 0) true
    ∷ takes 1 (pos 1) true
    ∷ takes 1 (pos 2) false
    -- 8 with its 36 bits, 7 with one less
    ∷ reads (start_bits 0 ++ bits_of 36 0xF00000001) (refusal 8 ∷ refusal 8 ∷ [])
    ∷ reads (start_bits 0 ++ bits_of 35 0x780000000) (refusal 7 ∷ refusal 7 ∷ [])
    -- 10 and 11 before the value is read
    ∷ reads (after_first (bits_of 2 0b10 ++ bits_of 7 117)) (a_point 10 0 143 ∷ refusal 10 ∷ [])
    ∷ reads (after_first (bits_of 2 0b10 ++ bits_of 7 118 ++ bits_of 1 0)) (a_point 10 0 143 ∷ a_point 10 0 153 ∷ [])
    ∷ reads (start_bits (2 ^ 64 - 1) ++ bits_of 15 1) (refusal 11 ∷ [])
    ∷ reads (start_bits (2 ^ 64 - 1) ++ bits_of 15 0 ++ bits_of 64 7) (a_point (2 ^ 64 - 1) 7 143 ∷ [])
    ∷ reads (start_bits (2 ^ 64 - 20) ++ bits_of 15 10 ++ bits_of 64 0 ++ bits_of 1 0) (a_point (2 ^ 64 - 10) 0 143 ∷ refusal 11 ∷ [])
    -- a raw 0x80000000 in the last row is 2^31, one more is -(2^31 - 1)
    ∷ reads (after_first (bits_of 4 0b1111 ++ bits_of 32 0x80000000 ++ bits_of 1 0)) (a_point 10 0 143 ∷ a_point (20 + 2 ^ 31) 0 180 ∷ [])
    ∷ reads (after_first (bits_of 4 0b1111 ++ bits_of 32 0x80000001)) (a_point 10 0 143 ∷ refusal 10 ∷ [])
    -- accepted: a dod in a longer row than needed; a zero xor as digits; reuse before any opening, of 64 digits
    ∷ reads (after_first (bits_of 3 0b110 ++ bits_of 9 0 ++ bits_of 1 0)) (a_point 10 0 143 ∷ a_point 20 0 156 ∷ [])
    ∷ reads (windowed 63 0 (bits_of 1 0)) (a_point 10 0 143 ∷ a_point 20 0 159 ∷ [])
    ∷ reads (after_first (bits_of 3 0b010 ++ bits_of 64 5)) (a_point 10 0 143 ∷ a_point 20 5 210 ∷ [])
    ∷ []

-- after a point at 10, with the window 2 and 52 of M4
abbrev pub midway : Progress
midway = going (state 10 10 0 (window 2 52))

-- which item of a point is torn, and the first bit of that item
unfoldable pub item_cases : List Case
item_cases =
    -- the first point: its control bit, its delta, its value; the marker in its place
    lacks (opened 6 0) [] time_control 0
    ∷ lacks (opened 6 0) (bits_of 14 0) time_field 1
    ∷ lacks (opened 6 0) (bits_of 15 10 ++ bits_of 63 0) value_digits 15
    ∷ lacks (opened 6 0) (bits_of 35 0x780000000) first_marker 0
    -- a later time: each control bit, each row's field, a marker torn in its zeros
    ∷ lacks midway [] time_control 0
    ∷ lacks midway (bits_of 1 0b1) time_control 0
    ∷ lacks midway (bits_of 2 0b11) time_control 0
    ∷ lacks midway (bits_of 3 0b111) time_control 0
    ∷ lacks midway (bits_of 2 0b10 ++ bits_of 6 0) time_field 2
    ∷ lacks midway (bits_of 3 0b110 ++ bits_of 8 0) time_field 3
    ∷ lacks midway (bits_of 4 0b1110 ++ bits_of 11 0) time_field 4
    ∷ lacks midway (bits_of 4 0b1111 ++ bits_of 31 0) time_field 4
    -- a later value: each control bit, both fields of a window, its digits; the digits of a window that is reused
    ∷ lacks midway (bits_of 1 0) value_control 1
    ∷ lacks midway (bits_of 2 0b01) value_control 1
    ∷ lacks midway (bits_of 3 0b011 ++ bits_of 5 0) window_zeros 3
    ∷ lacks midway (bits_of 3 0b011 ++ bits_of 11 0) window_zeros 3
    ∷ lacks midway (bits_of 3 0b011 ++ bits_of 12 1 ++ bits_of 1 0) value_digits 15
    ∷ lacks midway (bits_of 3 0b010 ++ bits_of 9 0) value_digits 3
    ∷ []

abbrev pub cases : List Case
cases = marked_cases ++ other_cases ++ rule_cases ++ item_cases

-- `marked`
abbrev pub Marked : Type 0
Marked = map seen cases ≡ map expected cases
