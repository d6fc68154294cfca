-- What is promised of bits, bytes and fields, and of the calls that write and read them.
use Rattle.std.specs.Prelude.{◌≡◌, Bool, false, List, [], ◌∷◌, ◌++◌, ℕ, ◌+◌, ◌*◌, ◌/◌, ◌%◌, ◌^◌, ◌≤◌, ◌<◌, length, take, drop, get_or, replicate}
use Rattle.std.specs.declared.option.Option.{Option}
use Rattle.std.specs.declared.result.Result.{Result}
use Rattle.stream.specs.Bits.{bits_of, value_of, bits, edge, spare, field, replaced}
use Rattle.stream.specs.Refusals.{number_of, name_of}
use Rattle.stream.specs.Calls.{limit, Told, given, bit_number, tell_ahead, tell_in_bits, told_write, told_bit, told_byte, told_bits, width, field_fault, write_of, read_of}
use Rattle.stream.specs.declared.Bit.{Bit}
use Rattle.stream.specs.declared.refusal.Refusal.{Refusal}
use Rattle.stream.specs.declared.position.BitPos.{BitPos}
use Rattle.stream.specs.declared.position.ByteCount.{ByteCount}
use Rattle.stream.specs.declared.buffered_write.BufferedWriter.{BufferedWriter}
use Rattle.stream.specs.declared.buffered_write.Written.{Written}
use Rattle.stream.specs.declared.buffered_read.BufferedReader.{BufferedReader}
use Rattle.stream.specs.declared.buffered_read.Reading.{Reading}

-- `digits`: a number and its digits
pub record Digits : Type 0 where
  pub size : (n x : ℕ) → length (bits_of n x) ≡ n
  -- the number of the digits: all of it that n bits hold
  pub number : (n x : ℕ) → value_of (bits_of n x) ≡ x % 2 ^ n
  -- the digits of the number: all of them
  pub back : (bs : List Bool) → bits_of (length bs) (value_of bs) ≡ bs
  pub below : (bs : List Bool) → value_of bs < 2 ^ length bs
  -- a + b digits are the a high ones, then the b low ones
  pub parts : (a b x : ℕ) → bits_of (a + b) x ≡ bits_of a (x / 2 ^ b) ++ bits_of b x

abbrev pub AreBytes : List ℕ → Type 0
AreBytes l = (i : ℕ) → get_or l i 0 < 256

-- `bytes_are_bits`: a buffer is its bits
pub record BytesAreBits : Type 0 where
  pub size : (l : List ℕ) → length (bits l) ≡ 8 * length l
  -- two buffers with the same bits are the same
  pub one : (l m : List ℕ) → AreBytes l → AreBytes m → bits l ≡ bits m → l ≡ m
  -- the first k bytes are the first 8 k bits, and the bytes behind them the bits behind those
  pub first : (k : ℕ) (l : List ℕ) → bits (take k l) ≡ take (8 * k) (bits l)
  pub rest : (k : ℕ) (l : List ℕ) → bits (drop k l) ≡ drop (8 * k) (bits l)

-- `write_leaves`: the bits after a write of f at p over bs
pub record WriteLeaves (bs : List Bool) (p : ℕ) (f : List Bool) : Type 0 where
  -- the field is read back
  pub back : field (replaced bs p f) p (length f) ≡ f
  -- every field before it is as it was
  pub before : (q m : ℕ) → q + m ≤ p → field (replaced bs p f) q m ≡ field bs q m
  -- no bits change nothing
  pub none : length f ≡ 0 → replaced bs p f ≡ bs
  -- the rest of the last byte touched is zero
  pub rest : 0 < length f → field (replaced bs p f) (p + length f) (spare (p + length f)) ≡ replicate (spare (p + length f)) false
  -- every field behind that byte is as it was
  pub after : (q m : ℕ) → edge (p + length f) ≤ q → field (replaced bs p f) q m ≡ field bs q m
  -- `two_writes`: another write behind it, and both are one write
  pub two : (g : List Bool) → replaced (replaced bs p f) (p + length f) g ≡ replaced bs p (f ++ g)
  -- a buffer of whole bytes keeps its length
  pub size : (m : ℕ) → length bs ≡ 8 * m → p + length f ≤ length bs → length (replaced bs p f) ≡ length bs

abbrev pub WritesLeave : Type 0
WritesLeave = (bs : List Bool) (p : ℕ) (f : List Bool) → p ≤ length bs → WriteLeaves bs p f

-- ---- the calls

-- `field_faults`: the refusal of n bits at p in len bytes, by the first rule that holds
pub record FieldFault (short len p n : ℕ) : Type 0 where
  pub too_long : limit < len → field_fault short len p n ≡ 5
  pub no_fit : len ≤ limit → 8 * len < p → field_fault short len p n ≡ 13
  pub runs_past : len ≤ limit → p ≤ 8 * len → 8 * len < p + n → field_fault short len p n ≡ short
  pub there : len ≤ limit → p + n ≤ 8 * len → field_fault short len p n ≡ 0

abbrev pub FieldFaults : Type 0
FieldFaults = (short len p n : ℕ) → FieldFault short len p n

-- `write_call`: after a write of the num low bits of x at p into the bytes l, which has left the bytes m
pub record WriteCall (l m : List ℕ) (p x num : ℕ) : Type 0 where
  -- refused, it has changed no byte
  pub kept : 0 < field_fault 1 (length l) p (width num) → m ≡ l
  -- so has one of no bits
  pub none : width num ≡ 0 → m ≡ l
  -- accepted, it is read back
  pub back : field_fault 1 (length l) p (width num) ≡ 0 → (given (x % 2 ^ width num ∷ []), p + width num) ≡ read_of m p num
  -- and the rest of its last byte is zero
  pub rest : field_fault 1 (length l) p (width num) ≡ 0 → 0 < width num
      → field (bits m) (p + width num) (spare (p + width num)) ≡ replicate (spare (p + width num)) false
  -- what a read of a field before it answers is what it answered; so it is behind the last byte touched
  pub before : (q k : ℕ) → q + width k ≤ p → read_of m q k ≡ read_of l q k
  pub after : (q k : ℕ) → edge (p + width num) ≤ q → read_of m q k ≡ read_of l q k
  -- with another write behind it, it is one write of both numbers' bits
  pub two : (y k : ℕ) → num + k ≤ 64 → field_fault 1 (length l) p (num + k) ≡ 0
      → write_of m (p + num) y k ≡ write_of l p (x * 2 ^ k + y % 2 ^ k) (num + k)

-- for all that meets what the call states
abbrev pub WriteCalls : Type 0
WriteCalls =
    (l m : List ℕ) (p x num q : ℕ) (t : Told) → AreBytes l → AreBytes m → (t, q, bits m) ≡ write_of l p x num → WriteCall l m p x num

-- two outcomes that meet a call's statement are told alike, by its right side; what is told of an outcome says all of it
abbrev pub Tells : (A O : Type 0) → (A → O) → Type 0
Tells A O tell = (r s : A) → tell r ≡ tell s → r ≡ s

-- `one_outcome`: no two outcomes meet the statement of a call
pub record OneOutcome : Type 0 where
  pub write : (r s : Written) (m n : List ℕ) → AreBytes m → AreBytes n → told_write r m ≡ told_write s n → (r ≡ s) × (m ≡ n)
  pub read_bit : Tells (Reading Bit) (Told × ℕ) told_bit
  pub read_byte : Tells (Reading ℕ) (Told × ℕ) told_byte
  pub read_bits : Tells (Reading ℕ) (Told × ℕ) told_bits
  pub ahead : Tells (Option ℕ) Told tell_ahead
  pub to_bits : Tells (Result BitPos Refusal) Told tell_in_bits
  pub number : Tells Refusal ℕ number_of
  pub name : Tells Refusal (List ℕ) name_of
  pub bit : Tells Bit ℕ bit_number
  -- a struct of one number is that number
  pub position : Tells BitPos ℕ (λ p. p.0)
  pub count : Tells ByteCount ℕ (λ n. n.0)
  pub writer : Tells BufferedWriter ℕ (λ w. w.at.0)
  pub reader : Tells BufferedReader ℕ (λ r. r.at.0)
