-- The rows in which a dod is written, and its signed field: document 01, the table and "Reading a field of n bits".
use Rattle.std.specs.Prelude.{◌≡◌, ℕ, suc, ◌-◌, ◌^◌, ◌≤◌, ◌<◌, Bool, cond, ◌&&◌, List, [], ◌∷◌, ltb, ℤ, pos, negsuc, neg_ℤ, get_or}
use Rattle.std.specs.Int.Signed.{le_z}
use Rattle.layout.specs.declared.Row.{Row}

-- ---- signed numbers

abbrev pub minus : ℕ → ℤ
minus n = neg_ℤ (pos n)

-- from the lowest to the highest
unfoldable pub within : ℤ → ℤ → ℤ → Bool
within lo hi d = le_z lo d && le_z d hi

-- ---- the table: prefix, its length, field bits, lowest and highest dod

abbrev pub row : ℕ → ℕ → ℕ → ℤ → ℤ → Row
row p k n lo hi = record { prefix = p; prefix_len = k; width = n; lowest = lo; highest = hi }

abbrev pub row7 : Row
row7 = row 0b10 2 7 (minus 63) (pos 64)

abbrev pub row9 : Row
row9 = row 0b110 3 9 (minus 255) (pos 256)

abbrev pub row12 : Row
row12 = row 0b1110 4 12 (minus 2047) (pos 2048)

abbrev pub row32 : Row
row32 = row 0b1111 4 32 (minus 2147483647) (pos 2147483648)

abbrev pub longer_rows : List Row
longer_rows = row9 ∷ row12 ∷ row32 ∷ []

abbrev pub rows : List Row
rows = row7 ∷ longer_rows

-- row i, counted from 0; past the end the last
unfoldable pub row_at : ℕ → Row
row_at i = get_or rows i row32

abbrev pub fits : Row → ℤ → Bool
fits r d = within r.lowest r.highest d

-- ---- the field, over its width n

-- the dods that it takes: -(2^(n - 1) - 1) to 2^(n - 1)
abbrev pub in_field : ℕ → ℤ → Bool
in_field n d = within (minus (2 ^ (n - 1) - 1)) (pos (2 ^ (n - 1))) d

-- the number in it: negsuc a is -(a + 1)
unfoldable pub raw : ℕ → ℤ → ℕ
raw n (pos a) = a
raw n (negsuc a) = 2 ^ n - suc a

-- a raw number above 2^(n - 1) stands for raw - 2^n, otherwise for itself
unfoldable pub signed : ℕ → ℕ → ℤ
signed n x = cond (ltb (2 ^ (n - 1)) x) (minus (2 ^ n - x)) (pos x)

-- ---- what each row keeps to

-- it takes what its field takes
pub record Spans (r : Row) : Type 0 where
  pub some : 1 ≤ r.width
  pub lo : r.lowest ≡ minus (2 ^ (r.width - 1) - 1)
  pub hi : r.highest ≡ pos (2 ^ (r.width - 1))

-- at most four control bits, and a field of at most 32
pub record Good (r : Row) : Type 0 where
  pub whole : r.prefix < 2 ^ r.prefix_len
  pub short : r.prefix_len ≤ 4
  pub narrow : r.width ≤ 32
  pub spans : Spans r
