-- The table of rows, by its places.
use mathlib.Core.Path.{◌≡◌, refl}
use mathlib.Core.List.{List, [], ◌∷◌}
use Prim.Native.Nat.{ℕ, zero, suc, ◌^◌, ◌≤◌, ◌<◌}
use native.Mathlib.Nat.{le_of_suc-le-suc, not-suc-le-zero}
use lib.Dec.{lit≤, lit<}
use lib.ListN.{length, get_or, drop}
use Rattle.layout.specs.declared.Row.{Row}
use Rattle.layout.specs.Rows.{row7, row9, row12, row32, rows, row_at, Spans, Good}
use Rattle.layout.specs.Promises.{Every}
use Rattle.layout.proofs.Fields.{table}

-- ---- a list of any elements

module _ {A : Type 0} where
  -- an element that is there is not the one that stands for the others
  pub at_any : (xs : List A) (i : ℕ) (a b : A) → i < length xs → get_or xs i a ≡ get_or xs i b
  at_any [] i a b h = absurd (not-suc-le-zero h)
  at_any (x ∷ xs) zero a b h = refl
  at_any (x ∷ xs) (suc i) a b h = at_any xs i a b (le_of_suc-le-suc h)

  pub at_past : (xs : List A) (i : ℕ) (a : A) → length xs ≤ i → get_or xs i a ≡ a
  at_past [] i a h = refl
  at_past (x ∷ xs) zero a h = absurd (not-suc-le-zero h)
  at_past (x ∷ xs) (suc i) a h = at_past xs i a (le_of_suc-le-suc h)

  -- what is left at a place is what stands there and what is left behind it
  pub drop_at : (xs : List A) (i : ℕ) (a : A) → i < length xs → drop i xs ≡ get_or xs i a ∷ drop (suc i) xs
  drop_at [] i a h = absurd (not-suc-le-zero h)
  drop_at (x ∷ xs) zero a h = refl
  drop_at (x ∷ xs) (suc i) a h = drop_at xs i a (le_of_suc-le-suc h)

  -- a rule of each entry, and of what stands for the others, holds at each place
  pub every_at : (P : A → Type 0) (xs : List A) (a : A) → Every P xs → P a → (i : ℕ) → P (get_or xs i a)
  every_at P [] a e d i = d
  every_at P (x ∷ xs) a e d zero = e.0
  every_at P (x ∷ xs) a e d (suc i) = every_at P xs a e.1 d i

-- ---- the rows

good : (r : Row) → r.prefix < 2 ^ r.prefix_len → r.prefix_len ≤ 4 → r.width ≤ 32 → Spans r → Good r
good r a b d s = record { whole = a; short = b; narrow = d; spans = s }

last_good : Good row32
last_good = good row32 (lit< tt) (lit≤ tt) (lit≤ tt) table.2.2.2.0

all_good : Every Good rows
all_good = (
  good row7 (lit< tt) (lit≤ tt) (lit≤ tt) table.0,
  (
    good row9 (lit< tt) (lit≤ tt) (lit≤ tt) table.2.0,
    (good row12 (lit< tt) (lit≤ tt) (lit≤ tt) table.2.2.0, (last_good, tt)),
  ),
)

pub good_at : (i : ℕ) → Good (row_at i)
unfolding row_at
good_at i = every_at Good rows row32 all_good last_good i
