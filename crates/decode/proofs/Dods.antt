-- The readers of a dod's field, by what was read, and the table of rows from one place on.
use Rattle.std.proofs.Common.{◌≡◌, ℕ, ◌+◌, ◌-◌, ◌<◌, ◌≤◌, Bool, cond, eqb, List, [], drop, ℤ, sym, refl, ap, ◌∙◌, add-one, arith}
use Rattle.layout.specs.declared.Row.{Row}
use Rattle.layout.specs.Rows.{row7, longer_rows, row32, rows, row_at, signed}
use Rattle.layout.specs.Reading.{done, ask, item, time_control, time_field, ending, Reader, read_row}
use Rattle.layout.specs.Answers.{Reached, wrong_at}
use Rattle.layout.proofs.Table.{drop_at, good_at}
use Rattle.decode.specs.declared.field.Peeked.{Peeked}
use Rattle.std.specs.Prelude.{Ok, Err}
use Rattle.stream.specs.declared.refusal.Refusal.{Refusal}
use Rattle.stream.specs.Refusals.{number_of}
use Rattle.decode.specs.Parts.{place, GotField, comes_to, from}
use Rattle.decode.proofs.Fields.{by_short, by_zero, by_other}

-- the field of a row that is not the last
abbrev row_field : Row → (ℤ → Reader) → Reader
row_field r f = ask (item time_field 0) r.width (λ x. f (signed r.width x))

pub row_width : (i : ℕ) (r : Row) → r ≡ row_at i → (1 ≤ r.width) × (r.width ≤ 32)
row_width i r e = rw e ((good_at i).spans.some, (good_at i).narrow)

-- the last row
pub last_row : (r : Row) → r ≡ row_at 3 → (f : ℤ → Reader) (p : ℕ) (s : List Bool)
    → comes_to (ask (item time_field 0) r.width (λ x. cond (eqb x 0) (done ending) (f (signed r.width x)))) p s ≡ comes_to (read_row row32 [] f) p s
unfolding read_row row_at
last_row r e f p s = rw e

-- ---- the rows from the i-th on

-- they read from q on what all rows read from p on
abbrev pub RowsLeft : Peeked → ℕ → Peeked → Type 0
RowsLeft p i q = (f : ℤ → Reader) → from (read_row (row_at i) (drop (i + 1) rows) f) q ≡ from (read_row row7 longer_rows f) p

pub rows_first : (p : Peeked) → RowsLeft p 0 p
unfolding row_at
rows_first p f = refl

-- a control bit: the row's own field, or the rows behind it
abbrev row_step : ℕ → (ℤ → Reader) → Reader
row_step i f =
    ask (item time_control ((row_at i).prefix_len - 1)) 1 (λ b.
    cond (eqb b 0) (row_field (row_at i) f) (read_row (row_at (i + 1)) (drop (i + 1 + 1) rows) f))

row_step_lem : (i : ℕ) → i < 3 → (f : ℤ → Reader) → read_row (row_at i) (drop (i + 1) rows) f ≡ row_step i f
unfolding read_row row_at
row_step_lem i h f = rw (drop_at rows (i + 1) row32 (omega arith), add-one (i + 1))

module _ (p : Peeked) (i : ℕ) (q : Peeked) (left : RowsLeft p i q) (h : i < 3) where
  from_here : (f : ℤ → Reader) → from (row_step i f) q ≡ from (read_row row7 longer_rows f) p
  from_here f = ap (λ (z : Reader). from z q) (sym (row_step_lem i h f)) ∙ left f

  pub rows_short : (x : Refusal) → GotField q.buf.now (place q) 1 (Err x) → (f : ℤ → Reader) → wrong_at (number_of x) 0 ≡ from (read_row row7 longer_rows f) p
  rows_short x k f = by_short _ 1 _ (place q) q.buf.now x k ∙ from_here f

  module _ (x : ℕ × Peeked) (k : GotField q.buf.now (place q) 1 (Ok x)) where
    pub rows_here : x.0 ≡ 0 → (w : Row) → w ≡ row_at i
        → (f : ℤ → Reader) (o : Reached) → o ≡ from (row_field w f) x.1 → o ≡ from (read_row row7 longer_rows f) p
    rows_here z w e f o h = (rw e at h) ∙ by_zero _ 1 (row_field (row_at i) f) _ (place q) q.buf.now x k z ∙ from_here f

    pub rows_next : (x.0 ≡ 0 → ⊥) → RowsLeft p (i + 1) x.1
    rows_next z f = by_other _ 1 (row_field (row_at i) f) _ (place q) q.buf.now x k z ∙ from_here f

pub rows_last : (p : Peeked) (i : ℕ) (q : Peeked) → RowsLeft p i q → i ≤ 3 → 3 ≤ i → (f : ℤ → Reader)
    → from (read_row row32 [] f) q ≡ from (read_row row7 longer_rows f) p
unfolding row_at
rows_last p i q left h k f = let e : i ≡ 3 = omega arith in rw e at (left f)
