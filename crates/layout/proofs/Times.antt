-- A time that was written is read back.
use mathlib.Core.Path.{◌≡◌, ap, ◌∙◌}
use Prim.Native.Nat.{ℕ, zero, suc, ◌+◌, ◌-◌, ◌^◌, ◌≤◌, ◌<◌}
use native.Mathlib.Omega.{arith}
use mathlib.Core.Bool.{Bool, true, false, cond}
use mathlib.Core.List.{List, [], ◌∷◌, ◌++◌, append_assoc}
use lib.Dec.{eqb, ltb, lit<}
use lib.IntN.{ℤ, pos, negsuc, ◌+ℤ◌, sub_ℕ}
use borrow.Author.Tests.{ne_eqb, le-ltb, ltb-true, ltb-false}
use Rattle.stream.specs.Bits.{digit, bits_of}
use Rattle.stream.proofs.Numbers.{length_bits_of}
use Rattle.layout.specs.declared.Row.{Row}
use Rattle.layout.specs.Rows.{row7, longer_rows, rows, fits, raw, signed}
use Rattle.layout.specs.Writing.{in_range, in_row, row_bits, dod_bits, marker}
use Rattle.layout.specs.Reading.{done, got, Label, item, time_field, Found, ending, Reader, read_row, read_dod, new_time}
use Rattle.layout.proofs.Tests.{by_bool}
use Rattle.layout.proofs.Fields.{raw_some, in_row_lem, span_back, Chain, table}
use Rattle.layout.proofs.Runs.{run_on, Leads, moved, run_field, run_bit}

-- ---- the bits of a dod behind the control bits that the rows share

unfoldable tail_bits : Row → List Row → ℤ → List Bool
tail_bits r [] d = bits_of r.width (raw r.width d)
tail_bits r (r' ∷ rs) d = cond (fits r d) (false ∷ bits_of r.width (raw r.width d)) (true ∷ tail_bits r' rs d)

abbrev pub last_fits : Row → List Row → ℤ → Bool
last_fits r [] d = fits r d
last_fits r (r' ∷ rs) d = last_fits r' rs d

row_tail : (pre : List Bool) (r : Row) (rs : List Row) (d : ℤ) → Chain pre r rs → last_fits r rs d ≡ true
    → row_bits (r ∷ rs) d ≡ pre ++ tail_bits r rs d
unfolding row_bits in_row tail_bits
row_tail pre r [] d t h = rw (h, t.1)
row_tail pre r (r' ∷ rs) d t h =
    by_bool (λ (b : Bool). cond b (in_row r d) (row_bits (r' ∷ rs) d) ≡ pre ++ cond b (false ∷ bits_of r.width (raw r.width d)) (true ∷ tail_bits r' rs d)) (fits r d)
    (λ e. rw t.1 (append_assoc pre (false ∷ []) _))
    (λ e. row_tail (pre ++ (true ∷ [])) r' rs d t.2 h ∙ append_assoc pre (true ∷ []) _)

-- ---- and what is read there

module _ (f : ℤ → Reader) (d : ℤ) (rest : List Bool) where
  -- the bits l are read by r as the dod d
  abbrev Gives : Reader → ℕ → List Bool → Type 0
  Gives r p l = Leads rest r (f d) p l

  tail_back : (pre : List Bool) (r : Row) (rs : List Row) (p : ℕ) → Chain pre r rs → last_fits r rs d ≡ true → ¬ (d ≡ pos 0)
      → Gives (read_row r rs f) p (tail_bits r rs d)
  unfolding read_row tail_bits digit
  tail_back pre r [] p t h z =
      let e = in_row_lem r d t.0 h in
      let b = span_back r d t.0 h in
      run_field (item time_field 0) r.width (λ x. cond (eqb x 0) (done ending) (f (signed r.width x))) p (raw r.width d) rest b.whole
      ∙ rw (ne_eqb (raw r.width d) 0 (λ k. let y : ⊥ = omega (arith, raw_some r.width d t.0.some e z) in y), b.back)
      (moved (f d) rest _ _ (omega (arith, length_bits_of r.width (raw r.width d))))
  tail_back pre r (r' ∷ rs) p t h z =
      by_bool (λ (b : Bool). Gives (read_row r (r' ∷ rs) f) p (cond b (false ∷ bits_of r.width (raw r.width d)) (true ∷ tail_bits r' rs d))) (fits r d)
      (λ e.
      let b = span_back r d t.0 e in
      run_bit _ _ p false (bits_of r.width (raw r.width d) ++ rest)
      ∙ run_field (item time_field 0) r.width (λ x. f (signed r.width x)) (p + 1) (raw r.width d) rest b.whole
      ∙ rw b.back (moved (f d) rest _ _ (omega (arith, length_bits_of r.width (raw r.width d)))))
      (λ e.
      run_bit _ _ p true (tail_bits r' rs d ++ rest)
      ∙ tail_back (pre ++ (true ∷ [])) r' rs (p + 1) t.2 h z
      ∙ moved (f d) rest _ _ (omega arith))

  row_back : (p : ℕ) → in_range d ≡ true → ¬ (d ≡ pos 0) → Gives (read_dod f) p (row_bits rows d)
  unfolding read_dod digit
  row_back p h z =
      rw (row_tail (true ∷ []) row7 longer_rows d table h)
      (run_bit _ _ p true (tail_bits row7 longer_rows d ++ rest)
      ∙ tail_back (true ∷ []) row7 longer_rows (p + 1) table h z
      ∙ moved (f d) rest _ _ (omega arith))

pub dod_back : (f : ℤ → Reader) (d : ℤ) (rest : List Bool) (p : ℕ) → in_range d ≡ true → Gives f d rest (read_dod f) p (dod_bits d)
unfolding dod_bits read_dod digit
dod_back f (pos zero) rest p h = run_bit _ _ p false rest
dod_back f (pos (suc a)) rest p h = row_back f (pos (suc a)) rest p h (λ e. let z : suc a ≡ 0 = cc in let y : ⊥ = omega arith in y)
dod_back f (negsuc a) rest p h = row_back f (negsuc a) rest p h (λ e. let z : ◌≡◌ {A = ℕ} 0 1 = cc in let y : ⊥ = omega arith in y)

-- ---- the previous delta and the dod give the delta back

pub delta_back : (a b : ℕ) → pos b +ℤ sub_ℕ a b ≡ pos a
delta_back a b = by_bool (λ (t : Bool). pos b +ℤ cond t (negsuc (b - suc a)) (pos (a - b)) ≡ pos a) (ltb a b)
    (λ t. let h : a < b = ltb-true a b t in let g : suc (b - suc a) ≤ b = omega arith in rw (le-ltb b (suc (b - suc a)) g) (ap pos (omega arith)))
    (λ t. let h : b ≤ a = ltb-false a b t in ap pos (omega arith))

pub time_back : (t t' : ℕ) (f : ℕ → ℕ → Reader) → t ≤ t' → t' < 2 ^ 64 → new_time t (pos (t' - t)) f ≡ f t' (t' - t)
unfolding new_time
time_back t t' f h b =
    let e : t + (t' - t) ≡ t' = omega arith in
    rw (e, le-ltb (2 ^ 64 - 1) t' (omega arith))

-- ---- the marker

pub done_at : (a : Found) (rest : List Bool) (q q' : ℕ) → q ≡ q' → run_on {L = Label} (done a) q rest ≡ got a q'
unfolding run_on
done_at a rest q q' e = ap (got a) e

pub end_dod : (f : ℤ → Reader) (p : ℕ) (rest : List Bool) → run_on (read_dod f) p (marker ++ rest) ≡ got ending (p + 36)
unfolding read_dod read_row marker digit
end_dod f p rest =
    rw (run_bit, run_bit, run_bit, run_bit)
    (run_field (item time_field 0) 32 (λ x. cond (eqb x 0) (done ending) (f (signed 32 x))) (p + 1 + 1 + 1 + 1) 0 rest (lit< tt)
    ∙ done_at ending rest _ _ (omega arith))
