-- The points of a closed stream come back.
use mathlib.Core.Path.{◌≡◌, refl, sym, ap, ap₂, ◌∙◌}
use Prim.Native.Nat.{ℕ, zero, suc, ◌+◌, ◌-◌, ◌^◌, ◌≤◌, ◌<◌}
use native.Mathlib.Omega.{arith}
use mathlib.Core.Bool.{Bool, true, cond}
use mathlib.Core.List.{List, [], ◌∷◌, ◌++◌, append_assoc, map}
use lib.Dec.{eqb, ltb, lit<}
use lib.IntN.{ℤ, pos, ◌+ℤ◌}
use lib.Bits.{bit_xor, xor_lt}
use lib.ListN.{length, drop, length-append, length-drop}
use lib.Seq.{drop-drop, drop_at}
use borrow.Author.Tests.{ltb-false}
use Rattle.stream.specs.Bits.{odd, digit, bits_of}
use Rattle.stream.proofs.Numbers.{length_bits_of}
use Rattle.layout.specs.declared.Window.{Window}
use Rattle.layout.specs.Windows.{decoder_window, xor_bits}
use Rattle.layout.specs.declared.State.{State}
use Rattle.layout.specs.Writing.{Point, state, Progress, begun, going, dod_of, in_range, time_fault, dod_bits, start_bits, marker, first_bits, later_bits, point_bits, first_state, later_state, state_after, rest_bits, opened, stream_bits, Fitting, Accepted}
use Rattle.layout.specs.Reading.{done, ask, Outcome, got, run, read_start, item, time_field, value_digits, first_marker, point, ending, wrong, Reader, new_time, marker_rest, read_marker, read_value, after_dod, read_later, first_time, read_first, read_next}
use Rattle.layout.specs.Answers.{a_point, point_at, end_at, reached, Answer, an_end, answer_of, step, after_start, first_step, next_step, outcomes_after, outcomes, answers}
use Rattle.layout.specs.Promises.{back, PointsComeBack}
use Rattle.layout.proofs.Tests.{unmet, met}
use Rattle.layout.proofs.Times.{dod_back, delta_back, time_back, done_at, end_dod}
use Rattle.layout.proofs.Values.{Agree, window_read, agree_after, value_back}
use Rattle.layout.proofs.Prefix.{repeats}
use Rattle.layout.proofs.Runs.{run_on, run_on_lem, run_field, run_bit}

-- ---- what no refusal means

first_taken : (start t : ℕ) (w : Window) → time_fault (begun start w) t ≡ 0 → (start ≤ t) × (t - start ≤ 16383)
unfolding time_fault
first_taken start t w e =
    let a = unmet (ltb t start) 1 (cond (ltb 16383 (t - start)) 3 0) e in
    (ltb-false _ _ a.0, ltb-false _ _ (unmet (ltb 16383 (t - start)) 2 0 a.1).0)

pub later_taken : (s : State) (t : ℕ) → time_fault (going s) t ≡ 0 → (s.time ≤ t) × (in_range (dod_of s t) ≡ true)
unfolding time_fault
later_taken s t e =
    let a = unmet (ltb t s.time) 1 (cond (in_range (dod_of s t)) 0 4) e in
    (ltb-false _ _ a.0, met (in_range (dod_of s t)) 3 a.1)

-- ---- the decoder's place beside the encoder's: the same but for the window

abbrev with_window : State → Window → State
with_window s w = state s.time s.delta s.value w

abbrev seen_as : Progress → Window → Progress
seen_as (begun start w) w' = begun start w'
seen_as (going s) w' = going (with_window s w')

abbrev window_in : Progress → Window
window_in (begun start w) = w
window_in (going s) = s.window

module _ (c : ℕ) where
  -- the previous value has the width
  abbrev Known : Progress → Type 0
  Known (begun start w) = Unit {0}
  Known (going s) = s.value < 2 ^ (2 ^ c)

  -- the decoder's window behind a point
  abbrev window_then : Progress → Window → Point → Window
  window_then (begun start w) w' p = w'
  window_then (going s) w' p = window_read c s.window w' (bit_xor p.value s.value)

  agree_then : (g : Progress) (w' : Window) (p : Point) → Agree c (window_in g) w' → Agree c (state_after c g p).window (window_then g w' p)
  unfolding state_after first_state later_state
  agree_then (begun start w) w' p a = a
  agree_then (going s) w' p a = agree_after c s.window w' (bit_xor p.value s.value) a

  after_is : (g : Progress) (p : Point) → ((state_after c g p).time ≡ p.time) × ((state_after c g p).value ≡ p.value)
  unfolding state_after first_state later_state
  after_is (begun start w) p = (refl, refl)
  after_is (going s) p = (refl, refl)

  -- ---- one point

  first_back : (start : ℕ) (w w' : Window) (at : ℕ) (p : Point) (rest : List Bool) → Fitting c p → time_fault (begun start w) p.time ≡ 0
      → run_on (read_first c start w') at (first_bits c start p ++ rest) ≡ got (point (with_window (first_state start w p) w')) (at + length (first_bits c start p))
  unfolding read_first first_time first_bits first_state digit
  first_back start w w' at p rest fit ok =
      let t = first_taken start p.time w ok in
      let d = p.time - start in
      let vs = bits_of (2 ^ c) p.value in
      let vr : ℕ → ℕ → Reader = λ t δ. ask (item value_digits 0) (2 ^ c) (λ v. done (point (state t δ v w'))) in
      rw (run_bit, append_assoc (bits_of 14 d) vs rest)
      (run_field (item time_field 0) 14 (λ z. new_time start (pos z) vr) (at + 1) d (vs ++ rest) (omega (arith, t.1))
      ∙ ap (λ (r : Reader). run_on r (at + 1 + 14) (vs ++ rest)) (time_back start p.time vr t.0 fit.time_fits)
      ∙ run_field (item value_digits 0) (2 ^ c) (λ v. done (point (state p.time d v w'))) (at + 1 + 14) p.value rest fit.value_fits
      ∙ done_at _ rest _ _ (simp (length-append, length_bits_of) (omega arith)))

  later_back : (s : State) (w' : Window) (at : ℕ) (p : Point) (rest : List Bool) → s.value < 2 ^ (2 ^ c) → Agree c s.window w' → Fitting c p
      → time_fault (going s) p.time ≡ 0
      → run_on (read_later c (with_window s w')) at (later_bits c s p ++ rest)
      ≡ got (point (with_window (later_state c s p) (window_then (going s) w' p))) (at + length (later_bits c s p))
  unfolding read_later after_dod later_bits later_state
  later_back s w' at p rest known a fit ok =
      let t = later_taken s p.time ok in
      let d = dod_of s p.time in
      let x = bit_xor p.value s.value in
      let xs = xor_bits c s.window x in
      let vf : ℕ → ℕ → Reader = λ t δ. read_value c s.value w' (λ w u. done (point (state t δ u w))) in
      rw (append_assoc (dod_bits d) xs rest)
      (dod_back (λ z. new_time s.time (pos s.delta +ℤ z) vf) d (xs ++ rest) at t.1
      ∙ ap (λ (r : Reader). run_on r (at + length (dod_bits d)) (xs ++ rest))
      (ap (λ (z : ℤ). new_time s.time z vf) (delta_back (p.time - s.time) s.delta) ∙ time_back s.time p.time vf t.0 fit.time_fits)
      ∙ value_back c p.value s.value x refl (xor_lt (2 ^ c) p.value s.value fit.value_fits known)
      (λ w u. done (point (state p.time (p.time - s.time) u w))) rest s.window w' (at + length (dod_bits d)) a
      ∙ done_at _ rest _ _ (omega (arith, length-append (dod_bits d) xs)))

  point_back : (g : Progress) (w' : Window) (at : ℕ) (p : Point) (rest : List Bool) → Known g → Agree c (window_in g) w' → Fitting c p
      → time_fault g p.time ≡ 0
      → run_on (read_next c (seen_as g w')) at (point_bits c g p ++ rest) ≡ got (point (with_window (state_after c g p) (window_then g w' p))) (at + length (point_bits c g p))
  unfolding read_next point_bits state_after
  point_back (begun start w) w' at p rest known a fit ok = first_back start w w' at p rest fit ok
  point_back (going s) w' at p rest known a fit ok = later_back s w' at p rest known a fit ok

  end_back : (g : Progress) (at : ℕ) (rest : List Bool) → run_on (read_next c g) at (marker ++ rest) ≡ got ending (at + 36)
  unfolding read_next read_first read_marker read_later digit marker bits_of odd
  end_back (begun start w) at rest =
      rw (run_bit) (run_field (item first_marker 1) 35 (λ m. done (cond (eqb m marker_rest) ending (wrong 8))) (at + 1) marker_rest rest (lit< tt) ∙ done_at ending rest _ _ (omega arith))
  end_back (going s) at rest = end_dod _ at rest

  -- ---- many points

  pub rest_long : (g : Progress) (ps : List Point) → 36 ≤ length (rest_bits c g ps)
  unfolding rest_bits marker
  rest_long g [] = omega (arith, length_bits_of 32 0)
  rest_long g (p ∷ ps) = omega (arith, length-append (point_bits c g p) (rest_bits c (going (state_after c g p)) ps), rest_long (going (state_after c g p)) ps)

  module _ (all junk : List Bool) where
    -- a step on bits that go on with the points ps
    step_on : (g g' : Progress) (at : ℕ) (ps : List Point) → drop at all ≡ rest_bits c g ps ++ junk
        → step c g' at all ≡ reached (run_on (read_next c g') at (rest_bits c g ps ++ junk))
    unfolding step
    step_on g g' at ps e =
        let h : at ≤ length all = omega (arith, length-drop at all, ap length e, length-append (rest_bits c g ps) junk, rest_long g ps) in
        ap reached (run_on_lem (read_next c g') at all h ∙ ap (run_on (read_next c g') at) e)

    -- a point's step, and the bits behind it
    step_point : (g : Progress) (w' : Window) (at : ℕ) (p : Point) (ps : List Point) → drop at all ≡ rest_bits c g (p ∷ ps) ++ junk
        → Known g → Agree c (window_in g) w' → Fitting c p → time_fault g p.time ≡ 0
        → step c (seen_as g w') at all ≡ point_at (with_window (state_after c g p) (window_then g w' p)) (at + length (point_bits c g p))
    unfolding rest_bits reached
    step_point g w' at p ps e known a fit ok =
        let rest = rest_bits c (going (state_after c g p)) ps in
        step_on g (seen_as g w') at (p ∷ ps) e
        ∙ ap reached (ap (run_on (read_next c (seen_as g w')) at) (append_assoc (point_bits c g p) rest junk) ∙ point_back g w' at p (rest ++ junk) known a fit ok)

    drop_point : (g : Progress) (at : ℕ) (p : Point) (ps : List Point) → drop at all ≡ rest_bits c g (p ∷ ps) ++ junk
        → drop (at + length (point_bits c g p)) all ≡ rest_bits c (going (state_after c g p)) ps ++ junk
    unfolding rest_bits
    drop_point g at p ps e =
        let rest = rest_bits c (going (state_after c g p)) ps in
        sym (drop-drop (length (point_bits c g p)) at all)
        ∙ ap (drop (length (point_bits c g p))) (e ∙ append_assoc (point_bits c g p) rest junk)
        ∙ drop_at (point_bits c g p) (rest ++ junk) _ refl

    steps_back : (n : ℕ) (g : Progress) (w' : Window) (at : ℕ) (ps : List Point) → drop at all ≡ rest_bits c g ps ++ junk
        → Known g → Agree c (window_in g) w' → Accepted c g ps
        → map answer_of (step c (seen_as g w') at all ∷ outcomes_after c n (step c (seen_as g w') at all) all) ≡ back c (suc n) at g ps
    unfolding outcomes_after next_step reached answer_of back rest_bits
    steps_back n g w' at [] e known a ok =
        rw (step_on g (seen_as g w') at [] e, end_back (seen_as g w') at junk) (ap (λ (l : List Answer). an_end (at + 36) ∷ l) (repeats c n (end_at (at + 36)) all refl))
    steps_back zero g w' at (p ∷ ps) e known a ok =
        rw (step_point g w' at p ps e known a ok.0 ok.1, (after_is g p).0, (after_is g p).1)
    steps_back (suc n) g w' at (p ∷ ps) e known a ok =
        let q = at + length (point_bits c g p) in
        let next = steps_back n (going (state_after c g p)) (window_then g w' p) q ps (drop_point g at p ps e) (rw (after_is g p).1 ok.0.value_fits) (agree_then g w' p a) ok.2 in
        rw (step_point g w' at p ps e known a ok.0 ok.1, next)
        (ap₂ (λ (t v : ℕ). a_point t v q ∷ back c (suc n) q (going (state_after c g p)) ps) (after_is g p).0 (after_is g p).1)

  -- ---- from the start

  start_back : (start : ℕ) (ps : List Point) (junk : List Bool) → start < 2 ^ 64
      → first_step c decoder_window 0 (stream_bits c start ps ++ junk) ≡ step c (begun start decoder_window) 64 (stream_bits c start ps ++ junk)
  unfolding first_step read_start stream_bits start_bits run_on after_start
  start_back start ps junk b =
      let all = stream_bits c start ps ++ junk in
      let r : run read_start 0 all ≡ got start 64 =
      run_on_lem read_start 0 all (omega arith)
      ∙ ap (run_on read_start 0) (append_assoc (bits_of 64 start) (rest_bits c (opened c start) ps) junk)
      ∙ run_field tt 64 (λ x. done x) 0 start (rest_bits c (opened c start) ps ++ junk) b in
      ap (λ (o : Outcome (Unit {0}) ℕ). after_start c decoder_window o all) r

  pub points_come_back : PointsComeBack c
  unfolding answers outcomes back stream_bits start_bits
  points_come_back zero start ps junk b ok = refl
  points_come_back (suc n) start ps junk b ok =
      let all = stream_bits c start ps ++ junk in
      let rest = rest_bits c (opened c start) ps in
      let e : drop 64 all ≡ rest ++ junk = ap (drop 64) (append_assoc (start_bits start) rest junk) ∙ drop_at (start_bits start) (rest ++ junk) 64 (length_bits_of 64 start) in
      rw (start_back start ps junk b)
      (steps_back all junk n (opened c start) decoder_window 64 ps e tt (λ h. let z : ⊥ = omega arith in absurd z) ok)
