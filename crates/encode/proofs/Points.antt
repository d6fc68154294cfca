-- The code of a point, by its cases.
use mathlib.Core.Path.{◌≡◌, refl, sym, ap, ◌∙◌, subst}
use mathlib.Core.Bool.{Bool, true, false, cond}
use mathlib.Core.List.{List, [], ◌∷◌, ◌++◌}
use Prim.Native.Nat.{ℕ, ◌-◌, ◌^◌, ◌≤◌, ◌<◌}
use native.Mathlib.Nat.{mod-eq_of_lt, zero-add}
use native.Mathlib.Omega.{arith}
use borrow.Author.Tests.{lt-ltb, le-ltb, ltb-false}
use lib.Bits.{bit_xor}
use lib.IntN.{ℤ, sub_ℕ}
use lib.ListN.{length, take, drop, length-append}
use lib.Seq.{take_at, drop_at}
use mir.Syntax.{w64}
use mir.Val.{to_z, of_z}
use mir.Facts.{to_z-of_z}
use Rattle.std.specs.Prelude.{Ok, Err, Some, None}
use Rattle.std.specs.Option.{ok_or}
use Rattle.std.specs.declared.option.Option.{Option}
use Rattle.std.specs.declared.result.Result.{Result}
use Rattle.stream.specs.Bits.{bits_of, value_of}
use Rattle.stream.specs.declared.refusal.Refusal.{Refusal}
use Rattle.stream.specs.Calls.{given, refused}
use Rattle.stream.proofs.Numbers.{length_bits_of, value_bits_of, bits_of_join}
use Rattle.stream.proofs.Outcomes.{by_none, by_some, number_pos}
use Rattle.layout.specs.declared.Window.{Window}
use Rattle.layout.specs.Windows.{xor_bits, window_after}
use Rattle.layout.specs.declared.State.{State}
use Rattle.layout.specs.Writing.{Point, state, Progress, dod_of, in_range, time_fault, dod_bits, first_bits, later_bits, point_bits, first_state, later_state, state_after}
use Rattle.layout.proofs.Tests.{by_bool, unmet}
use Rattle.encode.specs.declared.code.PointCode.{PointCode}
use Rattle.encode.specs.declared.last.Last.{Last}
use Rattle.encode.specs.States.{Enc, kept, progress_by, progress, last_of, progress_in}
use Rattle.encode.specs.Codes.{tell_point, tell_code, numbers, xor_digits, digits_in, code_of}
use Rattle.encode.specs.Promises.{TimeFault}
use Rattle.encode.specs.Parts.{dod_for, word_of, words, Holds, Coded, Meets}
use Rattle.encode.proofs.Values.{none}
use Rattle.encode.proofs.Signs.{range_fits}

-- ---- a code that holds some bits is told as their numbers

module _ (k : PointCode) (bs : List Bool) (n : ℕ) (w : Window) (h : Holds k bs n w) where
  size_is : length bs - n ≡ k.head.len
  unfolding words word_of
  size_is =
      let all : length bs ≡ length (word_of k.head ++ word_of k.digits) = ap length (sym h.held) in
      omega (arith, all, h.size, length-append (word_of k.head) (word_of k.digits), length_bits_of k.head.len k.head.bits, length_bits_of k.digits.len k.digits.bits)

  head_is : take (length bs - n) bs ≡ word_of k.head
  unfolding words word_of
  head_is = rw (size_is, ← h.held) (take_at (word_of k.head) (word_of k.digits) k.head.len (length_bits_of k.head.len k.head.bits))

  digits_is : drop (length bs - n) bs ≡ word_of k.digits
  unfolding words word_of
  digits_is = rw (size_is, ← h.held) (drop_at (word_of k.head) (word_of k.digits) k.head.len (length_bits_of k.head.len k.head.bits))

  number_is : (m x : ℕ) (l : List Bool) → x < 2 ^ m → l ≡ bits_of m x → x ≡ value_of l
  number_is m x l b e = sym (ap value_of e ∙ value_bits_of m x ∙ mod-eq_of_lt b)

  pub coded : tell_point k ≡ given (numbers bs n w)
  unfolding word_of
  coded =
      let a = number_is _ _ _ h.head.1 head_is in
      let s = sym size_is in
      let b = number_is _ _ _ h.digits.1 digits_is in
      let z = h.size in
      let v = h.window in
      λ i. given (a i ∷ s i ∷ b i ∷ z i ∷ (v i).lead ∷ (v i).trail ∷ [])

-- ---- so what meets a point is told as its code

pub meets_told : (g : Progress) (p : Point) (a : Result PointCode Refusal) → Meets g p a → tell_code a ≡ code_of 6 g p
unfolding Meets code_of
meets_told g p (Ok k) m = coded k _ _ _ m.1 ∙ sym (by_none (time_fault g p.time) _ refused m.0)
meets_told g p (Err r) m = ap refused m ∙ sym (by_some (time_fault g p.time) _ refused (rw (← m) (number_pos r)))

-- ---- the faults of a time

module _ (s : State) (t : ℕ) where
  pub time_faults : TimeFault s t
  unfolding progress_by time_fault
  time_faults = record {
    time_falls = λ first h. by_bool (λ (f : Bool). time_fault (progress_by f s) t ≡ 2) first (λ e. rw (lt-ltb t s.time h)) (λ e. rw (lt-ltb t s.time h));
    first_delta = λ h g. rw (le-ltb t s.time h, lt-ltb 16383 (t - s.time) g);
    first_taken = λ h g. rw (le-ltb t s.time h, le-ltb 16383 (t - s.time) g);
    dod_range = λ h g. rw (le-ltb t s.time h, g);
    dod_taken = λ h g. rw (le-ltb t s.time h, g);
  }

-- the same as a refusal's number
module _ (s : State) (t : ℕ) where
  pub falls : (first : Bool) → t < s.time → 2 ≡ time_fault (progress_by first s) t
  falls first h = sym ((time_faults s t).time_falls first h)

  pub first_far : s.time ≤ t → 16383 < t - s.time → 3 ≡ time_fault (progress_by true s) t
  first_far h g = sym ((time_faults s t).first_delta h g)

  pub later_out : s.time ≤ t → in_range (dod_of s t) ≡ false → 4 ≡ time_fault (progress_by false s) t
  later_out h g = sym ((time_faults s t).dod_range h g)

-- ---- a first point

-- the control bit 0 and the delta
first_word : (d : ℕ) → d ≤ 16383 → bits_of 15 d ≡ false ∷ bits_of 14 d
first_word d h = ap (bits_of 15) (sym (zero-add d)) ∙ bits_of_join 1 14 0 d (omega arith) ∙ ap (λ (l : List Bool). l ++ bits_of 14 d) none

abbrev first_code : State → Point → PointCode
first_code s p =
    record { head = record { bits = p.time - s.time; len = 15 }; digits = record { bits = p.value; len = 64 }; window = s.window }

module _ (s : State) (p : Point) where
  first_holds : p.value < 2 ^ 64 → p.time - s.time ≤ 16383
      → Holds (first_code s p) (point_bits 6 (progress_by true s) p) (digits_in 6 (progress_by true s) p) (state_after 6 (progress_by true s) p).window
  unfolding words word_of progress_by point_bits first_bits digits_in state_after first_state
  first_holds b g = record {
    head = (omega arith, omega arith);
    digits = (omega arith, b);
    size = refl;
    held = rw (first_word (p.time - s.time) g);
    window = refl;
  }

  pub first_coded : s.time ≤ p.time → p.value < 2 ^ 64 → p.time - s.time ≤ 16383 → Coded (progress_by true s) p (first_code s p)
  first_coded h b g = (sym ((time_faults s p.time).first_taken h g), first_holds b g)

-- ---- a later point

-- what `ok_or` makes of a dod
pub ok_is : (o : Option ℤ) (r : Refusal) (z : ℤ) → ok_or o r ≡ Ok z → Some z ≡ o
ok_is None r z e = cc
ok_is (Some y) r z e = cc

pub err_is : (o : Option ℤ) (r s : Refusal) → ok_or o r ≡ Err s → (o ≡ None) × (s ≡ r)
err_is None r s e = (refl, cc)
err_is (Some y) r s e = (cc, cc)

-- a dod, if it is in range
none_is : (b : Bool) (d : ℤ) → None ≡ cond b (Some d) None → b ≡ false
none_is true d e = cc
none_is false d e = refl

some_is : (b : Bool) (d z : ℤ) → Some z ≡ cond b (Some d) None → (b ≡ true) × (z ≡ d)
some_is true d z e = (refl, cc)
some_is false d z e = (cc, cc)

pub dod_out : (delta previous : ℕ) → None ≡ dod_for delta previous → in_range (sub_ℕ delta previous) ≡ false
unfolding dod_for
dod_out delta previous o = none_is _ _ o

module _ (delta previous : ℕ) (z : ℤ) (e : Some z ≡ dod_for delta previous) where
  is_in : (in_range (sub_ℕ delta previous) ≡ true) × (z ≡ sub_ℕ delta previous)
  unfolding dod_for
  is_in = some_is _ _ _ e

  -- its bits are those of the number
  machine_is : to_z w64 (of_z w64 z) ≡ sub_ℕ delta previous
  machine_is = to_z-of_z (range_fits z (ap in_range is_in.1 ∙ is_in.0)) ∙ is_in.1

  pub machine_in : in_range (to_z w64 (of_z w64 z)) ≡ true
  machine_in = ap in_range machine_is ∙ is_in.0

pub later_coded : (s : State) (p : Point) (k : PointCode) (time : List Bool) (z : ℤ) → s.time ≤ p.time → Some z ≡ dod_for (p.time - s.time) s.delta
    → time ≡ dod_bits (to_z w64 (of_z w64 z))
    → Holds k (time ++ xor_bits 6 s.window (bit_xor p.value s.value)) (xor_digits 6 s.window (bit_xor p.value s.value)) (window_after 6 s.window (bit_xor p.value s.value))
    → Coded (progress_by false s) p k
unfolding progress_by point_bits later_bits digits_in state_after later_state
later_coded s p k time z h i m o =
    let d : time ≡ dod_bits (dod_of s p.time) = m ∙ ap dod_bits (machine_is _ _ z i) in
    (sym ((time_faults s p.time).dod_taken h (is_in _ _ z i).0), rw d at o)

-- ---- a point whose time is accepted

pub rises : (f : Bool) (s : State) (t : ℕ) → 0 ≡ time_fault (progress_by f s) t → s.time ≤ t
unfolding progress_by time_fault
rises true s t z = ltb-false _ _ (unmet _ 1 _ (sym z)).0
rises false s t z = ltb-false _ _ (unmet _ 1 _ (sym z)).0

-- the state after it, but for the window
state_by : (f : Bool) (s : State) (p : Point)
    → state p.time (p.time - s.time) p.value (state_after 6 (progress_by f s) p).window ≡ state_after 6 (progress_by f s) p
unfolding progress_by state_after first_state later_state
state_by true s p = refl
state_by false s p = refl

pub state_is : (e : Enc) (p : Point) → state p.time (p.time - e.time) p.value (state_after 6 (progress e) p).window ≡ state_after 6 (progress e) p
state_is e p = state_by e.first (kept e) p

-- ---- by what an encoder keeps of the last point

module _ (e : Enc) (k : Last) (h : k ≡ last_of e) (p : Point) where
  -- the answer in its case
  pub last_meets : (a b : Result PointCode Refusal) → Meets (progress_in k) p a → a ≡ b → Meets (progress e) p b
  last_meets a b m f = subst (λ (x : Result PointCode Refusal). Meets (progress e) p x) f (subst (λ (x : Last). Meets (progress_in x) p a) h m)
