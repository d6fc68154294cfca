-- The cases of the calls' outcomes, and what a state that stands is.
use mathlib.Core.Path.{◌≡◌, sym, ap, ◌∙◌}
use mathlib.Core.Bool.{Bool, true, false}
use mathlib.Core.List.{List, [], ◌∷◌}
use Prim.Native.Nat.{ℕ, ◌+◌, ◌-◌, ◌*◌, ◌≤◌, ◌<◌}
use native.Mathlib.Omega.{arith}
use borrow.Author.Tests.{ltb-false, eqb-true, le-ltb, lt-ltb, eq-eqb, ne_eqb, not-false}
use lib.ListN.{length, length-append}
use Rattle.std.specs.Prelude.{Err, ⊤}
use Rattle.std.specs.declared.result.Result.{Result}
use Rattle.stream.specs.Bits.{bits_of, value_of, bits, bytes_for, replaced}
use Rattle.stream.specs.Refusals.{number_of, when, or_else}
use Rattle.stream.specs.Calls.{limit, Told, given, refused, tell, write_of}
use Rattle.stream.specs.Fits.{fault_of}
use Rattle.stream.specs.declared.refusal.Refusal.{Refusal}
use Rattle.stream.specs.declared.refusal.Refusal.TheVariants.{NoRoom}
use Rattle.stream.proofs.Numbers.{length_bits_of, bits_of_value}
use Rattle.stream.proofs.Writes.{writes_leave}
use Rattle.stream.proofs.Outcomes.{none_holds, not_when, or_some, or_none, by_none, by_some, number_pos, write_is}
use Rattle.layout.specs.Windows.{window, bad_window}
use Rattle.layout.specs.Writing.{Point, state, time_fault, start_bits, marker, point_bits, state_after}
use Rattle.layout.proofs.Tests.{neither}
use Rattle.encode.specs.declared.code.Code.{Code}
use Rattle.encode.specs.declared.code.PointCode.{PointCode}
use Rattle.encode.specs.States.{Enc, enc, progress}
use Rattle.encode.specs.Calls.{Outcome, no_values, tell_encode, no_fit, standing, room_fault, point_fault, open_fault, fresh, shut, open_of, after, encode_of, marked, close_of}
use Rattle.encode.specs.Promises.{OpenFault, Misfit, StandingFault, PointFault}
use Rattle.encode.specs.Parts.{word_of, words, Coded}
use Rattle.encode.proofs.Points.{state_is}

-- ---- 12 and 13

module _ (c : ℕ) (e : Enc) (n : ℕ) where
  -- a state that stands
  pub record Stands : Type 0 where
    pub same : n ≡ e.len
    pub small : e.len ≤ limit
    pub begun : 64 ≤ e.at
    pub room : e.at + 36 ≤ 8 * e.len
    pub window : bad_window c e.window ≡ false

  pub stands_as : 0 ≡ standing c e n → Stands
  unfolding standing no_fit
  stands_as z =
      let a = none_holds _ _ z in
      let h₁ = neither _ _ (not_when _ 13 (omega arith) a.1) in
      let h₂ = neither _ _ h₁.1 in
      let h₃ = neither _ _ h₂.1 in
      let h₄ = neither _ _ h₃.1 in
      record {
        same = eqb-true _ _ (not-false _ h₁.0);
        small = ltb-false _ _ h₂.0;
        begun = ltb-false _ _ h₃.0;
        room = ltb-false _ _ h₄.0;
        window = h₄.1;
      }

  pub misfits : Misfit c e n
  unfolding no_fit
  misfits = record {
    other_length = λ a. simp (ne_eqb n e.len a);
    too_long = λ a b. simp (eq-eqb n e.len a, lt-ltb limit e.len b);
    too_early = λ a b d. simp (eq-eqb n e.len a, le-ltb limit e.len b, lt-ltb e.at 64 d);
    too_late = λ a b d f. simp (eq-eqb n e.len a, le-ltb limit e.len b, le-ltb e.at 64 d, lt-ltb (8 * e.len) (e.at + 36) f);
    otherwise = λ a b d f. simp (eq-eqb n e.len a, le-ltb limit e.len b, le-ltb e.at 64 d, le-ltb (8 * e.len) (e.at + 36) f);
  }

  pub standing_faults : StandingFault c e n
  unfolding standing when or_else
  standing_faults = record {
    closed = λ h. rw h;
    misfit = λ h g. rw (g, h);
    stands = λ h g. rw (g, h);
  }

pub not_closed : (e : Enc) (n : ℕ) → 0 ≡ standing 6 e n → e.closed ≡ false
unfolding standing
not_closed e n z = not_when _ 12 (omega arith) (none_holds _ _ z).0

-- what the private test answers
pub is_refused : (s : Result ⊤ Refusal) (k : ℕ) (r : Refusal) → fault_of s ≡ k → s ≡ Err r → number_of r ≡ k
is_refused s k r e h = sym (ap fault_of h) ∙ e

-- ---- outcomes

-- what is refused is told by its number, and leaves the bits as they are
pub told_refused : {A : Type 0} (values : A → List ℕ) (a : Result A Refusal) (v e : Enc) (r : Refusal) (bs : List Bool) → (a ≡ Err r) × (v ≡ e)
    → ◌≡◌ {A = Outcome} (tell values a, v, bs) (refused (number_of r), e, bs)
told_refused values a v e r bs h = λ i. (tell values (h.0 i), h.1 i, bs)

module _ (c : ℕ) (e : Enc) (n : ℕ) (bs : List Bool) where
  module _ (p : Point) where
    -- by what the state and the time are refused with
    by_room : 0 ≡ standing c e n → 0 ≡ time_fault (progress e) p.time → point_fault c e n p ≡ room_fault e (point_bits c (progress e) p)
    unfolding point_fault
    by_room z y = or_none (standing c e n) _ z ∙ or_none (time_fault (progress e) p.time) _ y

    pub point_faults : PointFault c e n p
    unfolding point_fault room_fault when
    point_faults = record {
      first = λ h. or_some (standing c e n) _ h;
      time = λ z h. or_none (standing c e n) _ (sym z) ∙ or_some (time_fault (progress e) p.time) _ h;
      no_room = λ z y h. by_room (sym z) (sym y) ∙ rw (lt-ltb (8 * e.len) (e.at + length (point_bits c (progress e) p) + 36) h);
      none = λ z y h. by_room (sym z) (sym y) ∙ rw (le-ltb (8 * e.len) (e.at + length (point_bits c (progress e) p) + 36) h);
    }

    pub encode_refused : (r : Refusal) → number_of r ≡ point_fault c e n p → (refused (number_of r), e, bs) ≡ encode_of c e n bs p
    unfolding encode_of
    encode_refused r h = rw (← h) (sym (by_some (number_of r) _ _ (number_pos r)))

    -- 12 or 13
    pub refused_standing : (r : Refusal) → number_of r ≡ standing c e n → (refused (number_of r), e, bs) ≡ encode_of c e n bs p
    refused_standing r h = encode_refused r (h ∙ sym (point_faults.first (rw (← h) (number_pos r))))

    -- 2, 3 or 4
    pub refused_time : (r : Refusal) → 0 ≡ standing c e n → number_of r ≡ time_fault (progress e) p.time → (refused (number_of r), e, bs) ≡ encode_of c e n bs p
    refused_time r z h = encode_refused r (h ∙ sym (point_faults.time (sym z) (rw (← h) (number_pos r))))

    pub accepted : point_fault c e n p ≡ 0 → encode_of c e n bs p ≡ (given [], after c e p, replaced bs e.at (point_bits c (progress e) p))
    unfolding encode_of
    accepted h = by_none (point_fault c e n p) _ _ (sym h)

  -- ---- closing

  pub close_refused : (r : Refusal) → number_of r ≡ standing c e n → (refused (number_of r), e, bs) ≡ close_of c e n bs
  unfolding close_of
  close_refused r h = rw (← h) (sym (by_some (number_of r) _ _ (number_pos r)))

-- ---- writing

-- what is told of a write for which there is room
pub wrote_there : (l : List ℕ) (m : List Bool) (t : Told) (p q x n : ℕ) → (t, q, m) ≡ write_of l p x n → length l ≤ limit → n ≤ 64 → p + n ≤ 8 * length l
    → (q ≡ p + n) × (m ≡ replaced (bits l) p (bits_of n x))
wrote_there l m t p q x n e a b d =
    let done = e ∙ write_is l p n b a x d in
    (ap (λ (o : Told × ℕ × List Bool). o.1) done, ap (λ (o : Told × ℕ × List Bool). o.2) done)

-- a point's head, then its digits, are one field
pub put_both : (bs m m' : List Bool) (p q : ℕ) (k : PointCode) → p ≤ length bs → q ≡ p + k.head.len → m ≡ replaced bs p (word_of k.head)
    → m' ≡ replaced m q (word_of k.digits) → m' ≡ replaced bs p (words k)
unfolding words word_of
put_both bs m m' p q k h e f g =
    let at : q ≡ p + length (word_of k.head) = e ∙ ap (λ (j : ℕ). p + j) (sym (length_bits_of k.head.len k.head.bits)) in
    rw (g, f, at) ((writes_leave bs p (word_of k.head) h).two (word_of k.digits))

-- ---- a point that is written

length_words : (k : PointCode) → length (words k) ≡ k.head.len + k.digits.len
unfolding words word_of
length_words k = simp (length-append, length_bits_of)

module _ (e : Enc) (n : ℕ) (bs : List Bool) (p : Point) (k : PointCode) (z : 0 ≡ standing 6 e n) (d : Coded (progress e) p k) where
  size_is : length (point_bits 6 (progress e) p) ≡ k.head.len + k.digits.len
  size_is = ap length (sym d.1.held) ∙ length_words k

  pub no_room : (a : Result ⊤ Refusal) (v : Enc) → (a ≡ Err NoRoom) × (v ≡ e) → 8 * e.len < e.at + (k.head.len + k.digits.len) + 36
      → (tell_encode a, v, bs) ≡ encode_of 6 e n bs p
  no_room a v f h =
      told_refused no_values a v e NoRoom bs f ∙ encode_refused 6 e n bs p NoRoom (sym ((point_faults 6 e n bs p).no_room (sym z) (sym d.0) (rw size_is h)))

  pub written : (q : ℕ) (m : List Bool) → q ≡ e.at + (k.head.len + k.digits.len) → e.at + (k.head.len + k.digits.len) + 36 ≤ 8 * e.len
      → m ≡ replaced bs e.at (words k)
      → (given [], enc e.len q (state p.time (p.time - e.time) p.value k.window) false e.closed, m) ≡ encode_of 6 e n bs p
  unfolding after
  written q m f h g =
      let place : q ≡ e.at + length (point_bits 6 (progress e) p) = rw size_is f in
      let kept : state p.time (p.time - e.time) p.value k.window ≡ state_after 6 (progress e) p = rw d.1.window (state_is e p) in
      let put : m ≡ replaced bs e.at (point_bits 6 (progress e) p) = rw d.1.held at g in
      let done : ◌≡◌ {A = Outcome}
      (given [], enc e.len q (state p.time (p.time - e.time) p.value k.window) false e.closed, m)
      (given [], after 6 e p, replaced bs e.at (point_bits 6 (progress e) p)) = λ i. (given [], enc e.len (place i) (kept i) false (not_closed e n z i), put i) in
      done ∙ sym (accepted 6 e n bs p ((point_faults 6 e n bs p).none (sym z) (sym d.0) (rw size_is h)))

-- ---- the two ends

pub open_faults : (n : ℕ) → OpenFault n
unfolding open_fault when or_else
open_faults n = record {
  too_long = λ a. simp (lt-ltb limit n a);
  no_room = λ a b. simp (le-ltb limit n a, lt-ltb n 13 b);
  opens = λ a b. simp (le-ltb limit n a, le-ltb n 13 b);
}

module _ (start n : ℕ) (bs : List Bool) where
  pub open_refused : (r : Refusal) → open_fault n ≡ number_of r → (refused (number_of r), shut, bs) ≡ open_of 6 start n bs
  unfolding open_of
  open_refused r h = rw h (sym (by_some (number_of r) _ _ (number_pos r)))

  pub opened : (len at : ℕ) (m : List Bool) → open_fault n ≡ 0 → len ≡ n → at ≡ 64 → m ≡ replaced bs 0 (bits_of 64 start)
      → (given [], enc len at (state start 0 0 (window 64 64)) true false, m) ≡ open_of 6 start n bs
  unfolding open_of fresh start_bits
  opened len at m z f g h = rw (f, g, h) (sym (by_none (open_fault n) _ _ (sym z)))

pub length_marker : length marker ≡ 36
unfolding marker
length_marker = simp length_bits_of

pub closes : (e : Enc) (n q b : ℕ) (k : Code) (bs m : List Bool) → 0 ≡ standing 6 e n → k.bits ≡ value_of marker → k.len ≡ length marker → q ≡ e.at + k.len → b ≡ bytes_for q
    → m ≡ replaced bs e.at (word_of k) → (given (q ∷ b ∷ []), marked e, m) ≡ close_of 6 e n bs
unfolding close_of word_of
closes e n q b k bs m z v l f g h =
    let at : q ≡ e.at + 36 = omega (arith, f, l, length_marker) in
    let word : bits_of k.len k.bits ≡ marker = rw (v, l) (bits_of_value marker) in
    rw (g, at, h, word) (sym (by_none (standing 6 e n) _ _ z))
