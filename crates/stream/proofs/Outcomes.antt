-- The cases of what the calls tell.
use mathlib.Core.Path.{◌≡◌, refl, sym, ap, ◌∙◌}
use mathlib.Core.Bool.{Bool, true, false}
use mathlib.Core.List.{List, [], ◌∷◌}
use Prim.Native.Nat.{ℕ, zero, suc, ◌+◌, ◌-◌, ◌*◌, ◌/◌, ◌^◌, ◌≤◌, ◌<◌}
use native.Mathlib.Decide.{dec_le}
use native.Mathlib.Nat.{min-eq_left, lt_of_not-le}
use native.Mathlib.Omega.{arith}
use borrow.Author.Tests.{ltb-false, lt-ltb, le-ltb}
use lib.ListN.{length, get_or}
use Rattle.stream.specs.Bits.{bits_of, value_of, bits, field, replaced}
use Rattle.stream.specs.Refusals.{number_of, name_of, when, or_else, by_fault}
use Rattle.stream.specs.Calls.{limit, Told, given, refused, tell_bits, width, field_fault, write_of, read_of, peek_of, ahead_of, in_bits_of}
use Rattle.stream.specs.Fits.{fault_of}
use Rattle.stream.specs.Promises.{FieldFaults, Tells}
use Rattle.stream.specs.declared.refusal.Refusal.{Refusal}
use Rattle.stream.specs.declared.refusal.Refusal.TheVariants.{NoRoom, TimeFalls, FirstDelta, DodRange, TooLong, NoStart, CutShort, BadEnd, BadWindow, ReadTimeFalls, ReadTimePasses, Closed, NoFit}
use Rattle.std.specs.Prelude.{cond, Ok, bytes_eq, ⊤}
use Rattle.std.specs.declared.result.Result.{Result}
use Rattle.stream.proofs.Taking.{field_lt}

-- ---- rules in order

-- there is no refusal, or there is one
pub either : {A : Type 0} (k : ℕ) → (0 ≡ k → A) → (0 < k → A) → A
either zero none some = none refl
either (suc k) none some = some (omega arith)

-- where no rule holds, neither of two does
pub none_holds : (a b : ℕ) → 0 ≡ or_else a b → (0 ≡ a) × (0 ≡ b)
unfolding or_else
none_holds zero b e = (refl, e)
none_holds (suc a) b e = absurd (omega arith)

-- the first of two, where it holds, and the second where it does not
pub or_some : (a b : ℕ) → 0 < a → or_else a b ≡ a
unfolding or_else
or_some zero b h = absurd (omega arith)
or_some (suc a) b h = refl

pub or_none : (a b : ℕ) → 0 ≡ a → or_else a b ≡ b
unfolding or_else
or_none a b e = rw (← e)

pub not_when : (b : Bool) (r : ℕ) → 0 < r → 0 ≡ when b r → b ≡ false
unfolding when
not_when true r h e = absurd (omega arith)
not_when false r h e = refl

module _ {A : Type 0} (k : ℕ) (done : A) (refuse : ℕ → A) where
  pub by_none : 0 ≡ k → by_fault k done refuse ≡ done
  unfolding by_fault
  by_none e = rw (← e)

  pub by_some : 0 < k → by_fault k done refuse ≡ refuse k
  unfolding by_fault
  by_some h = some k h
    where
      some : (k : ℕ) → 0 < k → by_fault k done refuse ≡ refuse k
      some zero h = absurd (omega arith)
      some (suc r) h = refl

-- ---- the faults of a field

pub field_faults : FieldFaults
unfolding field_fault when or_else
field_faults short len p n = record {
  too_long = λ a. simp (lt-ltb limit len a);
  no_fit = λ a b. simp (le-ltb limit len a, lt-ltb (8 * len) p b);
  runs_past = λ a b d. simp (le-ltb limit len a, le-ltb (8 * len) p b, lt-ltb (8 * len) (p + n) d);
  there = λ a d. simp (le-ltb limit len a, le-ltb (8 * len) p (omega arith), le-ltb (8 * len) (p + n) d);
}

-- a field with no fault lies in its buffer, which is within the limit
pub fits : (short len p n : ℕ) → 0 < short → 0 ≡ field_fault short len p n → (len ≤ limit) × (p + n ≤ 8 * len)
unfolding field_fault
fits short len p n h e =
    let a = none_holds _ _ e in
    let b = none_holds _ _ a.1 in
    (ltb-false _ _ (not_when _ 5 (omega arith) a.0), ltb-false _ _ (not_when _ short h b.1))

-- ---- numbers of refusals

-- the table's order
refusal_at : ℕ → Refusal
refusal_at n = get_or (NoRoom ∷ TimeFalls ∷ FirstDelta ∷ DodRange ∷ TooLong ∷ NoStart ∷ CutShort ∷ BadEnd ∷ BadWindow ∷ ReadTimeFalls ∷ ReadTimePasses ∷ Closed ∷ NoFit ∷ []) (n - 1) NoRoom

at_number : (r : Refusal) → refusal_at (number_of r) ≡ r
unfolding refusal_at
at_number NoRoom = refl
at_number TimeFalls = refl
at_number FirstDelta = refl
at_number DodRange = refl
at_number TooLong = refl
at_number NoStart = refl
at_number CutShort = refl
at_number BadEnd = refl
at_number BadWindow = refl
at_number ReadTimeFalls = refl
at_number ReadTimePasses = refl
at_number Closed = refl
at_number NoFit = refl

-- a refusal is its number
pub by_number : Tells Refusal ℕ number_of
by_number r s e = sym (at_number r) ∙ ap refusal_at e ∙ at_number s

-- the refusal that a name is of
named : List ℕ → Refusal
named n =
    cond (bytes_eq n (name_of NoRoom)) NoRoom
    (cond (bytes_eq n (name_of TimeFalls)) TimeFalls
    (cond (bytes_eq n (name_of FirstDelta)) FirstDelta
    (cond (bytes_eq n (name_of DodRange)) DodRange
    (cond (bytes_eq n (name_of TooLong)) TooLong
    (cond (bytes_eq n (name_of NoStart)) NoStart
    (cond (bytes_eq n (name_of CutShort)) CutShort
    (cond (bytes_eq n (name_of BadEnd)) BadEnd
    (cond (bytes_eq n (name_of BadWindow)) BadWindow
    (cond (bytes_eq n (name_of ReadTimeFalls)) ReadTimeFalls
    (cond (bytes_eq n (name_of ReadTimePasses)) ReadTimePasses
    (cond (bytes_eq n (name_of Closed)) Closed
    NoFit)))))))))))

at_name : (r : Refusal) → named (name_of r) ≡ r
unfolding named
at_name NoRoom = refl
at_name TimeFalls = refl
at_name FirstDelta = refl
at_name DodRange = refl
at_name TooLong = refl
at_name NoStart = refl
at_name CutShort = refl
at_name BadEnd = refl
at_name BadWindow = refl
at_name ReadTimeFalls = refl
at_name ReadTimePasses = refl
at_name Closed = refl
at_name NoFit = refl

-- a refusal is its name too
pub by_name : Tells Refusal (List ℕ) name_of
by_name r s e = sym (at_name r) ∙ ap named e ∙ at_name s

-- which is not 0
pub number_pos : (r : Refusal) → 0 < number_of r
unfolding refusal_at
number_pos r =
    either (number_of r)
    (λ none. let one : number_of r ≡ 1 = ap number_of (sym (at_number r) ∙ ap refusal_at (sym none)) in absurd (omega arith))
    (λ some. some)

-- ---- the place behind some bytes

pub place_there : (n : ℕ) → n ≤ limit → in_bits_of n ≡ given (8 * n ∷ [])
unfolding in_bits_of by_fault when
place_there n h = simp (le-ltb limit n h)

pub place_beyond : (n : ℕ) → limit < n → in_bits_of n ≡ refused 5
unfolding in_bits_of by_fault when
place_beyond n h = simp (lt-ltb limit n h)

-- ---- calls

-- a field that fits has no fault
pub no_fault : (f : Result ⊤ Refusal) (k : ℕ) (u : ⊤) → f ≡ Ok u → fault_of f ≡ k → 0 ≡ k
no_fault f k u e h = sym (ap fault_of e) ∙ h

module _ (l : List ℕ) (p x num n : ℕ) (e : n ≡ width num) where
  pub wrote_not : (r : Refusal) → number_of r ≡ field_fault 1 (length l) p n → (refused (number_of r), p, bits l) ≡ write_of l p x num
  unfolding write_of
  wrote_not r f = rw (← e, ← f) (sym (by_some (number_of r) _ _ (number_pos r)))

  pub wrote : (m : List Bool) → 0 ≡ field_fault 1 (length l) p n → m ≡ replaced (bits l) p (bits_of n x)
      → (given [], p + n, m) ≡ write_of l p x num
  unfolding write_of by_fault
  wrote m f h = rw (← e, ← f, h)

module _ (l : List ℕ) (p num n : ℕ) (e : n ≡ width num) where
  pub read_not : (r : Refusal) → number_of r ≡ field_fault 7 (length l) p n → (refused (number_of r), p) ≡ read_of l p num
  unfolding read_of
  read_not r f = rw (← e, ← f) (sym (by_some (number_of r) _ _ (number_pos r)))

  pub read_there : (v : ℕ) → 0 ≡ field_fault 7 (length l) p n → v ≡ value_of (field (bits l) p n) → (given (v ∷ []), p + n) ≡ read_of l p num
  unfolding read_of by_fault
  read_there v f h = rw (← e, ← f, h)

-- ---- a field of at most 64 bits in a buffer within the limit

module _ (l : List ℕ) (p n : ℕ) (few : n ≤ 64) (short : length l ≤ limit) where
  pub write_is : (x : ℕ) → p + n ≤ 8 * length l → write_of l p x n ≡ (given [], p + n, replaced (bits l) p (bits_of n x))
  unfolding write_of by_fault
  write_is x h = rw (min-eq_left few, (field_faults 1 (length l) p n).there short h)

  pub read_is : p + n ≤ 8 * length l → read_of l p n ≡ (given (value_of (field (bits l) p n) ∷ []), p + n)
  unfolding read_of by_fault
  read_is h = rw (min-eq_left few, (field_faults 7 (length l) p n).there short h)

  pub read_none : 8 * length l < p + n → read_of l p n ≡ (refused (field_fault 7 (length l) p n), p)
  unfolding read_of
  read_none h =
      let some : 0 < field_fault 7 (length l) p n =
      either (field_fault 7 (length l) p n) (λ none. absurd (omega (arith, fits 7 (length l) p n (omega arith) none))) (λ k. k)
      in rw (min-eq_left few) (by_some _ _ _ some)

-- the answer by its case
pub told_as : (l : List ℕ) (p num q : ℕ) (a b : Result ℕ Refusal) → a ≡ b → (tell_bits a, q) ≡ read_of l p num → (tell_bits b, q) ≡ read_of l p num
told_as l p num q a b e h = sym (ap (λ (x : Result ℕ Refusal). (tell_bits x, q)) e) ∙ h

-- a number that was read has no more digits than were asked for
got_lt : (k p q v r n x : ℕ) → (given (v ∷ []), r) ≡ by_fault {A = Told × ℕ} k (given (x ∷ []), q) (λ r. (refused r, p)) → x < 2 ^ n → v < 2 ^ n
unfolding by_fault
got_lt zero p q v r n x e h =
    let t : given (v ∷ []) ≡ given (x ∷ []) = ap (λ (o : Told × ℕ). o.0) e in
    let z : v ≡ x = cc in
    rw z h
got_lt (suc k) p q v r n x e h =
    let t : given (v ∷ []) ≡ refused (suc k) = ap (λ (o : Told × ℕ). o.0) e in
    let z : ◌≡◌ {A = ℕ} 0 1 = cc in
    absurd (omega arith)

pub read_lt : (l : List ℕ) (p num v q : ℕ) → (given (v ∷ []), q) ≡ read_of l p num → v < 2 ^ width num
unfolding read_of
read_lt l p num v q e = got_lt _ _ _ _ _ _ _ e (field_lt (bits l) p (width num))

-- a peek tells what a read tells, and stays
pub peeked : (l : List ℕ) (p num q : ℕ) (a : Told) → (a, q) ≡ read_of l p num → (a, p) ≡ peek_of l p num
unfolding peek_of
peeked l p num q a e = ap (λ (o : Told × ℕ). (o.0, p)) e

-- ---- the next 64 bits

module _ (l : List ℕ) (p : ℕ) where
  pub ahead_is : p / 8 + 9 ≤ length l → ahead_of l p ≡ given (value_of (field (bits l) p 64) ∷ [])
  unfolding ahead_of
  ahead_is h = rw (le-ltb (length l) (p / 8 + 9) h)

  pub ahead_none : length l < p / 8 + 9 → ahead_of l p ≡ given []
  unfolding ahead_of
  ahead_none h = rw (lt-ltb (length l) (p / 8 + 9) h)

  -- a word that is told is there, and is theirs
  pub ahead_there : (w : ℕ) → given (w ∷ []) ≡ ahead_of l p → (p / 8 + 9 ≤ length l) × (w ≡ value_of (field (bits l) p 64))
  ahead_there w e = elim (dec_le (p / 8 + 9) (length l)) [
    | yes h ↦ let o = e ∙ ahead_is h in let x : w ≡ value_of (field (bits l) p 64) = cc in (h, x)
    | no h ↦ let o = e ∙ ahead_none (lt_of_not-le h) in let z : ◌≡◌ {A = ℕ} 0 1 = cc in absurd (omega arith)
  ]
