-- Zeros that wait: a repeated point is two of them, and what is written later is what the offers would have written.
use mathlib.Core.Path.{◌≡◌, refl, sym, ap, ap₂, ◌∙◌}
use mathlib.Core.Bool.{Bool, false}
use mathlib.Core.List.{List, [], ◌∷◌, ◌++◌}
use Prim.Native.Nat.{ℕ, ◌+◌, ◌-◌, ◌*◌, ◌≤◌, ◌<◌, min}
use native.Mathlib.Nat.{add-zero, add_assoc, le_refl}
use native.Mathlib.Omega.{arith}
use borrow.Author.Tests.{le-ltb}
use lib.Bits.{xor_self}
use lib.IntN.{pos, sub_ℕ}
use lib.ListN.{length, drop, get_or}
use Rattle.std.specs.Prelude.{Ok, Err}
use Rattle.stream.specs.Bits.{odd, bits_of, bits, replaced}
use Rattle.stream.specs.Calls.{given, refused}
use Rattle.stream.specs.Refusals.{number_of}
use Rattle.stream.specs.declared.refusal.Refusal.{Refusal}
use Rattle.stream.proofs.Numbers.{length_bits_of, bits_of_join}
use Rattle.stream.proofs.Bytes.{length_bits}
use Rattle.stream.proofs.Writes.{writes_leave}
use Rattle.layout.specs.Rows.{within}
use Rattle.layout.specs.declared.Window.{Window}
use Rattle.layout.specs.Windows.{xor_bits, window_after}
use Rattle.layout.specs.Writing.{Point, point_of, state, time_fault, dod_bits, later_bits, point_bits, later_state, state_after}
use Rattle.encode.specs.States.{Enc, enc, kept, progress_by, progress}
use Rattle.encode.specs.Calls.{Outcome, standing, after, encode_of}
use Rattle.encode.specs.Lists.{pairs, Packing, packs_of}
use Rattle.encode.specs.Parts.{ahead, zeroed, Repeats, all_taken}
use Rattle.encode.proofs.CallLaws.{not_closed, stands_as, misfits, standing_faults, point_faults, accepted, refused_standing}
use Rattle.encode.proofs.Packs.{later, none_before, pairs_out, stopped, all_taken_lem}
use Rattle.encode.proofs.Packs as packs

-- ---- states that stand

-- further on too, while there is room for the marker
pub ahead_stands : (t z n : ℕ) (e : Enc) → 0 ≡ standing 6 e n → e.at + z + 36 ≤ 8 * e.len → 0 ≡ standing 6 (ahead t z e) n
unfolding ahead
ahead_stands t z n e h r =
    let s = stands_as 6 e n h in
    sym ((standing_faults 6 (ahead t z e) n).stands (not_closed e n h)
    ((misfits 6 (ahead t z e) n).otherwise s.same s.small (omega (arith, s.begun)) r ∙ s.window))

-- on a buffer of the same length
pub moved_stands : (e : Enc) (n m : ℕ) → 0 ≡ standing 6 e n → m ≡ n → 0 ≡ standing 6 e m
moved_stands e n m h k = h ∙ ap (standing 6 e) (sym k)

-- the place of a state that stands lies in the buffer
pub within_bits : (e : Enc) (n : ℕ) (l : List ℕ) → 0 ≡ standing 6 e n → length l ≡ n → e.at ≤ length (bits l)
within_bits e n l h k = let s = stands_as 6 e n h in rw length_bits (omega (arith, s.same, s.room, k))

-- ---- no zeros

ahead_none : (e : Enc) → ahead e.time 0 e ≡ e
unfolding ahead
ahead_none e = λ i. enc e.len (add-zero e.at i) (kept e) e.first e.closed

zeroed_none : (bs : List Bool) (q : ℕ) → zeroed bs q 0 ≡ bs
unfolding zeroed replaced bits_of
zeroed_none bs q = refl

-- ---- a repeated point

same_dod : (d : ℕ) → sub_ℕ d d ≡ pos 0
same_dod d = let e : d - d ≡ 0 = omega arith in rw (le-ltb d d (le_refl d), e)

module _ (first : Bool) (t₀ d v₀ : ℕ) (w : Window) (t v : ℕ) (f : first ≡ false) (s : v ≡ v₀) (a : t - t₀ ≡ d) where
  repeated_bits : point_bits 6 (progress_by first (state t₀ d v₀ w)) (point_of t v) ≡ false ∷ false ∷ []
  unfolding progress_by point_bits later_bits dod_bits xor_bits
  repeated_bits = rw (f, s, a, same_dod d, xor_self v₀)

  repeated_state : state_after 6 (progress_by first (state t₀ d v₀ w)) (point_of t v) ≡ state t d v₀ w
  unfolding progress_by state_after later_state window_after
  repeated_state = rw (f, s, a, xor_self v₀)

  repeated_time : t₀ ≤ t → time_fault (progress_by first (state t₀ d v₀ w)) t ≡ 0
  unfolding progress_by time_fault within
  repeated_time h = rw (f, le-ltb t t₀ h, a, same_dod d)

module _ (e : Enc) (n : ℕ) (p : Point) (z : 0 ≡ standing 6 e n) (r : Repeats e e.time p) where
  bits_are : point_bits 6 (progress e) p ≡ false ∷ false ∷ []
  bits_are = repeated_bits _ _ _ _ _ _ _ r.later r.value r.delta

  after_is : after 6 e p ≡ ahead p.time 2 e
  unfolding after ahead
  after_is =
      let s = repeated_state _ _ _ _ e.window _ _ r.later r.value r.delta in
      let first = sym r.later in
      let closed = sym (not_closed e n z) in
      λ i. enc e.len (e.at + length (bits_are i)) (s i) (first i) (closed i)

  taken : (bs : List Bool) → e.at + 2 + 36 ≤ 8 * e.len
      → encode_of 6 e n bs p ≡ (given [], ahead p.time 2 e, replaced bs e.at (false ∷ false ∷ []))
  taken bs h =
      let time = repeated_time _ _ _ _ e.window _ _ r.later r.value r.delta r.rises in
      let done : ◌≡◌ {A = Outcome} (given [], after 6 e p, replaced bs e.at (point_bits 6 (progress e) p)) (given [], ahead p.time 2 e, replaced bs e.at (false ∷ false ∷ []))
      = λ i. (given [], after_is i, replaced bs e.at (bits_are i)) in
      accepted 6 e n bs p ((point_faults 6 e n bs p).none (sym z) time (rw bits_are h)) ∙ done

-- two more zeros
ahead_more : (t u z : ℕ) (e : Enc) → ahead u 2 (ahead t z e) ≡ ahead u (z + 2) e
unfolding ahead
ahead_more t u z e = λ i. enc e.len (add_assoc e.at z 2 i) (state u e.delta e.value e.window) e.first e.closed

two_zeros : bits_of 2 0 ≡ false ∷ false ∷ []
unfolding bits_of odd
two_zeros = refl

zeros_more : (z : ℕ) → bits_of z 0 ++ (false ∷ false ∷ []) ≡ bits_of (z + 2) 0
zeros_more z = rw (← two_zeros) (sym (bits_of_join z 2 0 0 (omega arith)))

zeroed_more : (bs : List Bool) (q z : ℕ) → q ≤ length bs → replaced (zeroed bs q z) (q + z) (false ∷ false ∷ []) ≡ zeroed bs q (z + 2)
unfolding zeroed
zeroed_more bs q z h =
    ap (λ (k : ℕ). replaced (replaced bs q (bits_of z 0)) (q + k) (false ∷ false ∷ [])) (sym (length_bits_of z 0))
    ∙ (writes_leave bs q (bits_of z 0) h).two (false ∷ false ∷ [])
    ∙ ap (replaced bs q) (zeros_more z)

repeat_taken : (e : Enc) (n : ℕ) (bs : List Bool) (t z : ℕ) (p : Point) → Repeats e t p → 0 ≡ standing 6 e n → e.at ≤ length bs
    → e.at + (z + 2) + 36 ≤ 8 * e.len
    → (given [], ahead p.time (z + 2) e, zeroed bs e.at (z + 2)) ≡ encode_of 6 (ahead t z e) n (zeroed bs e.at z) p
unfolding ahead
repeat_taken e n bs t z p r h l room =
    let again : Repeats (ahead t z e) t p = record { later = r.later; value = r.value; rises = r.rises; delta = r.delta } in
    let one = taken (ahead t z e) n p (ahead_stands t z n e h (omega arith)) again (zeroed bs e.at z) (omega arith) in
    let done : ◌≡◌ {A = Outcome} (given [], ahead p.time 2 (ahead t z e), replaced (zeroed bs e.at z) (e.at + z) (false ∷ false ∷ [])) (given [], ahead p.time (z + 2) e, zeroed bs e.at (z + 2))
    = λ i. (given [], ahead_more t p.time z e i, zeroed_more bs e.at z l i) in
    sym (one ∙ done)

-- ---- behind the zeros, once they are written

module _ (v e : Enc) (t z n m : ℕ) (a : v ≡ ahead t z e) where
  pub caught_stands : 0 ≡ standing 6 e n → e.at + z + 36 ≤ 8 * e.len → m ≡ n → 0 ≡ standing 6 v m
  caught_stands h r k = rw (a, k) (ahead_stands t z n e h r)

-- ---- turns of the loop

-- no zeros wait
pub none_wait : (e : Enc) (t z n i : ℕ) (bs : List Bool) (ps : List Point) (x : Packing) → t ≡ e.time → z ≡ 0 → later i (packs_of 6 e n bs ps) ≡ x
    → later i (packs_of 6 (ahead t z e) n (zeroed bs e.at z) ps) ≡ x
none_wait e t z n i bs ps x a b q =
    rw (a, b) (ap₂ (λ (s : Enc) (l : List Bool). later i (packs_of 6 s n l ps)) (ahead_none e) (zeroed_none bs e.at) ∙ q)

-- a point's zeros wait too
pub two_wait : (ts vs : List ℕ) (i n : ℕ) (e : Enc) (bs : List Bool) (t z : ℕ) (x : Packing)
    → later i (packs_of 6 (ahead t z e) n (zeroed bs e.at z) (pairs (drop i ts) (drop i vs))) ≡ x
    → Repeats e t (point_of (get_or ts i 0) (get_or vs i 0)) → 0 ≡ standing 6 e n → e.at ≤ length bs → e.at + (z + 2) + 36 ≤ 8 * e.len
    → i < min (length ts) (length vs)
    → later (i + 1) (packs_of 6 (ahead (get_or ts i 0) (z + 2) e) n (zeroed bs e.at (z + 2)) (pairs (drop (i + 1) ts) (drop (i + 1) vs))) ≡ x
two_wait ts vs i n e bs t z x q r h l room k =
    packs.accepted ts vs i n n _ _ _ _ (Ok tt) x (repeat_taken e n bs t z (point_of (get_or ts i 0) (get_or vs i 0)) r h l room) q refl k refl

-- the zeros are written
pub caught : (i : ℕ) (s s' : Enc) (bs bs' : List Bool) → s ≡ s' → bs ≡ bs' → (i, (given [], s, bs)) ≡ all_taken i s' bs'
unfolding all_taken
caught i s s' bs bs' a b = ap₂ (λ (v : Enc) (l : List Bool). (i, (given [], v, l))) a b

pub at_last : (ps : List Point) (i n : ℕ) (s : Enc) (bs : List Bool) (k x : Packing) → k ≡ all_taken i s bs → later i (packs_of 6 s n bs ps) ≡ x → ps ≡ [] → k ≡ x
unfolding all_taken
at_last ps i n s bs k x e q z = e ∙ all_taken_lem ps i n s bs x q z

-- ---- before the loop

module _ (ts vs : List ℕ) (e : Enc) (n : ℕ) (bs : List Bool) where
  -- where there is no point, nothing is refused
  pub no_points : min (length ts) (length vs) ≤ 0 → (0, (given [], e, bs)) ≡ packs_of 6 e n bs (pairs ts vs)
  no_points h = all_taken_lem (pairs ts vs) 0 n e bs _ (none_before _) (pairs_out ts vs 0 h)

  -- 12 or 13
  pub none_offered : (r : Refusal) → number_of r ≡ standing 6 e n → 0 < min (length ts) (length vs) → (0, (refused (number_of r), e, bs)) ≡ packs_of 6 e n bs (pairs ts vs)
  none_offered r h k =
      stopped ts vs 0 n n e e bs bs (Err r) _ (refused_standing 6 e n bs (point_of (get_or ts 0 0) (get_or vs 0 0)) r h) (none_before _) r refl k refl
