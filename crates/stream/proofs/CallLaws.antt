-- What a write leaves for later reads and writes, as calls.
use mathlib.Core.Path.{◌≡◌, sym, ap, ◌∙◌}
use mathlib.Core.Bool.{Bool}
use mathlib.Core.List.{List, [], ◌∷◌, ◌++◌}
use Prim.Native.Nat.{ℕ, ◌+◌, ◌*◌, ◌%◌, ◌^◌, ◌≤◌, ◌<◌}
use native.Mathlib.Nat.{mod-lt, add_assoc, min-eq_left, min-le_left}
use native.Mathlib.Omega.{arith}
use lib.ListN.{length}
use lib.Pow.{pow_pos}
use Rattle.stream.specs.Bits.{bits_of, bits, edge, field, replaced}
use Rattle.stream.specs.Refusals.{by_fault}
use Rattle.stream.specs.Calls.{Told, given, width, field_fault, write_of, read_of}
use Rattle.stream.specs.Promises.{WriteLeaves, WriteCalls}
use Rattle.stream.proofs.Numbers.{length_bits_of, value_bits_of, bits_of_join, bits_of_mod}
use Rattle.stream.proofs.Bytes.{length_bits, bits_inj}
use Rattle.stream.proofs.Writes.{replaced_append, length_replaced, writes_leave}
use Rattle.stream.proofs.Outcomes.{either, by_none, by_some, field_faults, fits}

-- the same bits at q, the same answer
same_read : (l m : List ℕ) (q k : ℕ) → length m ≡ length l → field (bits m) q (width k) ≡ field (bits l) q (width k)
    → read_of m q k ≡ read_of l q k
unfolding read_of
same_read l m q k e f = rw (e, f)

module _ (l m : List ℕ) (p x num : ℕ) (none : 0 ≡ field_fault 1 (length l) p (width num)) (e : bits m ≡ replaced (bits l) p (bits_of (width num) x)) where
  within : p + width num ≤ 8 * length l
  within = (fits 1 _ _ _ (omega arith) none).1

  starts : p ≤ length (bits l)
  starts = rw (length_bits l) (omega (arith, within))

  same_size : length m ≡ length l
  same_size =
      let n : length (bits m) ≡ length (bits l) =
      rw e (length_replaced (bits l) p (length l) (bits_of (width num) x) (length_bits l) (rw (length_bits_of (width num) x, length_bits l) within))
      in omega (arith, n, length_bits m, length_bits l)

  -- a field that the write has left is read as it was
  untouched : (q k : ℕ) → field (replaced (bits l) p (bits_of (width num) x)) q (width k) ≡ field (bits l) q (width k) → read_of m q k ≡ read_of l q k
  untouched q k f = same_read l m q k same_size (rw e f)

  read_back : (given (x % 2 ^ width num ∷ []), p + width num) ≡ read_of m p num
  unfolding read_of by_fault
  read_back =
      let there = rw (length_bits_of (width num) x) at (writes_leave (bits l) p (bits_of (width num) x) starts).back in
      rw ((field_faults 7 (length m) p (width num)).there (rw same_size (fits 1 _ _ _ (omega arith) none).0) (rw same_size within), e, there, value_bits_of (width num) x)

  -- two numbers' bits in one number
  both_bits : (y k : ℕ) → bits_of (num + k) (x * 2 ^ k + y % 2 ^ k) ≡ bits_of num x ++ bits_of k y
  both_bits y k =
      bits_of_join num k x (y % 2 ^ k) (mod-lt y (pow_pos k)) ∙ ap (λ (g : List Bool). bits_of num x ++ g) (bits_of_mod k y)

  two_writes : (y k : ℕ) → num + k ≤ 64 → field_fault 1 (length l) p (num + k) ≡ 0
      → write_of m (p + num) y k ≡ write_of l p (x * 2 ^ k + y % 2 ^ k) (num + k)
  unfolding write_of by_fault
  two_writes y k h free =
      let a : width num ≡ num = min-eq_left (omega arith) in
      let b : width k ≡ k = min-eq_left (omega arith) in
      let c : width (num + k) ≡ num + k = min-eq_left h in
      let room = fits 1 _ _ _ (omega arith) (sym free) in
      let here : field_fault 1 (length m) (p + num) k ≡ 0 = (field_faults 1 (length m) (p + num) k).there (rw same_size room.0) (rw same_size (omega arith)) in
      let joined = rw (length_bits_of num x) at (replaced_append (bits l) p (bits_of num x) (bits_of k y) starts) in
      rw (b, c, here, free, both_bits y k, rw a at e, joined, add_assoc p num k)

pub write_calls : WriteCalls
unfolding write_of
write_calls l m p x num q t hl hm e =
    let fault = field_fault 1 (length l) p (width num) in
    let f = bits_of (width num) x in
    let after : Told × ℕ × List Bool → List Bool = λ o. o.2 in
    let same : 0 < fault → m ≡ l = λ some. bits_inj m l hm hl (ap after (e ∙ by_some fault _ _ some)) in
    let done : 0 ≡ fault → bits m ≡ replaced (bits l) p f = λ none. ap after (e ∙ by_none fault _ _ none) in
    let leaves : 0 ≡ fault → WriteLeaves (bits l) p f = λ none. writes_leave (bits l) p f (starts l m p x num none (done none)) in
    let elsewhere : (q k : ℕ) → (0 ≡ fault → field (replaced (bits l) p f) q (width k) ≡ field (bits l) q (width k)) → read_of m q k ≡ read_of l q k =
    λ q k h. either fault (λ none. untouched l m p x num none (done none) q k (h none)) (λ some. ap (λ (z : List ℕ). read_of z q k) (same some))
    in
    let edge_at : edge (p + length f) ≡ edge (p + width num) = ap (λ (n : ℕ). edge (p + n)) (length_bits_of (width num) x) in
    record {
      kept = same;
      none = λ z. either fault (λ none. bits_inj m l hm hl (done none ∙ (leaves none).none (length_bits_of (width num) x ∙ z))) same;
      rest = λ none some.
          let n = length_bits_of (width num) x in
          rw (done (sym none)) (rw n at ((leaves (sym none)).rest (rw n some)));
      back = λ none. read_back l m p x num (sym none) (done (sym none));
      before = λ q k h. elsewhere q k (λ none. (leaves none).before q (width k) h);
      after = λ q k h. elsewhere q k (λ none. (leaves none).after q (width k) (rw edge_at h));
      two = λ y k h free.
          let room = fits 1 _ _ _ (omega arith) (sym free) in
          let none : 0 ≡ fault = sym ((field_faults 1 (length l) p (width num)).there room.0 (omega (arith, room.1, min-le_left num 64))) in
          two_writes l m p x num none (done none) y k h free;
    }
