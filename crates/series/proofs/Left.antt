-- What a sitting left, in bytes.
use mathlib.Core.Path.{◌≡◌, sym, ap, ◌∙◌}
use mathlib.Core.Bool.{Bool}
use mathlib.Core.List.{List, ◌++◌}
use Prim.Native.Nat.{ℕ, ◌+◌, ◌*◌, ◌≤◌}
use native.Mathlib.Omega.{arith}
use borrow.Author.Tests.{ltb-false}
use lib.ListN.{length, take, drop, length-append, length-drop}
use lib.Seq.{take_at, drop_at, get_or-drop}
use Rattle.stream.specs.Bits.{bits, bytes_for, edge, padded}
use Rattle.stream.specs.Calls.{limit}
use Rattle.stream.specs.Promises.{AreBytes}
use Rattle.stream.proofs.Outcomes.{none_holds, not_when}
use Rattle.stream.proofs.Bytes.{length_bits, bits_take, bits_drop, bits_inj}
use Rattle.layout.specs.Writing.{Point, Fitting}
use Rattle.layout.specs.Promises.{Every}
use Rattle.encode.specs.Calls.{Outcome, open_fault}
use Rattle.series.specs.Sittings.{closed_of, stream_of}
use Rattle.series.specs.Promises.{SittingsBytes}
use Rattle.series.proofs.Sitting.{length_padded, put_front, closing, inside}

-- an opening that is not refused
pub open_size : (n : ℕ) → open_fault n ≡ 0 → n ≤ limit
unfolding open_fault
open_size n z = ltb-false _ _ (not_when _ 5 (omega arith) (none_holds _ _ (sym z)).0)

drop_bytes : (k : ℕ) (l : List ℕ) → AreBytes l → AreBytes (drop k l)
drop_bytes k l b i = rw (get_or-drop k l i 0) (b (k + i))

module _ (c start : ℕ) (ps : List Point) (l m : List ℕ) (z : open_fault (length l) ≡ 0) (v : Every (Fitting c) ps)
    (e : bits m ≡ (closed_of c start (length l) (bits l) ps).2) where
  abbrev f : List Bool
  f = stream_of c start (length l) ps

  pub left : bits m ≡ padded f ++ drop (length (padded f)) (bits l)
  left = e ∙ ap (λ (o : Outcome). o.2) (closing c start (length l) (bits l) ps z v) ∙ put_front (bits l) f

  whole : 8 * bytes_for (length f) ≡ length (padded f)
  unfolding edge
  whole = sym (length_padded f)

  pub room : bytes_for (length f) ≤ length l
  room = omega (arith, inside c start (length l) (bits l) ps z v)

  pub same_size : length m ≡ length l
  same_size =
      omega (arith, length_bits m, length_bits l, ap length left, length-append (padded f) (drop (length (padded f)) (bits l)), length-drop (length (padded f)) (bits l), whole, room)

  pub first_bytes : bits (take (bytes_for (length f)) m) ≡ padded f
  first_bytes = bits_take (bytes_for (length f)) m ∙ ap (take (8 * bytes_for (length f))) left ∙ take_at (padded f) _ (8 * bytes_for (length f)) (sym whole)

  rest_bits_lem : drop (8 * bytes_for (length f)) (bits m) ≡ drop (8 * bytes_for (length f)) (bits l)
  rest_bits_lem =
      ap (drop (8 * bytes_for (length f))) left ∙ drop_at (padded f) _ (8 * bytes_for (length f)) (sym whole) ∙ ap (λ (k : ℕ). drop k (bits l)) (sym whole)

  pub rest_bytes : AreBytes l → AreBytes m → drop (bytes_for (length f)) m ≡ drop (bytes_for (length f)) l
  rest_bytes bl bm =
      bits_inj _ _ (drop_bytes (bytes_for (length f)) m bm) (drop_bytes (bytes_for (length f)) l bl)
      (bits_drop (bytes_for (length f)) m ∙ rest_bits_lem ∙ sym (bits_drop (bytes_for (length f)) l))

pub sitting_bytes : (c : ℕ) → SittingsBytes c
sitting_bytes c start ps l m bl bm z v e = record {
  size = same_size c start ps l m z v e;
  first = first_bytes c start ps l m z v e;
  rest = rest_bytes c start ps l m z v e bl bm;
}
