-- Decoders on what a sitting left, and on a part of any bytes.
use mathlib.Core.Path.{◌≡◌, sym, ap, ◌∙◌}
use mathlib.Core.Bool.{Bool}
use mathlib.Core.List.{List, ◌++◌}
use Prim.Native.Nat.{ℕ, ◌*◌, ◌≤◌, ◌<◌}
use native.Mathlib.Omega.{arith}
use lib.ListN.{length, take, drop, get_or, length-take, take-append-drop, get_or-map}
use lib.Seq.{take-take, length-take-le}
use Rattle.stream.specs.Bits.{bits, bytes_for, field, replaced}
use Rattle.stream.specs.Calls.{limit}
use Rattle.stream.proofs.Writes.{writes_leave}
use Rattle.stream.proofs.Bytes.{length_bits, bits_take}
use Rattle.layout.specs.Answers.{answer_of, outcomes, answers}
use Rattle.layout.proofs.Round as layout
use Rattle.layout.proofs.Closed as closed
use Rattle.layout.proofs.Rising.{precisely}
use Rattle.encode.specs.Calls.{Outcome}
use Rattle.decode.proofs.Along.{opened_answers}
use Rattle.series.specs.Sittings.{taken_of, stream_of, closed_of}
use Rattle.series.specs.Promises.{decodes, PointsComeBack, MoreDatas, ClosedCuts}
use Rattle.series.proofs.Sitting.{closing, sitting}
use Rattle.series.proofs.Left.{open_size, room, same_size, first_bytes}

module _ (c : ℕ) where
  -- a decoder opened on bytes within the limit gives the layout's answers
  decodes_is : (k : ℕ) (l : List ℕ) → length l ≤ limit → decodes c k l ≡ answers c k (bits l)
  decodes_is k l h = opened_answers c k (length l) (bits l) h (length_bits l)

  take_short : (k : ℕ) (l : List ℕ) → length l ≤ limit → length (take k l) ≤ limit
  take_short k l h = omega (arith, length-take k l)

  pub more_data : MoreDatas c
  unfolding answers
  more_data n k l o a i h b =
      let p = precisely c n (8 * k) (bits l) o a i b in
      let part : decodes c n (take k l) ≡ answers c n (take (8 * k) (bits l)) = decodes_is n (take k l) (take_short k l h) ∙ ap (answers c n) (bits_take k l) in
      let all : get_or (decodes c n l) i (answer_of o) ≡ answer_of (get_or (outcomes c n (bits l)) i o) = rw (decodes_is n l h) (get_or-map answer_of (outcomes c n (bits l)) i o) in
      record {
        whole = all;
        given = λ e. rw part (p.given e) ∙ sym all;
        torn = λ e. rw part (p.torn e);
        stays = λ j e f g. rw part ((precisely c n (8 * k) (bits l) o a j f).torn (omega (arith, p.rising j e f)));
      }

  -- ---- a closed sitting

  front : (bs f : List Bool) → take (length f) (replaced bs 0 f) ≡ f
  unfolding field
  front bs f = (writes_leave bs 0 f (omega arith)).back

  pub points_come_back : PointsComeBack c
  points_come_back k start ps l m z b v h e =
      let f = stream_of c start (length l) ps in
      let w : take (length f) (closed_of c start (length l) (bits l) ps).2 ≡ f =
      ap (λ (o : Outcome). take (length f) o.2) (closing c start (length l) (bits l) ps z v) ∙ front (bits l) f in
      decodes_is k m h
      ∙ ap (answers c k) (sym (take-append-drop (length f) (bits m)) ∙ ap (λ (x : List Bool). x ++ drop (length f) (bits m)) (e ∙ w))
      ∙ layout.points_come_back c k start (taken_of c start (length l) ps) (drop (length f) (bits m)) b (sitting c start (length l) (bits l) ps z v).accepted

  pub closed_cut : ClosedCuts c
  closed_cut start ps l m z b v e =
      let K = bytes_for (length (stream_of c start (length l) ps)) in
      let fit : K ≤ length l = room c start ps l m z v e in
      let size : length (take K m) ≡ K = length-take-le K m (omega (arith, fit, same_size c start ps l m z v e)) in
      let lim = open_size (length l) z in
      let cut = closed.closed_cut c start (taken_of c start (length l) ps) b (sitting c start (length l) (bits l) ps z v).accepted in
      let first = first_bytes c start ps l m z v e in
      let part : (n k : ℕ) → k < K → decodes c n (take k m) ≡ answers c n (bits (take k (take K m))) =
      λ n k h. decodes_is n (take k m) (omega (arith, length-take k m, h, fit, lim)) ∙ ap (λ (x : List ℕ). answers c n (bits x)) (sym (take-take k K m (omega (arith, h)))) in
      record {
        given = λ n k h. part n k h ∙ cut.bytes_given n k (take K m) first (rw size h);
        ends = λ n k h g. rw (part n k h) (cut.bytes_end n k (take K m) first (rw size h) g);
      }
