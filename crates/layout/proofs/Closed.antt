-- A closed stream that is cut.
use mathlib.Core.Path.{◌≡◌, refl, sym, ap, ◌∙◌, subst}
use Prim.Native.Nat.{ℕ, zero, suc, ◌+◌, ◌*◌, ◌^◌, ◌<◌}
use native.Mathlib.Nat.{lt_of_not-le, le_of_suc-le-suc}
use native.Mathlib.Decide.{dec_le}
use native.Mathlib.Omega.{arith}
use mathlib.Core.Bool.{false, cond}
use mathlib.Core.List.{List, [], ◌∷◌, append-nil, map}
use lib.Dec.{ltb}
use lib.ListN.{length, take, replicate, get_or, length-append, get_or-replicate, length-replicate, length-map}
use lib.Seq.{take-append-le}
use borrow.Author.Tests.{le-ltb, lt-ltb}
use Rattle.stream.specs.Bits.{bits, edge, spare, padded}
use Rattle.stream.proofs.Numbers.{length_bits_of}
use Rattle.stream.proofs.Bytes.{length_bits, bits_take}
use Rattle.layout.specs.Writing.{Point, Progress, going, start_bits, marker, point_bits, state_after, rest_bits, opened, stream_bits, Accepted}
use Rattle.layout.specs.Answers.{Reached, point_at, end_at, wrong_at, position, Answer, a_point, an_end, refusal, answer_of, outcomes, answers, lack, torn_by, torn}
use Rattle.layout.specs.Promises.{place_of, cut_to, back, ClosedCuts}
use Rattle.layout.proofs.Prefix.{torn_in, torn_out, more_data}
use Rattle.layout.proofs.Round.{points_come_back}

-- ---- where the whole has no refusal, what is torn is told by its answers

abbrev Plain : List Answer → Type 0
Plain [] = Unit {0}
Plain (a_point t v q ∷ l) = Plain l
Plain (an_end q ∷ l) = Plain l
Plain (refusal k ∷ l) = ⊥

torn_plain : (j : ℕ) (os : List Reached) → Plain (map answer_of os) → torn j os ≡ cut_to j (map answer_of os)
unfolding torn_by answer_of position place_of
torn_plain j [] h = refl
torn_plain j (point_at s q ∷ os) h = rw (torn_plain j os h, length-map os answer_of)
torn_plain j (end_at q ∷ os) h = rw (torn_plain j os h, length-map os answer_of)
torn_plain j (wrong_at k q ∷ os) h = absurd h

-- ---- the answers on a closed stream

plain_ends : (n q : ℕ) → Plain (replicate n (an_end q))
plain_ends zero q = tt
plain_ends (suc n) q = plain_ends n q

module _ (c : ℕ) where
  plain_back : (n at : ℕ) (g : Progress) (ps : List Point) → Plain (back c n at g ps)
  unfolding back
  plain_back zero at g ps = tt
  plain_back (suc n) at g [] = plain_ends n (at + 36)
  plain_back (suc n) at g (p ∷ ps) = plain_back n (at + length (point_bits c g p)) (going (state_after c g p)) ps

  length_back : (n at : ℕ) (g : Progress) (ps : List Point) → length (back c n at g ps) ≡ n
  unfolding back
  length_back zero at g ps = refl
  length_back (suc n) at g [] = ap suc (length-replicate n (an_end (at + 36)))
  length_back (suc n) at g (p ∷ ps) = ap suc (length_back n (at + length (point_bits c g p)) (going (state_after c g p)) ps)

  -- short of the marker's last bit, 6 or 7 stands where the end would
  end_cut : (n at j : ℕ) (g : Progress) (ps : List Point) → length ps < n → j < at + length (rest_bits c g ps)
      → get_or (cut_to j (back c n at g ps)) (length ps) (an_end 0) ≡ refusal (lack j)
  unfolding back rest_bits marker place_of
  end_cut zero at j g ps h k = absurd (omega arith)
  end_cut (suc n) at j g [] h k = rw (torn_out place_of (λ a. a) j (an_end (at + 36)) (replicate n (an_end (at + 36))) (omega (arith, length_bits_of 32 0)))
  end_cut (suc n) at j g (p ∷ ps) h k =
      let q = at + length (point_bits c g p) in
      let g' = going (state_after c g p) in
      let a = a_point p.time p.value q in
      elim (dec_le q j) [
        | yes i ↦
            rw (torn_in place_of (λ a. a) j a (back c n q g' ps) i)
            (end_cut n q j g' ps (le_of_suc-le-suc h) (omega (arith, length-append (point_bits c g p) (rest_bits c g' ps))))
        | no i ↦
            rw (torn_out place_of (λ a. a) j a (back c n q g' ps) (lt_of_not-le i), length_back n q g' ps)
            (get_or-replicate n (length ps) (refusal (lack j)) (an_end 0) (le_of_suc-le-suc h))
      ]

  module _ (start : ℕ) (ps : List Point) (b : start < 2 ^ 64) (ok : Accepted c (opened c start) ps) where
    given : (n j : ℕ) → answers c n (take j (stream_bits c start ps)) ≡ cut_to j (back c n 64 (opened c start) ps)
    unfolding answers
    given n j =
        let whole : map answer_of (outcomes c n (stream_bits c start ps)) ≡ back c n 64 (opened c start) ps = rw append-nil at (points_come_back c n start ps [] b ok) in
        (more_data c).bits_form n j (stream_bits c start ps)
        ∙ torn_plain j (outcomes c n (stream_bits c start ps)) (subst Plain (sym whole) (plain_back n 64 (opened c start) ps))
        ∙ ap (cut_to j) whole

    ends : (n j : ℕ) → j < length (stream_bits c start ps) → length ps < n
        → get_or (answers c n (take j (stream_bits c start ps))) (length ps) (an_end 0) ≡ refusal (lack j)
    unfolding stream_bits start_bits
    ends n j k h =
        rw (given n j)
        (end_cut n 64 j (opened c start) ps h (omega (arith, length-append (start_bits start) (rest_bits c (opened c start) ps), length_bits_of 64 start)))

    -- fewer bytes than hold the stream hold fewer bits than it has
    byte_cut : (k : ℕ) (l : List ℕ) → bits l ≡ padded (stream_bits c start ps) → k < length l
        → (bits (take k l) ≡ take (8 * k) (stream_bits c start ps)) × (8 * k < length (stream_bits c start ps))
    unfolding padded edge
    byte_cut k l e h =
        let s = stream_bits c start ps in
        let short : 8 * k < length s = omega (arith, length_bits l, ap length e, length-append s (replicate (spare (length s)) false), length-replicate (spare (length s)) false) in
        (bits_take k l ∙ ap (take (8 * k)) e ∙ take-append-le (8 * k) s _ (omega arith), short)

-- 8 bytes are 64 bits
lack_bytes : (k : ℕ) → lack (8 * k) ≡ cond (ltb k 8) 6 7
unfolding lack
lack_bytes k = elim (dec_le 8 k) [
  | yes h ↦ rw (le-ltb (8 * k) 64 (omega arith), le-ltb k 8 h)
  | no h ↦ rw (lt-ltb (8 * k) 64 (omega (arith, lt_of_not-le h)), lt-ltb k 8 (lt_of_not-le h))
]

pub closed_cut : (c : ℕ) → ClosedCuts c
closed_cut c start ps b ok = record {
  given = given c start ps b ok;
  ends = ends c start ps b ok;
  bytes_given = λ n k l e h. rw (byte_cut c start ps b ok k l e h).0 (given c start ps b ok n (8 * k));
  bytes_end = λ n k l e h m.
      rw ((byte_cut c start ps b ok k l e h).0, ← (lack_bytes k)) (ends c start ps b ok n (8 * k) (byte_cut c start ps b ok k l e h).1 m);
}
