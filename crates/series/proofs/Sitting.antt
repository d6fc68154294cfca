-- A whole sitting: what closing leaves, and how many bits are in use.
use mathlib.Core.Path.{◌≡◌, refl, sym, ap, ap₂, ◌∙◌}
use mathlib.Core.Bool.{Bool, true, false}
use mathlib.Core.List.{List, [], ◌∷◌, ◌++◌, append_assoc}
use Prim.Native.Nat.{ℕ, ◌+◌, ◌*◌, ◌≤◌, ◌<◌}
use native.Mathlib.Nat.{zero-add}
use native.Mathlib.Omega.{arith}
use lib.ListN.{length, drop, replicate, length-append, length-replicate}
use Rattle.stream.specs.Bits.{bytes_for, edge, spare, padded, laid, replaced}
use Rattle.stream.specs.Calls.{given, refused}
use Rattle.stream.proofs.Writes.{edge_le}
use Rattle.stream.proofs.Outcomes.{either, none_holds, by_none, by_some}
use Rattle.layout.specs.Writing.{Point, Progress, going, time_fault, start_bits, marker, point_bits, state_after, rest_bits, opened, stream_bits, Fitting, Accepted}
use Rattle.layout.specs.Promises.{Every}
use Rattle.layout.proofs.Sizes.{sizes}
use Rattle.encode.specs.States.{Enc, progress}
use Rattle.encode.specs.Calls.{Outcome, open_fault, standing, fresh, marked, encode_of, close_of}
use Rattle.encode.proofs.CallLaws.{length_marker, stands_as, point_faults}
use Rattle.series.specs.Sittings.{Offers, ruling, accepts, rulings, sum_of, sat_of, closed_of, taken_of, stream_of}
use Rattle.series.specs.Promises.{Sittings, SittingSizes}
use Rattle.series.proofs.Refused.{no_offer, no_close}
use Rattle.series.proofs.Sits.{written, along, Sits, more, Ends, ends, length_start, opens, first_sits}

-- ---- a stream at the front of a buffer

pub length_padded : (f : List Bool) → length (padded f) ≡ edge (length f)
unfolding padded
length_padded f = simp (length-append, length-replicate) (omega (arith, edge_le (length f)))

laid_front : (bs f : List Bool) → laid bs 0 f ≡ padded f ++ drop (length (padded f)) bs
unfolding laid padded
laid_front bs f =
    ap (λ (k : ℕ). f ++ (replicate (spare k) false ++ drop (edge k) bs)) (zero-add (length f))
    ∙ sym (append_assoc f (replicate (spare (length f)) false) (drop (edge (length f)) bs))
    ∙ ap (λ (k : ℕ). f ++ replicate (spare (length f)) false ++ drop k bs) (sym (length_padded f))

pub put_front : (bs f : List Bool) → replaced bs 0 f ≡ padded f ++ drop (length (padded f)) bs
unfolding replaced padded edge
put_front bs [] = refl
put_front bs (b ∷ f) = laid_front bs (b ∷ f)

module _ (c : ℕ) where
  -- ---- the bits of the accepted points

  rest_is : (g : Progress) (ps : List Point) → rest_bits c g ps ≡ written c g ps ++ marker
  unfolding rest_bits written
  rest_is g [] = refl
  rest_is g (p ∷ ps) = rw (rest_is (going (state_after c g p)) ps) (sym (append_assoc (point_bits c g p) _ marker))

  stream_is : (start : ℕ) (ps : List Point) → stream_bits c start ps ≡ (start_bits start ++ written c (opened c start) ps) ++ marker
  unfolding stream_bits
  stream_is start ps = rw (rest_is (opened c start) ps) (sym (append_assoc (start_bits start) _ marker))

  sum_is : (g : Progress) (ps : List Point) → length (written c g ps) ≡ sum_of c g ps
  unfolding written sum_of
  sum_is g [] = refl
  sum_is g (p ∷ ps) = rw (length-append (point_bits c g p)) (ap (λ (k : ℕ). length (point_bits c g p) + k) (sum_is (going (state_after c g p)) ps))

  pre_sum : (start : ℕ) (ps : List Point) → length (start_bits start ++ written c (opened c start) ps) ≡ 64 + sum_of c (opened c start) ps
  pre_sum start ps = length-append (start_bits start) _ ∙ ap₂ ◌+◌ (length_start c start) (sum_is (opened c start) ps)

  -- ---- what the rules accept

  timely : (n q : ℕ) (g : Progress) (p : Point) → 0 ≡ ruling c n q g p → time_fault g p.time ≡ 0
  unfolding ruling
  timely n q g p z = sym (none_holds _ _ z).0

  accepted_all : (n : ℕ) (ps : List Point) (q : ℕ) (g : Progress) → Every (Fitting c) ps → Accepted c g (accepts c n q g ps)
  unfolding accepts
  accepted_all n [] q g v = tt
  accepted_all n (p ∷ ps) q g v =
      either (ruling c n q g p)
      (λ z. rw (by_none (ruling c n q g p) _ _ z) (v.0, timely n q g p z, accepted_all n ps _ _ v.1))
      (λ h. rw (by_some (ruling c n q g p) _ _ h) (accepted_all n ps q g v.1))

  -- ---- closing

  close_is : (n : ℕ) (bs₀ pre : List Bool) (g : Progress) (e : Enc) (bs : List Bool) → Sits c n bs₀ pre g e bs
      → close_of c e n bs ≡ (given (length (pre ++ marker) ∷ bytes_for (length (pre ++ marker)) ∷ []), marked e, replaced bs₀ 0 (pre ++ marker))
  unfolding close_of
  close_is n bs₀ pre g e bs s =
      let size : e.at + 36 ≡ length (pre ++ marker) = omega (arith, s.place, length-append pre marker, length_marker) in
      rw (by_none (standing c e n) _ _ (sym s.ready), more c n bs₀ pre marker bs e.at s.laid s.place, size)

  -- ---- the whole

  module _ (start n : ℕ) (bs : List Bool) (ps : List Point) (z : open_fault n ≡ 0) (v : Every (Fitting c) ps) where
    abbrev sat : Offers
    sat = sat_of c start n bs ps

    run : Ends c n bs (start_bits start) (opened c start) (fresh c n start) (replaced bs 0 (start_bits start)) ps
    run = ends c n bs ps (start_bits start) (opened c start) (fresh c n start) (replaced bs 0 (start_bits start)) (first_sits c start n bs z) v

    answered : sat.0 ≡ rulings c n 64 (opened c start) ps
    answered = rw (opens c start n bs z) (rw (length_start c start) at run.answers)

    pub sits : Sits c n bs (start_bits start ++ written c (opened c start) (taken_of c start n ps)) (along c (opened c start) (taken_of c start n ps)) sat.1 sat.2
    sits = rw (opens c start n bs z) (rw (length_start c start) at run.state)

    pub closing : closed_of c start n bs ps
        ≡ (given (length (stream_of c start n ps) ∷ bytes_for (length (stream_of c start n ps)) ∷ []), marked sat.1, replaced bs 0 (stream_of c start n ps))
    closing = rw (stream_is start (taken_of c start n ps)) (close_is n bs _ _ sat.1 sat.2 sits)

    stream_size : length (stream_of c start n ps) ≡ 64 + sum_of c (opened c start) (taken_of c start n ps) + 36
    stream_size =
        ap length (stream_is start (taken_of c start n ps))
        ∙ length-append (start_bits start ++ written c (opened c start) (taken_of c start n ps)) marker
        ∙ ap₂ ◌+◌ (pre_sum start (taken_of c start n ps)) length_marker

    used : sat.1.at ≡ 64 + sum_of c (opened c start) (taken_of c start n ps)
    used = sits.place ∙ pre_sum start (taken_of c start n ps)

    pub inside : length (stream_of c start n ps) ≤ 8 * n
    inside = let s = stands_as c sat.1 n (sym sits.ready) in omega (arith, s.same, s.room, used, stream_size)

    -- a point without room
    no_room : (p : Point) → time_fault (progress sat.1) p.time ≡ 0 → 8 * n < sat.1.at + length (point_bits c (progress sat.1) p) + 36
        → encode_of c sat.1 n sat.2 p ≡ (refused 1, sat.1, sat.2)
    unfolding encode_of
    no_room p t h =
        let s = stands_as c sat.1 n (sym sits.ready) in
        rw ((point_faults c sat.1 n sat.2 p).no_room sits.ready t (omega (arith, h, s.same))) (by_some 1 _ _ (omega arith))

    -- after closing
    is_closed : (closed_of c start n bs ps).1.closed ≡ true
    unfolding marked
    is_closed = ap (λ (o : Outcome). o.1.closed) closing

    sealed_by : (p : Point)
        → (encode_of c (closed_of c start n bs ps).1 n (closed_of c start n bs ps).2 p ≡ (refused 12, (closed_of c start n bs ps).1, (closed_of c start n bs ps).2))
        × (close_of c (closed_of c start n bs ps).1 n (closed_of c start n bs ps).2 ≡ (refused 12, (closed_of c start n bs ps).1, (closed_of c start n bs ps).2))
    sealed_by p =
        let o : Outcome = closed_of c start n bs ps in
        (no_offer c o.1 n o.2 is_closed p, no_close c o.1 n o.2 is_closed)

  pub sitting : Sittings c
  sitting start n bs ps z v = record {
    answers = answered start n bs ps z v;
    closes = closing start n bs ps z v ∙ rw (put_front bs (stream_of c start n ps));
    accepted = accepted_all n ps 64 (opened c start) v;
    in_use = used start n bs ps z v;
    closed_use = stream_size start n bs ps z v;
    within = inside start n bs ps z v;
    sealed = λ p. sealed_by start n bs ps z v p;
    full = λ p t h. let e = no_room start n bs ps z v p t h in (e, ap (λ (o : Outcome). close_of c o.1 n o.2) e);
  }

-- ---- `sizes`

pub sitting_sizes : SittingSizes
sitting_sizes start n ps v =
    let ok = accepted_all 6 n ps 64 (opened 6 start) v in
    record {
      none = λ e. none (taken_of 6 start n ps) e;
      least = λ h. sizes.least start (taken_of 6 start n ps) ok h;
      most = λ h. sizes.most start (taken_of 6 start n ps) ok h;
    }
  where
    none : (qs : List Point) → length qs ≡ 0 → length (stream_bits 6 start qs) ≡ 100
    none [] e = sizes.empty start
    none (q ∷ qs) e = absurd (omega arith)
