-- An encoder amid a sitting: what each offer does, by induction over the offers.
use mathlib.Core.Path.{◌≡◌, refl, sym, ap, ap₂, ◌∙◌}
use mathlib.Core.Bool.{Bool}
use mathlib.Core.List.{List, [], ◌∷◌, ◌++◌, append_assoc, append-nil}
use Prim.Native.Nat.{ℕ, ◌^◌, ◌<◌}
use native.Mathlib.Nat.{zero-add}
use native.Mathlib.Omega.{arith}
use lib.Pow.{pow_pos}
use lib.ListN.{length, length-append}
use Rattle.stream.specs.Bits.{replaced}
use Rattle.stream.specs.Calls.{Told, given, refused}
use Rattle.stream.proofs.Writes.{writes_leave}
use Rattle.stream.proofs.Numbers.{length_bits_of}
use Rattle.stream.proofs.Outcomes.{either, or_none, by_none, by_some}
use Rattle.layout.specs.Writing.{Point, Progress, begun, going, start_bits, point_bits, state_after, first_state, later_state, opened, Fitting}
use Rattle.layout.specs.Promises.{Every}
use Rattle.encode.specs.States.{Enc, progress_by, progress}
use Rattle.encode.specs.Calls.{open_fault, room_fault, standing, point_fault, fresh, after, open_of, encode_of}
use Rattle.encode.proofs.CallLaws.{stands_as, accepted}
use Rattle.encode.proofs.Standing.{stands_on}
use Rattle.series.specs.Sittings.{offers_of, ruling, accepts, rulings}

module _ (c : ℕ) where
  -- the bits of points, one after the other, and how far the series is behind them
  unfoldable pub written : Progress → List Point → List Bool
  written g [] = []
  written g (p ∷ ps) = point_bits c g p ++ written (going (state_after c g p)) ps

  unfoldable pub along : Progress → List Point → Progress
  along g [] = g
  along g (p ∷ ps) = along (going (state_after c g p)) ps

  value_after : (g : Progress) (p : Point) → (state_after c g p).value ≡ p.value
  unfolding state_after first_state later_state
  value_after (begun start w) p = refl
  value_after (going s) p = refl

  -- a state that stands is refused a point by the rules
  is_ruling : (e : Enc) (n : ℕ) (p : Point) → standing c e n ≡ 0 → point_fault c e n p ≡ ruling c n e.at (progress e) p
  unfolding point_fault ruling room_fault
  is_ruling e n p z = or_none (standing c e n) _ (sym z) ∙ rw (← (stands_as c e n (sym z)).same)

  -- over a buffer of n bytes, whose bits were bs₀ at first
  module _ (n : ℕ) (bs₀ : List Bool) where
    -- the bits pre are written, and the series is at g
    pub record Sits (pre : List Bool) (g : Progress) (e : Enc) (bs : List Bool) : Type 0 where
      pub ready : standing c e n ≡ 0
      pub place : e.at ≡ length pre
      pub laid : bs ≡ replaced bs₀ 0 pre
      pub line : progress e ≡ g
      pub value : e.value < 2 ^ (2 ^ c)

    -- one write more
    pub more : (pre f bs : List Bool) (at : ℕ) → bs ≡ replaced bs₀ 0 pre → at ≡ length pre → replaced bs at f ≡ replaced bs₀ 0 (pre ++ f)
    more pre f bs at e h =
        ap₂ (λ (b : List Bool) (a : ℕ). replaced b a f) e (h ∙ sym (zero-add (length pre))) ∙ (writes_leave bs₀ 0 pre (omega arith)).two f

    module _ (pre : List Bool) (g : Progress) (e : Enc) (bs : List Bool) (p : Point) (s : Sits pre g e bs) where
      here : point_fault c e n p ≡ ruling c n (length pre) g p
      here = is_ruling e n p s.ready ∙ ap₂ (λ (a : ℕ) (x : Progress). ruling c n a x p) s.place s.line

      bits_here : point_bits c (progress e) p ≡ point_bits c g p
      bits_here = ap (λ (x : Progress). point_bits c x p) s.line

      -- an accepted offer
      bits_then : List Bool
      bits_then = replaced bs e.at (point_bits c (progress e) p)

      takes : 0 ≡ ruling c n (length pre) g p → encode_of c e n bs p ≡ (given [], after c e p, bits_then)
      unfolding bits_then
      takes z = accepted c e n bs p (here ∙ sym z)

      sits_then : p.value < 2 ^ (2 ^ c) → 0 ≡ ruling c n (length pre) g p → Sits (pre ++ point_bits c g p) (going (state_after c g p)) (after c e p) bits_then
      unfolding after progress_by bits_then
      sits_then v z = record {
        ready = (stands_on c).offered e n p s.value v (here ∙ sym z);
        place = omega (arith, s.place, ap length bits_here, length-append pre (point_bits c g p));
        laid = more pre _ bs e.at s.laid s.place ∙ ap (λ (x : List Bool). replaced bs₀ 0 (pre ++ x)) bits_here;
        line = ap (λ (x : Progress). going (state_after c x p)) s.line;
        value = rw (value_after (progress e) p) v;
      }

      -- a refused one
      passes : 0 < ruling c n (length pre) g p → encode_of c e n bs p ≡ (refused (ruling c n (length pre) g p), e, bs)
      unfolding encode_of
      passes h = rw here (by_some (ruling c n (length pre) g p) _ _ h)

    -- ---- all offers

    pub record Ends (pre : List Bool) (g : Progress) (e : Enc) (bs : List Bool) (ps : List Point) : Type 0 where
      pub answers : (offers_of c e n bs ps).0 ≡ rulings c n (length pre) g ps
      pub state : Sits (pre ++ written g (accepts c n (length pre) g ps)) (along g (accepts c n (length pre) g ps)) (offers_of c e n bs ps).1 (offers_of c e n bs ps).2

    module _ (pre : List Bool) (g : Progress) (e : Enc) (bs : List Bool) (p : Point) (ps : List Point) (s : Sits pre g e bs) where
      taken : 0 ≡ ruling c n (length pre) g p → Ends (pre ++ point_bits c g p) (going (state_after c g p)) (after c e p) (bits_then pre g e bs p s) ps → Ends pre g e bs (p ∷ ps)
      unfolding offers_of accepts rulings written along
      taken z ih =
          let size = length-append pre (point_bits c g p) in
          let o = takes pre g e bs p s z in
          record {
            answers = rw (o, by_none (ruling c n (length pre) g p) _ _ z) (ap (λ (l : List Told). given [] ∷ l) (ih.answers ∙ rw size));
            state = rw (o, by_none (ruling c n (length pre) g p) _ _ z, ← (append_assoc pre)) (rw size at ih.state);
          }

      passed : 0 < ruling c n (length pre) g p → Ends pre g e bs ps → Ends pre g e bs (p ∷ ps)
      unfolding offers_of accepts rulings
      passed h ih =
          let o = passes pre g e bs p s h in
          record {
            answers = rw (o, by_some (ruling c n (length pre) g p) _ _ h) (ap (λ (l : List Told). refused (ruling c n (length pre) g p) ∷ l) ih.answers);
            state = rw (o, by_some (ruling c n (length pre) g p) _ _ h) ih.state;
          }

    pub ends : (ps : List Point) (pre : List Bool) (g : Progress) (e : Enc) (bs : List Bool) → Sits pre g e bs → Every (Fitting c) ps → Ends pre g e bs ps
    unfolding offers_of accepts rulings written along
    ends [] pre g e bs s v = record { answers = refl; state = rw (append-nil pre) s }
    ends (p ∷ ps) pre g e bs s v =
        either (ruling c n (length pre) g p)
        (λ z. taken pre g e bs p ps s z (ends ps _ _ _ _ (sits_then pre g e bs p s v.0.value_fits z) v.1))
        (λ h. passed pre g e bs p ps s h (ends ps pre g e bs s v.1))

  -- ---- from the opening on

  pub length_start : (start : ℕ) → length (start_bits start) ≡ 64
  unfolding start_bits
  length_start start = length_bits_of 64 start

  pub opens : (start n : ℕ) (bs : List Bool) → open_fault n ≡ 0 → open_of c start n bs ≡ (given [], fresh c n start, replaced bs 0 (start_bits start))
  unfolding open_of
  opens start n bs z = by_none (open_fault n) _ _ (sym z)

  pub first_sits : (start n : ℕ) (bs : List Bool) → open_fault n ≡ 0
      → Sits n bs (start_bits start) (opened c start) (fresh c n start) (replaced bs 0 (start_bits start))
  unfolding fresh progress_by
  first_sits start n bs z = record {
    ready = (stands_on c).opened start n z;
    place = sym (length_start start);
    laid = refl;
    line = refl;
    value = pow_pos (2 ^ c);
  }
