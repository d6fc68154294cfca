-- Unpacking into two lists: a decoder's steps, one after the other, until the lists are full or an answer is no point.
use Rattle.std.specs.Prelude.{ℕ, zero, suc, min, Bool, List, [], ◌∷◌, ◌++◌, map, length, drop, Some, None}
use Rattle.layout.specs.Writing.{Point, point_of}
use Rattle.layout.specs.Answers.{Answer, a_point, an_end, refusal}
use Rattle.std.specs.declared.option.Option.{Option}
use Rattle.decode.specs.declared.std_decoder.Step.{Step}
use Rattle.decode.specs.declared.std_decoder.unpack.Unpacked.{Unpacked}
use Rattle.decode.specs.States.{Dec, tell, view}
use Rattle.decode.specs.Calls.{next_of}

pub data Stop : Type 0 where
  full : Stop
  said : Answer → Stop

abbrev pub tell_stop : Option Step → Stop
tell_stop None = full
tell_stop (Some a) = said (tell a)

-- the points given, why there are no more, and the state after it
abbrev pub Unpacking : Type 0
Unpacking = List Point × Stop × Dec

abbrev pub behind : Point → Unpacking → Unpacking
behind p u = (p ∷ u.0, u.1, u.2)

unfoldable pub on_point : {A : Type 0} → Answer → (Point → A) → A → A
on_point (a_point t v q) onward stop = onward (point_of t v)
on_point (an_end q) onward stop = stop
on_point (refusal r) onward stop = stop

-- a list whose first entries are xs, the others as they were
unfoldable pub starting_with : List ℕ → List ℕ → List ℕ
starting_with xs ts = xs ++ drop (length xs) ts

-- how many were given, why there are no more, the state after it, and the two lists
abbrev pub Filling : Type 0
Filling = ℕ × Stop × Dec × List ℕ × List ℕ

abbrev pub told_unpacked : Unpacked → List ℕ → List ℕ → Filling
told_unpacked r ts vs = (r.given, tell_stop r.answer, view r.decoder, ts, vs)

unfoldable pub filling : List ℕ → List ℕ → Unpacking → Filling
filling ts vs u =
    (length u.0, u.1, u.2, starting_with (map (λ (p : Point). p.time) u.0) ts, starting_with (map (λ (p : Point). p.value) u.0) vs)

-- n is the buffer's length in bytes, bs its bits, and values have 2^c bits
module _ (c : ℕ) where
  -- at most k points
  unfoldable pub unpacks_of : ℕ → Dec → ℕ → List Bool → Unpacking
  unpacks_of zero d n bs = ([], full, d)
  unpacks_of (suc k) d n bs =
      on_point (next_of c d n bs).0
      (λ p. behind p (unpacks_of k (next_of c d n bs).1 n bs))
      ([], said (next_of c d n bs).0, (next_of c d n bs).1)

  -- as many as the shorter list has
  unfoldable pub fills_of : Dec → ℕ → List Bool → List ℕ → List ℕ → Filling
  fills_of d n bs ts vs = filling ts vs (unpacks_of (min (length ts) (length vs)) d n bs)
