-- Packing two lists in one call: the encoder's own definition, one offer after the other, until one is refused.
use Rattle.std.specs.Prelude.{Bool, List, [], ◌∷◌, ℕ, suc}
use Rattle.stream.specs.Calls.{Told, given, refused}
use Rattle.layout.specs.Writing.{Point, point_of}
use Rattle.encode.specs.declared.pack.Packed.{Packed}
use Rattle.encode.specs.States.{Enc}
use Rattle.encode.specs.Calls.{Outcome, told_encoded, encode_of}

-- the points of two lists, as many as the shorter has
unfoldable pub pairs : List ℕ → List ℕ → List Point
pairs [] vs = []
pairs (t ∷ ts) [] = []
pairs (t ∷ ts) (v ∷ vs) = point_of t v ∷ pairs ts vs

-- how many were accepted; that all were, or the refusal, with the state and the bits after it
abbrev pub Packing : Type 0
Packing = ℕ × Outcome

abbrev pub told_packed : Packed → List ℕ → Packing
told_packed r l = (r.accepted, told_encoded r.last l)

-- one more was accepted
abbrev pub one_more : Packing → Packing
one_more o = (suc o.0, o.1)

-- goes on where a call was not refused
unfoldable pub on_told : {A : Type 0} → Told → A → A → A
on_told (given vs) onward stop = onward
on_told (refused r) onward stop = stop

-- n is the buffer's length in bytes, bs its bits, and values have 2^c bits
module _ (c : ℕ) where
  unfoldable pub packs_of : Enc → ℕ → List Bool → List Point → Packing
  packs_of e n bs [] = (0, (given [], e, bs))
  packs_of e n bs (p ∷ ps) =
      on_told (encode_of c e n bs p).0
      (one_more (packs_of (encode_of c e n bs p).1 n (encode_of c e n bs p).2 ps))
      (0, encode_of c e n bs p)
