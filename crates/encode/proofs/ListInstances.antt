-- Packing at a few points, by computing: what breaks here is a promise that has become false.
use mathlib.Core.Path.{◌≡◌, refl}
use mathlib.Core.Bool.{true, false}
use mathlib.Core.List.{List, [], ◌∷◌}
use Prim.Native.Nat.{ℕ}
use lib.ListN.{replicate}
use Rattle.stream.specs.Bits.{bits_of}
use Rattle.stream.specs.Refusals.{when, or_else, by_fault}
use Rattle.stream.specs.Calls.{Told, given, refused}
use Rattle.layout.specs.Rows.{within}
use Rattle.layout.specs.Windows.{window, no_digit, unopened, bad_window, xor_bits, window_after}
use Rattle.layout.specs.Writing.{point_of, state, time_fault, dod_bits, first_bits, later_bits, point_bits, first_state, later_state, state_after}
use Rattle.encode.specs.States.{enc, progress_by}
use Rattle.encode.specs.Calls.{no_fit, standing, room_fault, point_fault, after, encode_of}
use Rattle.encode.specs.Lists.{pairs, Packing, on_told, packs_of}

-- opened at 0 on 23 bytes, where there is room for M3's two points

packing : List ℕ → List ℕ → Packing
packing ts vs = packs_of 6 (enc 23 64 (state 0 0 0 (window 64 64)) true false) 23 (replicate 184 true) (pairs ts vs)

-- the second time falls, the third would not: one is accepted, and 2
stopped_at : ◌≡◌ {A = ℕ × Told} ((packing (10 ∷ 9 ∷ 20 ∷ []) (0 ∷ 0 ∷ 0 ∷ [])).0, (packing (10 ∷ 9 ∷ 20 ∷ []) (0 ∷ 0 ∷ 0 ∷ [])).1.0) (1, refused 2)
unfolding packing pairs on_told packs_of encode_of point_fault standing no_fit room_fault after when or_else by_fault progress_by time_fault within bad_window no_digit unopened bits_of point_bits first_bits later_bits dod_bits xor_bits window_after first_state later_state state_after
stopped_at = refl

-- two times and three values are two points
accepted_at : ◌≡◌ {A = ℕ × Told} ((packing (10 ∷ 20 ∷ []) (0 ∷ 0 ∷ 7 ∷ [])).0, (packing (10 ∷ 20 ∷ []) (0 ∷ 0 ∷ 7 ∷ [])).1.0) (2, given [])
unfolding packing pairs on_told packs_of encode_of point_fault standing no_fit room_fault after when or_else by_fault progress_by time_fault within bad_window no_digit unopened bits_of point_bits first_bits later_bits dod_bits xor_bits window_after first_state later_state state_after
accepted_at = refl

pairs_at : pairs (10 ∷ 20 ∷ []) (0 ∷ 5 ∷ 7 ∷ []) ≡ point_of 10 0 ∷ point_of 20 5 ∷ []
unfolding pairs
pairs_at = refl
