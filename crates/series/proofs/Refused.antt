-- A closed encoder refuses every call with 12: after closing, and after an opening that was refused.
use mathlib.Core.Path.{◌≡◌, refl, ap, ◌∙◌}
use mathlib.Core.Bool.{Bool, true}
use mathlib.Core.List.{List, [], ◌∷◌}
use Prim.Native.Nat.{ℕ, ◌<◌}
use native.Mathlib.Omega.{arith}
use lib.ListN.{length, replicate}
use Rattle.stream.specs.Calls.{refused}
use Rattle.stream.proofs.Outcomes.{by_some}
use Rattle.layout.specs.Writing.{Point}
use Rattle.encode.specs.States.{Enc}
use Rattle.encode.specs.Calls.{open_fault, standing, point_fault, shut, open_of, encode_of, close_of}
use Rattle.encode.proofs.CallLaws.{standing_faults, point_faults}
use Rattle.series.specs.Sittings.{noted, offers_of}
use Rattle.series.specs.Promises.{NeverOpeneds}

module _ (c : ℕ) where
  module _ (e : Enc) (n : ℕ) (bs : List Bool) (h : e.closed ≡ true) where
    twelve : standing c e n ≡ 12
    twelve = (standing_faults c e n).closed h

    pub no_offer : (p : Point) → encode_of c e n bs p ≡ (refused 12, e, bs)
    unfolding encode_of
    no_offer p =
        let k : point_fault c e n p ≡ 12 = (point_faults c e n bs p).first (rw twelve (omega arith)) ∙ twelve in
        rw k (by_some 12 _ _ (omega arith))

    pub no_close : close_of c e n bs ≡ (refused 12, e, bs)
    unfolding close_of
    no_close = rw twelve (by_some 12 _ _ (omega arith))

  is_shut : shut.closed ≡ true
  unfolding shut
  is_shut = refl

  shut_offers : (n : ℕ) (bs : List Bool) (ps : List Point) → offers_of c shut n bs ps ≡ (replicate (length ps) (refused 12), shut, bs)
  unfolding offers_of
  shut_offers n bs [] = refl
  shut_offers n bs (p ∷ ps) = rw (no_offer shut n bs is_shut p) (ap (noted (refused 12)) (shut_offers n bs ps))

  pub never_opened : NeverOpeneds c
  unfolding open_of
  never_opened start n bs ps h =
      let o : open_of c start n bs ≡ (refused (open_fault n), shut, bs) = not_opened start n bs h in
      let all : offers_of c (open_of c start n bs).1 n (open_of c start n bs).2 ps ≡ (replicate (length ps) (refused 12), shut, bs) = rw o (shut_offers n bs ps) in
      record { opening = o; offers = all; closing = rw all (no_close shut n bs is_shut) }
    where
      not_opened : (start n : ℕ) (bs : List Bool) → 0 < open_fault n → open_of c start n bs ≡ (refused (open_fault n), shut, bs)
      not_opened start n bs h = by_some (open_fault n) _ _ h
