-- An accepted call hands back a state that stands.
use mathlib.Core.Path.{◌≡◌, refl, sym, ◌∙◌, subst}
use mathlib.Core.Bool.{Bool, true, false, cond}
use mathlib.Core.List.{List}
use Prim.Native.Nat.{ℕ, zero, suc, ◌+◌, ◌*◌, ◌^◌, ◌≤◌, ◌<◌}
use native.Mathlib.Nat.{zero-lt-suc}
use native.Mathlib.Omega.{arith}
use borrow.Author.Tests.{ltb-false}
use lib.Bits.{bit_xor, xor_lt}
use lib.ListN.{length}
use Rattle.stream.specs.Calls.{limit}
use Rattle.stream.proofs.Outcomes.{either, none_holds, not_when, by_none, by_some}
use Rattle.layout.specs.declared.Window.{Window}
use Rattle.layout.specs.Windows.{encoder_window, bad_window, reuses, tight, window_after}
use Rattle.layout.specs.Writing.{Point, point_bits, first_state, later_state, state_after}
use Rattle.layout.proofs.Tests.{by_bool}
use Rattle.layout.proofs.Xors.{zeros_lt}
use Rattle.layout.proofs.Zeros.{bad_windows}
use Rattle.encode.specs.States.{Enc, kept, progress_by, progress}
use Rattle.encode.specs.Calls.{Outcome, refusing, open_fault, standing, room_fault, point_fault, fresh, after, encode_of}
use Rattle.encode.specs.Promises.{StandsOn}
use Rattle.encode.proofs.CallLaws.{misfits, standing_faults, stands_as}

module _ (c : ℕ) where
  -- a window that a state may have
  abbrev Fine : Window → Type 0
  Fine w = bad_window c w ≡ false

  fine_at_first : Fine (encoder_window c)
  fine_at_first = (bad_windows c (encoder_window c)).begins refl refl

  fine_tight : (x : ℕ) → 0 < x → x < 2 ^ (2 ^ c) → Fine (tight c x)
  unfolding tight
  fine_tight x h b = (bad_windows c (tight c x)).digit (zeros_lt (2 ^ c) x h b)

  -- the window stays, or a tight one is opened
  fine_after : (w : Window) (x : ℕ) → x < 2 ^ (2 ^ c) → Fine w → Fine (window_after c w x)
  unfolding window_after
  fine_after w zero b f = f
  fine_after w (suc y) b f =
      by_bool (λ (t : Bool). Fine (cond t w (tight c (suc y)))) (reuses c w (suc y)) (λ t. f) (λ t. fine_tight (suc y) (zero-lt-suc y) b)

  fine_next : (first : Bool) (e : Enc) (p : Point) → bit_xor p.value e.value < 2 ^ (2 ^ c) → Fine e.window
      → Fine (state_after c (progress_by first (kept e)) p).window
  unfolding progress_by state_after first_state later_state
  fine_next true e p b f = f
  fine_next false e p b f = fine_after e.window (bit_xor p.value e.value) b f

  -- ---- the states

  opened : (start n : ℕ) → open_fault n ≡ 0 → standing c (fresh c n start) n ≡ 0
  unfolding open_fault fresh
  opened start n z =
      let a = none_holds _ _ (sym z) in
      let short : n ≤ limit = ltb-false _ _ (not_when _ 5 (omega arith) a.0) in
      let long : 13 ≤ n = ltb-false _ _ (not_when _ 1 (omega arith) a.1) in
      (standing_faults c (fresh c n start) n).stands refl ((misfits c (fresh c n start) n).otherwise refl short (omega arith) (omega arith) ∙ fine_at_first)

  module _ (e : Enc) (n : ℕ) (p : Point) (u : e.value < 2 ^ (2 ^ c)) (v : p.value < 2 ^ (2 ^ c)) (z : point_fault c e n p ≡ 0) where
    fine : Fine e.window → Fine (after c e p).window
    unfolding after
    fine f = fine_next e.first e p (xor_lt (2 ^ c) p.value e.value v u) f

    offered : standing c (after c e p) n ≡ 0
    unfolding point_fault room_fault after
    offered =
        let a = none_holds _ _ (sym z) in
        let s = stands_as c e n a.0 in
        let room : e.at + length (point_bits c (progress e) p) + 36 ≤ 8 * e.len = ltb-false _ _ (not_when _ 1 (omega arith) (none_holds _ _ a.1).1) in
        (standing_faults c (after c e p) n).stands refl
        ((misfits c (after c e p) n).otherwise s.same s.small (omega (arith, s.begun)) (omega (arith, room)) ∙ fine s.window)

  pub stands_on : StandsOn c
  stands_on = record { opened = opened; offered = offered }

-- ---- what an offer hands back, by its outcome

module _ (e : Enc) (n : ℕ) (z : 0 ≡ standing 6 e n) where
  pub refused_stands : (v : Enc) → v ≡ e → 0 ≡ standing 6 v n
  refused_stands v h = rw h z

  pub told_stands : (bs : List Bool) (p : Point) (o : Outcome) → o ≡ encode_of 6 e n bs p → e.value < 2 ^ 64 → p.value < 2 ^ 64
      → (o ≡ encode_of 6 e n bs p) × (0 ≡ standing 6 o.1 n)
  unfolding encode_of
  told_stands bs p o h u v = (
    h,
    either (point_fault 6 e n p)
        (λ none. subst (λ (x : Outcome). 0 ≡ standing 6 x.1 n) (sym (h ∙ by_none (point_fault 6 e n p) _ (refusing e bs) none)) (sym ((stands_on 6).offered e n p u v (sym none))))
        (λ some. subst (λ (x : Outcome). 0 ≡ standing 6 x.1 n) (sym (h ∙ by_some (point_fault 6 e n p) _ (refusing e bs) some)) z),
  )
