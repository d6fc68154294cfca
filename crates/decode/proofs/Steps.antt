-- The readers of a step, by what was read.
use Rattle.std.proofs.Common.{◌≡◌, ℕ, cond, eqb, List, refl, ◌∙◌, eq-eqb, ne_eqb}
use Rattle.layout.specs.declared.Window.{Window}
use Rattle.layout.specs.Reading.{done, run, read_start, item, first_marker, ending, wrong, marker_rest, read_marker, read_first, read_next}
use Rattle.layout.specs.Answers.{end_at, wrong_at, step, after_start, first_step}
use Rattle.layout.proofs.Runs.{run_there, run_cut}
use Rattle.decode.specs.declared.field.Peeked.{Peeked}
use Rattle.std.specs.Prelude.{Ok, Err}
use Rattle.stream.specs.declared.refusal.Refusal.{Refusal}
use Rattle.stream.specs.Bits.{bits}
use Rattle.decode.specs.Parts.{place, GotField, unplaced, comes_to, from}
use Rattle.decode.proofs.Fields.{at_place, by_whole, done_end, done_wrong}

-- ---- the start

module _ (c : ℕ) (w : Window) (p : ℕ) (l : List ℕ) where
  pub start_short : (x : Refusal) → GotField l p 64 (Err x) → wrong_at 6 0 ≡ unplaced (first_step c w p (bits l))
  unfolding GotField first_step after_start read_start unplaced
  start_short x k = rw (run_cut (tt {0}) 64 (λ start. done start) p (bits l) k.1)

  pub start_whole : (x : ℕ × Peeked) → GotField l p 64 (Ok x) → from (read_first c x.0 w) x.1 ≡ unplaced (first_step c w p (bits l))
  unfolding GotField first_step after_start read_start run step read_next comes_to
  start_whole x k = at_place x.1 _ l (k.3, k.4) (read_first c x.0 w) ∙ rw (run_there (tt {0}) 64 (λ start. done start) p (bits l) k.0, ← k.1) refl

-- ---- the marker in the first point's place

module _ (p : ℕ) (l : List ℕ) (x : ℕ × Peeked) (k : GotField l p 35 (Ok x)) where
  read : from (done (cond (eqb x.0 marker_rest) ending (wrong 8))) x.1 ≡ comes_to read_marker p (bits l)
  unfolding read_marker
  read = by_whole (item first_marker 1) 35 (λ m. done (cond (eqb m marker_rest) ending (wrong 8))) p l x k

  pub marker_end : x.0 ≡ marker_rest → end_at (place x.1) ≡ comes_to read_marker p (bits l)
  marker_end h = done_end _ _ ∙ (rw (eq-eqb x.0 marker_rest h) at read)

  pub marker_wrong : (x.0 ≡ marker_rest → ⊥) → wrong_at 8 0 ≡ comes_to read_marker p (bits l)
  marker_wrong h = done_wrong _ _ 8 ∙ (rw (ne_eqb x.0 marker_rest h) at read)
