-- What is promised of the decoder's calls.
use Rattle.std.specs.Prelude.{◌≡◌, ℕ, ◌*◌, ◌<◌, ◌≤◌, Bool, true, false, List, length, replicate, ◌≢◌, ⊤}
use Rattle.stream.specs.Promises.{Tells}
use Rattle.stream.specs.Calls.{limit, Told, refused}
use Rattle.layout.specs.Windows.{no_digit}
use Rattle.layout.specs.Answers.{Answer, refusal, answers}
use Rattle.std.specs.declared.result.Result.{Result}
use Rattle.stream.specs.declared.refusal.Refusal.{Refusal}
use Rattle.decode.specs.declared.std_decoder.Step.{Step}
use Rattle.decode.specs.declared.std_decoder.Decoded.{Decoded}
use Rattle.decode.specs.declared.std_decoder.unpack.Unpacked.{Unpacked}
use Rattle.decode.specs.States.{still, over, Dec}
use Rattle.decode.specs.Calls.{told_opened, told_next, open_of, stepped, no_fit, onward, next_of, nexts_of}
use Rattle.decode.specs.Lists.{told_unpacked}

-- `one_outcome`: no two outcomes meet the statement of a call
pub record OneOutcome : Type 0 where
  pub «open» : Tells (Decoded (Result ⊤ Refusal)) (Told × Dec) told_opened
  pub next : Tells (Decoded Step) (Answer × Dec) told_next
  pub unpack : (r s : Unpacked) (ts us vs ws : List ℕ) → told_unpacked r ts vs ≡ told_unpacked s us ws → (r ≡ s) × (ts ≡ us) × (vs ≡ ws)

module _ (c : ℕ) where
  -- `misfits`: when a state does not fit a buffer of n bytes, rule by rule
  pub record Misfit (d : Dec) (n : ℕ) : Type 0 where
    pub other_length : (n ≢ d.len) → no_fit c d n ≡ true
    pub too_long : n ≡ d.len → limit < d.len → no_fit c d n ≡ true
    pub too_late : n ≡ d.len → d.len ≤ limit → 8 * d.len < d.at → no_fit c d n ≡ true
    pub otherwise : n ≡ d.len → d.len ≤ limit → d.at ≤ 8 * d.len → no_fit c d n ≡ no_digit c d.window

  abbrev pub Misfits : Type 0
  Misfits = (d : Dec) (n : ℕ) → Misfit d n

  -- `every_state`: a step from any state, also one that no calls reach: an ended one repeats its answer; 13 neither ends nor changes it;
  -- else the fields are read
  pub record EveryState (d : Dec) (n : ℕ) (bs : List Bool) : Type 0 where
    pub repeats : (a : Answer) → d.ended ≡ over a → next_of c d n bs ≡ (a, d)
    pub thirteen : d.ended ≡ still → no_fit c d n ≡ true → next_of c d n bs ≡ (refusal 13, d)
    pub goes_on : d.ended ≡ still → no_fit c d n ≡ false → next_of c d n bs ≡ stepped d (onward c d bs)

  abbrev pub EveryStates : Type 0
  EveryStates = (d : Dec) (n : ℕ) (bs : List Bool) → EveryState d n bs

  -- `opened_answers`: a decoder opened on a buffer within the limit, whose bits are bs, and stepped k times, gives the layout's answers
  abbrev pub OpenedAnswers : Type 0
  OpenedAnswers = (k n : ℕ) (bs : List Bool) → n ≤ limit → length bs ≡ 8 * n → nexts_of c k (open_of n).1 n bs ≡ answers c k bs

  -- `refused_answers`: one whose opening was refused repeats that, whatever buffer it is given
  abbrev pub RefusedAnswers : Type 0
  RefusedAnswers = (k n m : ℕ) (bs : List Bool) → limit < n → ((open_of n).0 ≡ refused 5) × (nexts_of c k (open_of n).1 m bs ≡ replicate k (refusal 5))
