-- What the private parts of a step mean, in the layout's words. No public call mentions it.
use Rattle.std.specs.Prelude.{◌≡◌, ℕ, ◌+◌, ◌^◌, ◌<◌, ◌≤◌, Bool, false, List, length, ℤ, Ok, Err, Some, None}
use Rattle.std.specs.declared.option.Option.{Option}
use Rattle.std.specs.declared.result.Result.{Result}
use Rattle.stream.specs.declared.refusal.Refusal.{Refusal}
use Rattle.stream.specs.declared.refusal.Refusal.TheVariants.{CutShort}
use Rattle.stream.specs.Bits.{value_of, bits, field}
use Rattle.stream.specs.Refusals.{number_of}
use Rattle.layout.specs.Rows.{signed}
use Rattle.layout.specs.declared.Window.{Window}
use Rattle.layout.specs.Reading.{run, Reader, read_digits}
use Rattle.layout.specs.Answers.{Reached, point_at, end_at, wrong_at, reached}
use Rattle.decode.specs.declared.field.Peeked.{Peeked}
use Rattle.decode.specs.declared.timestamp.Dod.{Dod}
use Rattle.decode.specs.declared.timestamp.Dod.TheVariants as dod
use Rattle.decode.specs.declared.value.Value.{Value}
use Rattle.decode.specs.declared.value.Head.{Head}
use Rattle.decode.specs.declared.value.Head.TheVariants as head
use Rattle.decode.specs.declared.found.Found.{Found}
use Rattle.decode.specs.declared.found.Found.TheVariants as found
use Rattle.decode.specs.declared.std_decoder.Step.{Step}
use Rattle.decode.specs.States.{tell, still, Dec}
use Rattle.decode.specs.Calls.{no_fit, next_of}

abbrev pub place : Peeked → ℕ
place p = p.r.at.0

-- a field's number, with what is behind it
abbrev pub Got : Type 0
Got = Result (ℕ × Peeked) Refusal

-- a field of n bits at p among those of the bytes l, with what is behind it on the same bytes; 7 where it is not wholly there
unfoldable pub GotField : List ℕ → ℕ → ℕ → Got → Type 0
GotField l p n (Err e) = (e ≡ CutShort) × (length (bits l) < p + n)
GotField l p n (Ok g) = (p + n ≤ length (bits l)) × (g.0 ≡ value_of (field (bits l) p n)) × (g.0 < 2 ^ n) × (place g.1 ≡ p + n) × (g.1.buf.now ≡ l)

-- ---- what a reader comes to, but for a refusal's place, which no answer tells

unfoldable pub unplaced : Reached → Reached
unplaced (point_at s q) = point_at s q
unplaced (end_at q) = end_at q
unplaced (wrong_at k q) = wrong_at k 0

unfoldable pub comes_to : Reader → ℕ → List Bool → Reached
comes_to r p s = unplaced (reached (run r p s))

abbrev pub from : Reader → Peeked → Reached
from r p = comes_to r (place p) (bits p.buf.now)

-- what a part of a step found, and what the rest f makes of it: a refusal ends the step

unfoldable pub then_found : {A : Type 0} → Result A Refusal → (A → Reached) → Reached
then_found (Err x) f = wrong_at (number_of x) 0
then_found (Ok a) f = f a

-- and what holds of it
unfoldable pub Then : {A : Type 0} → Result A Refusal → (A → Type 0) → Type 0
Then (Err x) P = Unit {0}
Then (Ok a) P = P a

unfoldable pub dod_then : (ℤ → Reader) → Dod → Reached
dod_then f (dod.End r) = end_at r.at.0
dod_then f (dod.Got d r) = from (f (signed d.width d.raw)) r

abbrev pub then_dod : Result Dod Refusal → (ℤ → Reader) → Reached
then_dod d f = then_found d (dod_then f)

-- what is behind a dod's field is on the bytes l
unfoldable pub FieldOf : List ℕ → Dod → Type 0
FieldOf l (dod.End r) = Unit {0}
FieldOf l (dod.Got d r) = r.buf.now ≡ l

abbrev pub InField : List ℕ → Result Dod Refusal → Type 0
InField l d = Then d (FieldOf l)

abbrev pub then_time : ℕ → List Bool → Result (ℕ × ℕ) Refusal → (ℕ → ℕ → Reader) → Reached
then_time q s t f = then_found t (λ x. comes_to (f x.0 x.1) q s)

abbrev pub then_value : Result Value Refusal → (Window → ℕ → Reader) → Reached
then_value v f = then_found v (λ x. from (f x.window x.bits) x.r)

-- a window has digits
abbrev pub Digits : Window → Type 0
Digits w = w.lead + w.trail < 64

-- its window has digits, and what is behind it is on the bytes l
abbrev pub Behind : List ℕ → Result Value Refusal → Type 0
Behind l v = Then v (λ x. (x.r.buf.now ≡ l) × Digits x.window)

-- what a value begins with; v is the previous value, w its window
unfoldable pub head_then : ℕ → Window → (Window → ℕ → Reader) → Head → Reached
head_then v w f (head.Same r) = from (f w v) r
head_then v w f (head.Digits o r) = from (read_digits 6 v o f) r

abbrev pub then_head : ℕ → Window → Result Head Refusal → (Window → ℕ → Reader) → Reached
then_head v w h f = then_found h (head_then v w f)

-- a window has digits; what is behind the head is on the bytes l
unfoldable pub SoundHead : List ℕ → Head → Type 0
SoundHead l (head.Same r) = r.buf.now ≡ l
SoundHead l (head.Digits o r) = Digits o × (r.buf.now ≡ l)

abbrev pub Sound : List ℕ → Result Head Refusal → Type 0
Sound l h = Then h (SoundHead l)

-- what a whole step found
unfoldable pub step_of : Found → Reached
step_of (found.End r) = end_at r.at.0
step_of (found.Point k r) = point_at k (place r)

abbrev pub found_of : Result Found Refusal → Reached
found_of f = then_found f step_of

-- a point's window has digits, and what is behind it is on the bytes l
unfoldable pub CarriedOn : List ℕ → Found → Type 0
CarriedOn l (found.End r) = Unit {0}
CarriedOn l (found.Point k r) = (r.buf.now ≡ l) × Digits k.window

abbrev pub Carried : List ℕ → Result Found Refusal → Type 0
Carried l f = Then f (CarriedOn l)

-- what a decoder answers at once is the answer of a step, which changes nothing; one that reads on has not ended and fits
unfoldable pub AtOnce : Dec → ℕ → Option Step → Type 0
AtOnce d n (Some a) = (bs : List Bool) → (tell a, d) ≡ next_of 6 d n bs
AtOnce d n None = (d.ended ≡ still) × (no_fit 6 d n ≡ false)
