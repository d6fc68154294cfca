-- What the calls state leaves no choice.
use Rattle.std.proofs.Common.{◌≡◌, refl, ap}
use Rattle.std.specs.declared.option.Option.{Option}
use Rattle.std.specs.declared.result.Result.{Result}
use Rattle.std.specs.Prelude.{Some, None, ⊤}
use Rattle.stream.specs.declared.refusal.Refusal.{Refusal}
use Rattle.stream.specs.Refusals.{number_of}
use Rattle.stream.proofs.OneOutcome.{told}
use Rattle.stream.specs.Promises.{Tells}
use Rattle.stream.specs.Calls.{Told}
use Rattle.stream.proofs.Outcomes.{by_number}
use Rattle.layout.specs.Answers.{Answer}
use Rattle.decode.specs.declared.std_decoder.Step.{Step}
use Rattle.decode.specs.declared.std_decoder.Step.TheVariants as step
use Rattle.decode.specs.declared.std_decoder.StdDecoder.{StdDecoder}
use Rattle.decode.specs.States.{tell, tell_open, Ending, ending_of, Dec, kept, view}
use Rattle.decode.specs.Lists.{Stop, tell_stop, Filling}
use Rattle.decode.specs.Promises.{OneOutcome}

-- ---- answers

open_told : Tells (Result ⊤ Refusal) Told tell_open
open_told = told _ (λ u v e. refl)

step_told : Tells Step Answer tell
step_told (step.Point p q) (step.Point r s) e =
    let t : p.time ≡ r.time = cc in
    let v : p.bits ≡ r.bits = cc in
    let w : q.0 ≡ s.0 = cc in
    λ i. step.Point (record { time = t i; bits = v i }) (record { 0 = w i })
step_told (step.Point p q) (step.End s) e = cc
step_told (step.Point p q) (step.Refused s) e = cc
step_told (step.End q) (step.Point r s) e = cc
step_told (step.End q) (step.End s) e = let w : q.0 ≡ s.0 = cc in λ i. step.End (record { 0 = w i })
step_told (step.End q) (step.Refused s) e = cc
step_told (step.Refused q) (step.Point r s) e = cc
step_told (step.Refused q) (step.End s) e = cc
step_told (step.Refused q) (step.Refused s) e =
    let n : number_of q ≡ number_of s = cc in ap step.Refused (by_number q s n)

-- ---- states

ending_told : Tells (Option Step) Ending ending_of
ending_told None None e = refl
ending_told None (Some b) e = cc
ending_told (Some a) None e = cc
ending_told (Some a) (Some b) e = let t : tell a ≡ tell b = cc in ap Some (step_told a b t)

-- a decoder is its numbers
by_view : Tells StdDecoder Dec view
by_view s t e =
    let f = ending_told s.ended t.ended (ap (λ (d : Dec). d.ended) e) in
    λ i. record {
      kept = kept (e i);
      first = (e i).first;
      ended = f i;
      len = record { 0 = (e i).len };
      r = record { at = record { 0 = (e i).at } };
    }

-- ---- lists

stop_told : Tells (Option Step) Stop tell_stop
stop_told None None e = refl
stop_told None (Some b) e = cc
stop_told (Some a) None e = cc
stop_told (Some a) (Some b) e = let t : tell a ≡ tell b = cc in ap Some (step_told a b t)

-- ---- calls

pub one_outcome : OneOutcome
one_outcome = record {
  «open» = λ r s e.
      let a = open_told r.answer s.answer (ap (λ (o : Told × Dec). o.0) e) in
      let d = by_view r.decoder s.decoder (ap (λ (o : Told × Dec). o.1) e) in
      λ i. record { answer = a i; decoder = d i };
  next = λ r s e.
      let a = step_told r.answer s.answer (ap (λ (o : Answer × Dec). o.0) e) in
      let d = by_view r.decoder s.decoder (ap (λ (o : Answer × Dec). o.1) e) in
      λ i. record { answer = a i; decoder = d i };
  unpack = λ r s ts us vs ws e.
      let a = stop_told r.answer s.answer (ap (λ (o : Filling). o.1) e) in
      let d = by_view r.decoder s.decoder (ap (λ (o : Filling). o.2) e) in
      (λ i. record { given = (e i).0; answer = a i; decoder = d i }, ap (λ (o : Filling). o.3) e, ap (λ (o : Filling). o.4) e);
}
