-- What the private parts of unpacking mean. No public call mentions it.
use Rattle.std.specs.Prelude.{ℕ, ◌+◌, List, ◌++◌, map, length, take, drop}
use Rattle.layout.specs.Writing.{Point}
use Rattle.layout.specs.Answers.{Answer}
use Rattle.decode.specs.declared.std_decoder.unpack.Unpacked.{Unpacked}
use Rattle.decode.specs.States.{Dec, view}
use Rattle.decode.specs.Calls.{ends}
use Rattle.decode.specs.Lists.{Stop, said, tell_stop, Unpacking, starting_with, Filling}

abbrev pub told_stopped : Unpacked → ℕ × Stop × Dec
told_stopped r = (r.given, tell_stop r.answer, view r.decoder)

-- so many points before the answer a, with which the decoder d ends
abbrev pub stopped_of : ℕ → Dec → Answer → ℕ × Stop × Dec
stopped_of n d a = (n, said a, (ends d a).1)

-- a list whose entries from i on are xs, the others as they were
unfoldable pub over_from : ℕ → List ℕ → List ℕ → List ℕ
over_from i xs ts = take i ts ++ starting_with xs (drop i ts)

-- i were given before
unfoldable pub filling_from : ℕ → List ℕ → List ℕ → Unpacking → Filling
filling_from i ts vs u =
    (i + length u.0, u.1, u.2, over_from i (map (λ (p : Point). p.time) u.0) ts, over_from i (map (λ (p : Point). p.value) u.0) vs)
