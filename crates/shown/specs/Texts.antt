-- What `{}` writes of each type, as the codes of its characters.
use Rattle.std.specs.Prelude.{ℕ, ◌-◌, List, ◌++◌, length, replicate, flat_map, Option, Some, false, codes, decimal}
use Rattle.std.specs.Fmt.{digits}
use Rattle.std.specs.declared.result.Result.{Result}
use Rattle.std.specs.declared.result.Result.TheVariants.{Ok, Err}
use Rattle.stream.specs.declared.refusal.Refusal.{Refusal}
use Rattle.stream.specs.Refusals.{number_of}
use Rattle.point.specs.declared.Stored.{Stored}
use Rattle.decode.specs.declared.std_decoder.Step.{Step}
use Rattle.decode.specs.declared.std_decoder.Step.TheVariants.{Point, End, Refused}

-- a number in hex, and the same with zeros before it where it has fewer than k digits
abbrev pub hex : ℕ → List ℕ
hex n = digits 16 false n

abbrev pub hex_of : ℕ → ℕ → List ℕ
hex_of k n = replicate (k - length (hex n)) 48 ++ hex n

-- two digits a byte
abbrev pub bytes_text : List ℕ → List ℕ
bytes_text l = flat_map (hex_of 2) l

-- the refusal's number in document 01
abbrev pub refused_text : Refusal → List ℕ
refused_text why = codes "refused " ++ decimal (number_of why)

-- an answer in its own type's text, or its refusal
abbrev pub told_text : {T : Type 0} → (T → Option (List ℕ)) → Result T Refusal → Option (List ℕ)
told_text text (Ok answer) = text answer
told_text text (Err why) = Some (refused_text why)

-- a point's time, and its value in 16 digits
abbrev pub point_text : Stored → List ℕ
point_text p = decimal p.time ++ codes " " ++ hex_of 16 p.bits

-- a point or the end, with the place behind it, or a refusal
abbrev pub step_text : Step → List ℕ
step_text (Point p at) = codes "point " ++ point_text p ++ codes " at " ++ decimal at.0
step_text (End at) = codes "end at " ++ decimal at.0
step_text (Refused why) = refused_text why
