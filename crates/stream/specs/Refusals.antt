-- Refusals as document 01 numbers them.
use Rattle.std.specs.Prelude.{Bool, true, false, List, ℕ, zero, suc, codes}
use Rattle.stream.specs.declared.refusal.Refusal.{Refusal}
use Rattle.stream.specs.declared.refusal.Refusal.TheVariants.{NoRoom, TimeFalls, FirstDelta, DodRange, TooLong, NoStart, CutShort, BadEnd, BadWindow, ReadTimeFalls, ReadTimePasses, Closed, NoFit}

-- document 01's table: the numbers
abbrev pub number_of : Refusal → ℕ
number_of NoRoom = 1
number_of TimeFalls = 2
number_of FirstDelta = 3
number_of DodRange = 4
number_of TooLong = 5
number_of NoStart = 6
number_of CutShort = 7
number_of BadEnd = 8
number_of BadWindow = 9
number_of ReadTimeFalls = 10
number_of ReadTimePasses = 11
number_of Closed = 12
number_of NoFit = 13

-- and the names
abbrev pub name_of : Refusal → List ℕ
name_of NoRoom = codes "no room"
name_of TimeFalls = codes "time falls"
name_of FirstDelta = codes "first delta"
name_of DodRange = codes "dod range"
name_of TooLong = codes "too long"
name_of NoStart = codes "no start"
name_of CutShort = codes "cut short"
name_of BadEnd = codes "bad end"
name_of BadWindow = codes "bad window"
name_of ReadTimeFalls = codes "read time falls"
name_of ReadTimePasses = codes "read time passes"
name_of Closed = codes "closed"
name_of NoFit = codes "no fit"

-- ---- rules in order: a number, or 0 where no rule holds

-- the refusal of one rule
unfoldable pub when : Bool → ℕ → ℕ
when true r = r
when false r = 0

-- the first of two
unfoldable pub or_else : ℕ → ℕ → ℕ
or_else zero s = s
or_else (suc r) s = suc r

-- by a fault: the outcome where there is none, or the one that tells it
unfoldable pub by_fault : {A : Type 0} → ℕ → A → (ℕ → A) → A
by_fault zero done refuse = done
by_fault (suc r) done refuse = refuse (suc r)
