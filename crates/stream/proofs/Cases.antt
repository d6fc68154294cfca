-- The worked cases, by computing.
use mathlib.Core.Path.{refl}
use Rattle.stream.specs.Bits.{odd, bits_of, digit, value_of, bits, edge, padded, field, laid, replaced}
use Rattle.stream.specs.Refusals.{when, or_else, by_fault}
use Rattle.stream.specs.Calls.{field_fault, write_of, read_of, peek_of, ahead_of, in_bits_of}
use Rattle.stream.specs.Cases.{seen_read, seen_write, seen, expected, cases, Worked}

pub worked : Worked
unfolding odd bits_of digit value_of bits edge padded field laid replaced when or_else by_fault field_fault write_of read_of peek_of ahead_of in_bits_of seen_read seen_write seen expected cases
worked = refl
