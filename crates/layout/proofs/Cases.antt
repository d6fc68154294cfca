-- The marked cases, by computing.
use mathlib.Core.Path.{refl}
use lib.Count.{count_leading_zeros, count_trailing_zeros}
use Rattle.stream.specs.Bits as stream
use Rattle.stream.specs.Refusals.{or_else}
use Rattle.stream.specs.Bits.{odd, digit, bits_of, value_of, edge, padded, field}
use Rattle.layout.specs.Rows.{within, raw, signed}
use Rattle.layout.specs.Windows.{reuses, tight, reuse_bits, open_bits, xor_bits, window_after}
use Rattle.layout.specs.Writing.{time_fault, in_row, row_bits, dod_bits, start_bits, marker, first_bits, later_bits, point_bits, first_state, later_state, state_after, rest_bits, stream_bits}
use Rattle.layout.specs.Reading.{run, read_start, read_row, read_dod, new_time, read_marker, read_digits, read_opened, read_window, read_xor, read_value, after_dod, read_later, first_time, read_first, read_next}
use Rattle.layout.specs.Answers.{position, reached, answer_of, step, after_start, first_step, next_step, outcomes_after, outcomes, answers}
use Rattle.layout.specs.Cases.{first_fault, seen, expected, marked_cases, other_cases, rule_cases, item_cases, torn_item, Marked}

pub marked : Marked
unfolding odd digit bits_of value_of stream.bits edge padded field within raw signed reuses tight reuse_bits open_bits xor_bits window_after time_fault in_row row_bits dod_bits start_bits marker first_bits later_bits point_bits first_state later_state state_after rest_bits stream_bits run read_start read_row read_dod new_time read_marker read_digits read_opened read_window read_xor read_value after_dod read_later first_time read_first read_next position reached answer_of step after_start first_step next_step outcomes_after outcomes answers or_else first_fault seen expected marked_cases other_cases rule_cases item_cases torn_item count_leading_zeros count_trailing_zeros
marked = refl
