-- What a hole with zeros before its hex digits writes.
use Rattle.std.proofs.Common.{◌≡◌, ℕ, ◌-◌, ◌^◌, false, [], length, arith}
use Rattle.std.specs.Fmt.{digits, padded_integral, format_spec, char_count}
use Rattle.std.proofs.lemmas.List.{append-nil}
use Rattle.shown.specs.Texts.{hex_of}

pub zeros_before : (k n : ℕ) → padded_integral (format_spec 32 0 4 k (2 ^ 64 - 1)) false [] (digits 16 false n) ≡ hex_of k n
unfolding padded_integral char_count
zeros_before k n =
    let ds = digits 16 false n in
    let short : k - length ds - 0 - 0 ≡ k - length ds = omega arith in
    rw (short, append-nil ds)
