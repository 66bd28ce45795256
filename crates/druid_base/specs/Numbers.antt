-- Numbers in decimal digits, as texts of identifiers, asks, paths and files have them.
use Rattle.std.specs.Prelude.{ℕ, ◌^◌, ◌&&◌, List, Option, Some, None, decimal, nat_lt, if◌then◌else◌}
use Rattle.std.specs.Str.{bytes_eq}
use Rattle.std.specs.Str.Parse.{digits_value}

-- the number below 2^64 that prints as these digits: no zero leads them
unfoldable pub number_at : List ℕ → Option ℕ
number_at digits =
    if nat_lt (digits_value 10 digits) (2 ^ 64) && bytes_eq digits (decimal (digits_value 10 digits))
    then Some (digits_value 10 digits)
    else None
