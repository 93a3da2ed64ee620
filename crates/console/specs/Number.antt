-- Numbers in decimal digits.
use Rattle.std.specs.Prelude.{ℕ, ◌^◌, Bool, cond, ◌&&◌, List, length, Some, None, Option, nat_lt}
use Rattle.std.specs.Str.Parse.{digits_value}
use Rattle.std.specs.Str.{all_ascii_digits}

-- decimal digits alone, at least one, of a number below 2 ^ 64
abbrev pub is_decimal : List ℕ → Bool
is_decimal bs = all_ascii_digits bs && nat_lt 0 (length bs) && nat_lt (digits_value 10 bs) (2 ^ 64)

-- the number that such a text writes
abbrev pub decimal_of : List ℕ → Option ℕ
decimal_of bs = cond (is_decimal bs) (Some (digits_value 10 bs)) None
