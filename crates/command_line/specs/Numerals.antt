-- Numbers that digits spell (own).
use Rattle.std.specs.Prelude.{◌≤◌, ℕ}
use Rattle.std.specs.Str.Parse.{IsNumeral, digits_value}
use Rattle.clap.specs.Words.{Text}

-- digits alone spell a number from least to most
abbrev pub IsNumeralWithin : (least most : ℕ) → Text → Type 0
IsNumeralWithin least most text = IsNumeral 10 text × (least ≤ digits_value 10 text) × (digits_value 10 text ≤ most)
