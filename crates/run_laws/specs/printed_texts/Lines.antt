-- What is said of ints that a run prints.
use Rattle.std.specs.Prelude.{◌≡◌, ℤ, List, FitsSigned}
use Rattle.std.specs.List.{All, flat_map}
use Rattle.std.specs.Int.{w32}
use Rattle.model.specs.Texts.{number_line, printed_lines}
use Rattle.model.specs.Report.{line, signed_number}

-- A report shows a line for each, in decimal.
abbrev pub ArePrintedAsLines : Type 0
ArePrintedAsLines = (ints : List ℤ) → All (FitsSigned w32) ints
    → printed_lines (flat_map number_line ints) ≡ flat_map (λ z. line (signed_number z)) ints
