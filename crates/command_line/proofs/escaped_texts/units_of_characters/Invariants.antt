use Rattle.std.proofs.Common.{◌≡◌, drop}
use Rattle.command_line.specs.EscapedTexts.{units_behind}
use Rattle.command_line.proofs.EscapedTextLemmas.{in_front}
use Rattle.command_line.proofs.escaped_texts.units_of_characters.Given as goal

-- the units so far, and what is left
abbrev pub invariant-characters : goal.invariant-characters
invariant-characters l = units_behind 0 l.fn.characters ≡ in_front l.units.items (units_behind l.passed_over (drop l.at l.characters))
