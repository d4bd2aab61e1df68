use Rattle.std.proofs.Common.{map, take}
use Rattle.command_line.specs.CommandLine.{AreNumerals}
use Rattle.command_line.proofs.numbers.NumberOption.each_of.Given as goal

-- the texts so far are spelled
abbrev pub invariant-loop-text : goal.invariant-loop-text
invariant-loop-text l = AreNumerals l.self.least l.self.most (take l.text-index (map (λ text. text.now) l.texts)) l.numbers.items
