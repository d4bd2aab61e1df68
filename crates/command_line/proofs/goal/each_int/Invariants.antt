use Rattle.std.proofs.Common.{map, take}
use Rattle.command_line.specs.Goals.{AreEachInt}
use Rattle.command_line.proofs.goal.each_int.Given as goal

-- the texts so far are spelled
abbrev pub invariant-loop-text : goal.invariant-loop-text
invariant-loop-text l = AreEachInt (take l.text-index (map (λ text. text.now) l.texts)) l.ints.items
