use Rattle.std.proofs.Common.{◌≡◌, take}
use Rattle.place_texts.specs.Printing.{deed_lines}
use Rattle.place_texts.proofs.write.print_deeds.Given as goal

abbrev pub invariant-deeds : goal.invariant-deeds
invariant-deeds l = l.text.items ≡ deed_lines (take l.deed-index l.deeds)
