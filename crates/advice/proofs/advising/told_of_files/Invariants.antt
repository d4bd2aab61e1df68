use Rattle.advice.specs.Telling.{TellsFiles}
use Rattle.advice.proofs.advising.told_of_files.Given as goal

abbrev pub invariant-loop-number : goal.invariant-loop-number
invariant-loop-number l = TellsFiles l.classes l.places l.told.items l.number
