use Rattle.std.proofs.Common.{◌≡◌, take}
use Rattle.machine_threads.proofs.machine_opening.objects.words_of.Given as goal

abbrev pub invariant-loop-unit : goal.invariant-loop-unit
invariant-loop-unit l = l.words.items ≡ take l.unit-index l.text
