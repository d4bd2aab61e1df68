use Rattle.std.proofs.Common.{map, take}
use Rattle.machine_threads.specs.machine_opening.Opened.{AddsObjects, string_object}
use Rattle.machine_threads.proofs.machine_opening.objects.add_strings.Given as goal

-- so many of them are there
abbrev pub invariant-loop-text : goal.invariant-loop-text
invariant-loop-text l = AddsObjects (map (λ text. string_object text.items) (take l.text-index l.texts)) l.fn.heap l.heap
