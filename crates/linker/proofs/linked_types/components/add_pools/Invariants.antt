use Rattle.std.proofs.Common.{◌≤◌, ◌*◌, length}
use Rattle.model.specs.Classes.{classes_of}
use Rattle.linker.specs.linked_types.Components.{AddsOnly, Grows, IsInProgram}
use Rattle.linker.proofs.linked_types.ComponentTypes.{AllBefore}
use Rattle.linker.proofs.linked_types.components.add_pools.Given as goal

abbrev pub invariant-loop-place : goal.invariant-loop-place
invariant-loop-place l = (l.place ≤ length (classes_of l.set)) × Grows l.set l.initial.components l.components (l.place * 0x10000) × AllBefore l.set l.place l.components × AddsOnly l.initial.components l.components (IsInProgram l.set)
