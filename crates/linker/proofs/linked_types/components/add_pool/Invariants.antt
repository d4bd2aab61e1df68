use Rattle.std.proofs.Common.{◌≤◌}
use Rattle.classfile.specs.View.{file_of}
use Rattle.linker.specs.linked_types.Components.{AddsOnly, Grows, IsInPool}
use Rattle.linker.proofs.linked_types.ComponentTypes.{NamedBefore}
use Rattle.linker.proofs.linked_types.components.add_pool.Given as goal

abbrev pub invariant-loop-index : goal.invariant-loop-index
invariant-loop-index l = (l.index ≤ 0x10000) × Grows l.set l.initial.components l.components l.index × NamedBefore l.set (file_of l.file) l.index l.components × AddsOnly l.initial.components l.components (IsInPool (file_of l.file))
