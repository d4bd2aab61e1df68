use Rattle.std.proofs.Common.{◌≡◌, drop}
use Rattle.std.specs.List.{list_any}
use Rattle.model.specs.Typing.{is_any_this}
use Rattle.instruction_types.specs.Successors.{found_by}
use Rattle.verifier.proofs.flow_effects.lead.finds_this.Given as goal

abbrev pub invariant-loop-k : goal.invariant-loop-k
invariant-loop-k l = list_any is_any_this (drop l.k (found_by l.set l.wants l.frame)) ≡ list_any is_any_this (found_by l.set l.wants l.frame)
