use Rattle.std.proofs.Common.{◌≡◌, ◌-◌, ◌∷◌, ◌++◌, map}
use Rattle.model.specs.Instruction.{table_jump}
use Rattle.model.specs.Rows.{target, counting}
use Rattle.instruction_types.proofs.operand_types.targets.table_targets.Given as goal

abbrev pub invariant-loop-k : goal.invariant-loop-k
invariant-loop-k l =
    l.all.items ++ map (λ k. target l.offset (table_jump l.code l.at k)) (counting l.k (l.count - l.k)) ≡ l.default ∷ map (λ k. target l.offset (table_jump l.code l.at k)) (counting 0 l.count)
