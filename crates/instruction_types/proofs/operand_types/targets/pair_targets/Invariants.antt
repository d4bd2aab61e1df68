use Rattle.std.proofs.Common.{◌≡◌, ◌-◌, ◌∷◌, ◌++◌, map}
use Rattle.model.specs.Instruction.{lookup_pair}
use Rattle.model.specs.Rows.{target, counting}
use Rattle.instruction_types.proofs.operand_types.targets.pair_targets.Given as goal

abbrev pub invariant-loop-k : goal.invariant-loop-k
invariant-loop-k l =
    l.all.items ++ map (λ k. target l.offset (lookup_pair l.code l.at k).1) (counting l.k (l.pairs - l.k)) ≡ l.default ∷ map (λ k. target l.offset (lookup_pair l.code l.at k).1) (counting 0 l.pairs)
