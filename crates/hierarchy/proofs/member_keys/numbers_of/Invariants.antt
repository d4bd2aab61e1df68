use Rattle.std.proofs.Common.{◌≡◌, map, take}
use Rattle.model.specs.Pool.{utf8_of}
use Rattle.constant_pool.specs.View.{entry_of}
use Rattle.hierarchy.specs.MemberKeys.{number_of}
use Rattle.hierarchy.proofs.member_keys.numbers_of.Given as goal

abbrev pub invariant-loop-constant : goal.invariant-loop-constant
invariant-loop-constant l = l.numbers.items ≡ map (λ c. number_of l.texts (utf8_of (entry_of c))) (take l.constant-index l.constants)
