use Rattle.std.proofs.Common.{◌≡◌, drop}
use Rattle.model.specs.StringMethods.{hash_after}
use Rattle.string_methods.proofs.questions.hash_code.Given as goal

abbrev pub invariant-loop-unit : goal.invariant-loop-unit
invariant-loop-unit l = hash_after l.hash (drop l.unit-index l.text) ≡ hash_after 0 l.text
