use Rattle.std.proofs.Common.{◌≡◌, drop}
use Rattle.model.specs.StringMethods.{compared}
use Rattle.string_methods.proofs.questions.compared.Given as goal

abbrev pub invariant-loop-at : goal.invariant-loop-at
invariant-loop-at l = compared (drop l.at l.text) (drop l.at l.other) ≡ compared l.text l.other
