-- What the answer of a method is by the definitions, and when there may be no memory for it (own).
use Rattle.std.specs.Prelude.{◌≡◌, Option, Some, None, Result, Ok, Err}
use Rattle.std.specs.declared.alloc.AllocError.{AllocError}
use Rattle.model.specs.StringMethods.{StringAnswer, IsNull, IsOutside, Answers, Composes}
use Rattle.model.specs.StringMethods as model
use Rattle.string_methods.specs.declared.answer.StringAnswer as code
use Rattle.string_methods.specs.declared.answer.StringAnswer.TheVariants as answer

abbrev pub shown : code.StringAnswer → StringAnswer
shown answer.Outside = IsOutside
shown (answer.Int bits) = Answers bits
shown (answer.Same operand) = model.Same operand
shown (answer.Composed units) = Composes units.items

-- it is the answer that is wanted; or that is a new String, and there was no memory for it
abbrev pub IsAnswer : Result code.StringAnswer AllocError → StringAnswer → Type 0
IsAnswer (Ok answer) wanted = shown answer ≡ wanted
IsAnswer (Err error) (Composes text) = Unit {0}
IsAnswer (Err error) wanted = ⊥

-- the same; with none a null is told
abbrev pub IsAnswerIfAny : Option (Result code.StringAnswer AllocError) → StringAnswer → Type 0
IsAnswerIfAny None wanted = wanted ≡ IsNull
IsAnswerIfAny (Some result) wanted = IsAnswer result wanted
