-- The texts of the Strings of a heap, and what their methods answer by the words on top of a stack (own).
use Rattle.std.specs.Prelude.{◌==◌, ℕ, zero, suc, List, Option, Some, None, Bool, false, if◌then◌else◌, slice_get}
use Rattle.model.specs.declared.string_method.StringMethod.{StringMethod}
use Rattle.model.specs.BuiltInNumbers.{string_number}
use Rattle.model.specs.StringMethods.{StringAnswer, string_answer}
use Rattle.model.specs.Texts.{Text}
use Rattle.heap.specs.declared.kind.ObjectKind.{ObjectKind}
use Rattle.heap.specs.declared.kind.ObjectKind.TheVariants as kind
use Rattle.heap.specs.Heap.{Object}
use Rattle.thread_stacks.specs.Stacks.{ShownEntry}
use Rattle.machine_instructions.specs.thread_methods.Moves.{operand_of}

abbrev pub is_string : ObjectKind → Bool
is_string (kind.Instance class) = class == string_number
is_string _ = false

-- the units of a String, each a word; none of another object
abbrev pub text_in : Option Object → Option Text
text_in None = None
text_in (Some object) = if is_string object.kind then Some object.words else None

-- of the object to which a word refers
abbrev pub text_by : List Object → ℕ → Option Text
text_by objects zero = None
text_by objects (suc reference) = text_in (slice_get objects reference)

abbrev pub answer_by : StringMethod → List Object → List ShownEntry → StringAnswer
answer_by method objects stack = string_answer method (λ k. operand_of k stack) (λ k. text_by objects (operand_of k stack))
