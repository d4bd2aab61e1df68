-- Frame types in short, for lists of those of a method.
use Rattle.std.specs.Prelude.{ℕ, List, false, map}
use Rattle.model.specs.Names.{Name, Member, java_lang_class, java_lang_string, java_lang_string_builder, java_lang_throwable}
use Rattle.model.specs.ReferenceTypes.{ClassType}
use Rattle.model.specs.Types.{VerificationType, OfType}
use Rattle.model.specs.TypeOrder.{FrameType}
use Rattle.run_laws.specs.examples.Typings.{frame}

abbrev pub of : Name → VerificationType
of class = OfType (ClassType class)

abbrev pub string : VerificationType
string = of java_lang_string

abbrev pub class : VerificationType
class = of java_lang_class

abbrev pub builder : VerificationType
builder = of java_lang_string_builder

abbrev pub throwable : VerificationType
throwable = of java_lang_throwable

-- offsets at which the local variables have the same types, with the types on the stack at each
abbrev pub with_locals : List VerificationType → List (ℕ × List VerificationType) → List (ℕ × FrameType)
with_locals locals stacks = map (λ entry. (entry.0, frame locals entry.1)) stacks

-- the same in a constructor, before another constructor is called on `this`
abbrev pub before_this : List VerificationType → List (ℕ × List VerificationType) → List (ℕ × FrameType)
before_this locals stacks = map (λ entry. (entry.0, record { slots = record { locals = locals; stack = entry.1 }; constructed = false })) stacks

abbrev pub member : Name → Name → Name → Member
member class name descriptor = record { class = class; name = name; descriptor = descriptor }
