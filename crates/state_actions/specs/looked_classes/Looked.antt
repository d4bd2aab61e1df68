-- The class that an instruction looks for first (JVMS 5.5, 6.5 getstatic, putstatic, new, invokestatic), by its number.
use Rattle.std.specs.Prelude.{◌≡◌, ℕ, List, Option, Some, None}
use Rattle.model.specs.Classes.{Program}
use Rattle.model.specs.Meanings.{meaning_of}
use Rattle.model.specs.Operands.{words}
use Rattle.model.specs.Sites.{MeaningOf, Site}
use Rattle.linked_code.specs.declared.instruction.LinkedInstruction.{LinkedInstruction}
use Rattle.linked_code.specs.declared.instruction.LinkedInstruction.TheVariants as linked
use Rattle.linked_code.specs.declared.program.LinkedProgram.{LinkedProgram}
use Rattle.linked_code.specs.Linked.{IsLinked}
use Rattle.linked_code.specs.Numbers.{IsClassIf}

-- that of its static field or method, or of the object that it makes; that of System.out and System.err has number 5
abbrev pub class_looked : LinkedInstruction → Option ℕ
class_looked (linked.GetStatic class slot) = Some class
class_looked (linked.PutStatic class slot) = Some class
class_looked (linked.PutBooleanStatic class slot) = Some class
class_looked (linked.PutByteStatic class slot) = Some class
class_looked (linked.PutCharStatic class slot) = Some class
class_looked (linked.PutShortStatic class slot) = Some class
class_looked (linked.New class fields cells) = Some class
class_looked (linked.InvokeStatic parameters class method) = Some class
class_looked (linked.GetSystemStream word) = Some 5
class_looked _ = None

-- whatever instruction it is linked to, that one looks for the class of the number, or for none
abbrev pub LooksFor : LinkedInstruction → Option ℕ → Type 0
LooksFor instruction number =
    (trees : Program) (p : LinkedProgram) (at : ℕ → ℕ) (code : List LinkedInstruction) (site : Site) (k : ℕ) (meaning : MeaningOf ℕ)
    → IsLinked trees p at code site k instruction → meaning_of words trees site ≡ Some meaning → IsClassIf trees number meaning.looks
