-- The class that must be initialised before an instruction is done (JVMS 5.5, 6.5 getstatic, putstatic, new, invokestatic).
use Rattle.std.specs.Prelude.{◌≡◌, ℕ, List, Option, Some, None}
use Rattle.model.specs.Names.{Name}
use Rattle.model.specs.Classes.{Program}
use Rattle.model.specs.ClassInitialisation.{IsReady, look_at}
use Rattle.model.specs.Meanings.{meaning_of}
use Rattle.model.specs.Operands.{words}
use Rattle.model.specs.Sites.{MeaningOf, Site}
use Rattle.model.specs.State.{WorldOf}
use Rattle.linked_code.specs.declared.instruction.LinkedInstruction.{LinkedInstruction}
use Rattle.linked_code.specs.declared.instruction.LinkedInstruction.TheVariants as linked
use Rattle.linked_code.specs.declared.program.LinkedProgram.{LinkedProgram}
use Rattle.linked_code.specs.Linked.{IsLinked}
use Rattle.linked_code.specs.Numbers.{IsClassAt}

-- a number is that of the class; where there is none, each thread finds what it needs ready in each world
abbrev pub IsNeeded : Program → Option Name → Option ℕ → Type 0
IsNeeded trees looks (Some number) = (class : Name) × (looks ≡ Some class) × IsClassAt trees number class
IsNeeded trees looks None = (t : ℕ) (world : WorldOf ℕ) → look_at t world looks ≡ IsReady

-- the class that an instruction of linked code has by its number: that of its static field or method, or of the object that it makes
abbrev pub class_in : LinkedInstruction → Option ℕ
class_in (linked.GetStatic class slot) = Some class
class_in (linked.PutStatic class slot) = Some class
class_in (linked.PutBooleanStatic class slot) = Some class
class_in (linked.PutByteStatic class slot) = Some class
class_in (linked.PutCharStatic class slot) = Some class
class_in (linked.PutShortStatic class slot) = Some class
class_in (linked.New class cells uncounted) = Some class
class_in (linked.InvokeStatic parameters class method) = Some class
class_in _ = None

-- whatever instruction it is linked to, that one needs the class
abbrev pub Needs : LinkedInstruction → Option ℕ → Type 0
Needs instruction number =
    (trees : Program) (p : LinkedProgram) (at : ℕ → ℕ) (code : List LinkedInstruction) (site : Site) (k : ℕ) (meaning : MeaningOf ℕ)
    → IsLinked trees p at code site k instruction → meaning_of words trees site ≡ Some meaning → IsNeeded trees meaning.looks number
