-- The operands by which an instruction reads or writes a field of an object or an element, by the words of its stack (JVMS 6.5).
use Rattle.std.specs.Prelude.{◌≡◌, ℕ, List, Some, true, map, slice_index_or}
use Rattle.model.specs.declared.value.Value.{Value}
use Rattle.model.specs.declared.instr.FieldAccess.TheVariants as access
use Rattle.model.specs.declared.instr.Instr.{Instr}
use Rattle.model.specs.declared.instr.Instr.TheVariants as instr
use Rattle.model.specs.Names.{Member}
use Rattle.model.specs.Classes.{Program, Body}
use Rattle.model.specs.Operands.{Slots, values, word_of, word_reference}
use Rattle.model.specs.State.{types_of, World}
use Rattle.model.specs.Sites.{MeaningOf, Site, site_at, operand, referent, int_operand}
use Rattle.model.specs.Meanings.{meaning_of}
use Rattle.model.specs.Step.{ops_of}

abbrev pub IsReference : List Value → (operands : List ℕ) → (place : ℕ) → Type 0
IsReference ops operands place = referent values ops place ≡ word_reference (slice_index_or operands place 0)

abbrev pub IsInt : List Value → (operands : List ℕ) → (place : ℕ) → Type 0
IsInt ops operands place = int_operand values ops place ≡ slice_index_or operands place 0

abbrev pub IsWord : List Value → (operands : List ℕ) → (place : ℕ) → Type 0
IsWord ops operands place = word_of (operand values ops place) ≡ slice_index_or operands place 0

-- the object or the array, and the index of an element; of a store the value, too
abbrev pub ReadsAt : List Value → (operands : List ℕ) → Instr → Type 0
ReadsAt ops operands (instr.Field access.GetField index) = IsReference ops operands 0
ReadsAt ops operands (instr.Field access.PutField index) = IsReference ops operands 1
ReadsAt ops operands (instr.LoadElement kind) = IsReference ops operands 1 × IsInt ops operands 0
ReadsAt ops operands (instr.StoreElement kind) = IsReference ops operands 2 × IsInt ops operands 1 × IsWord ops operands 0
ReadsAt ops operands _ = Unit {0}

-- where the slots of a frame have the operands that the instruction of a site wants
abbrev pub AreOperandsRead : Type 0
AreOperandsRead =
    (trees : Program) (method : Member) (code : Body) (offset : ℕ) (site : Site) → site_at method code offset ≡ Some site
    → (meaning : MeaningOf Value) → meaning_of values trees site ≡ Some meaning
    → (world : World) (max_stack : ℕ) (slots : Slots Value) → values.finds trees (types_of world.heap) meaning.wants max_stack slots ≡ true
    → ReadsAt (ops_of values meaning slots) (map word_of slots.stack) site.instr
