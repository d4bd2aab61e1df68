-- What is answered for the meaning of an instruction.
use Rattle.std.specs.Prelude.{◌≡◌, List, [], ◌++◌, Option, None, Bool, true, false, not, ◌||◌, Result, Ok, Err, IsSomeAnd}
use Rattle.std.specs.List.{list_any}
use Rattle.model.specs.declared.value.Value.{Value}
use Rattle.model.specs.declared.instr.Instr.{Instr}
use Rattle.model.specs.declared.instr.Instr.TheVariants.{Return, Invoke}
use Rattle.model.specs.declared.instr.Invocation.TheVariants as invocation
use Rattle.model.specs.Names.{Name, Member}
use Rattle.model.specs.Tree.{Entry}
use Rattle.model.specs.Pool.{method_at}
use Rattle.model.specs.Classes.{Program}
use Rattle.std.specs.Option.{option_map, option_map_or}
use Rattle.model.specs.Conditions.{is_class_or_array}
use Rattle.model.specs.CodeParts.{class_operand}
use Rattle.model.specs.DescriptorParts.{classes_in}
use Rattle.model.specs.CodeConditions.{too_many_dimensions}
use Rattle.model.specs.Resolution.{is_missing, operand_classes}
use Rattle.model.specs.Operands.{values}
use Rattle.model.specs.Sites.{MeaningOf, Site}
use Rattle.model.specs.Meanings.{other_meaning}
use Rattle.instruction_types.specs.Means.{Means}
use Rattle.instruction_types.specs.declared.meaning.Meaning.{Meaning}
use Rattle.instruction_types.specs.declared.meaning.NoMeaning.{NoMeaning}
use Rattle.instruction_types.specs.declared.meaning.NoMeaning.TheVariants as reasons

-- a meaning is told, or there is none; or linking refuses the instruction, or memory ran out
abbrev pub Answers : Program → Site → Bool → Option (MeaningOf Value) → Result Meaning NoMeaning → Type 0
Answers files site refused model (Ok m) = IsSomeAnd model (Means files site m)
Answers files site refused model (Err reasons.Unnamed) = model ≡ None
Answers files site refused model (Err reasons.NotLinked) = refused ≡ true
Answers files site refused model (Err reasons.OutOfMemory) = Unit {0}

-- ---- what linking refuses

-- a return is one of the type that the descriptor of its method names
abbrev pub returned_classes : Name → Instr → List Name
returned_classes descriptor (Return returned) = classes_in descriptor
returned_classes descriptor other = []

-- the classes that an instruction names
abbrev pub classes_named_by : Site → List Name
classes_named_by site = returned_classes site.method.descriptor site.instr ++ operand_classes site.body.pool site.instr

-- a class constant names a class, or an array by its descriptor (JVMS 4.4.1)
abbrev pub is_no_type : Name → Bool
is_no_type name = not (is_class_or_array name)

-- what stands for a class: the operand itself, or what an invokevirtual names a method of
abbrev pub named_constant : List Entry → Instr → Option Name
named_constant pool (Invoke invocation.Virtual index) = option_map (λ (m : Member). m.class) (method_at pool index)
named_constant pool other = class_operand pool other

-- A class that it names is not found, an array would have too many dimensions, or what stands for a class names no type.
abbrev pub is_refused : Program → Site → Bool
is_refused files site =
    list_any (is_missing files) (classes_named_by site)
    || (too_many_dimensions site.body.pool site.instr || option_map_or is_no_type (named_constant site.body.pool site.instr) false)

-- what is answered for an instruction
abbrev pub AnswersAt : Program → Site → Result Meaning NoMeaning → Type 0
AnswersAt files site result = Answers files site (is_refused files site) (other_meaning values files site site.instr) result
