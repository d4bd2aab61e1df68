-- What is wanted of a value that is passed on, and what is told of a call.
use Rattle.std.specs.Prelude.{◌≡◌, ◌||◌, ℕ, List, Bool, Option, Some, None, true, map, Result, Ok, Err}
use Rattle.std.specs.Option.{option_to_list}
use Rattle.std.specs.List.{list_any}
use Rattle.model.specs.Names.{Name, Member}
use Rattle.model.specs.Classes.{Program}
use Rattle.model.specs.DescriptorParts.{classes_in}
use Rattle.model.specs.Resolution.{is_missing}
use Rattle.model.specs.Types as model
use Rattle.model.specs.Operands.{Slots}
use Rattle.model.specs.Sites.{Site, to_next}
use Rattle.model.specs.Calls.{call_wants, result_types, constructed_leads}
use Rattle.types.specs.declared.verification_type.VerificationType.{VerificationType}
use Rattle.types.specs.declared.verification_type.VerificationType.TheVariants as type
use Rattle.instruction_types.specs.declared.operand_types.wants.Want.{Want}
use Rattle.instruction_types.specs.declared.operand_types.wants.Want.TheVariants as want
use Rattle.instruction_types.specs.operand_types.View.{want_in, wants_in}
use Rattle.model.specs.DescribedTypes.{parameters_declared, results_declared, verification_type}
use Rattle.types.specs.declared.described_types.described.MethodTypes.{MethodTypes}
use Rattle.types.specs.described_types.Described.{parameters_in, results_in}
use Rattle.instruction_types.specs.declared.leads.Leads.{Leads}
use Rattle.instruction_types.specs.declared.leads.Leads.TheVariants as leads
use Rattle.instruction_types.specs.Leads.{leads_in}
use Rattle.instruction_types.specs.declared.meaning.Meaning.{Meaning}
use Rattle.instruction_types.specs.declared.meaning.NoMeaning.{NoMeaning}
use Rattle.instruction_types.specs.declared.meaning.NoMeaning.TheVariants as reasons

-- what is passed on to what is declared of a type: an int, or a reference
abbrev pub want_for : VerificationType → Want
want_for (type.Object t) = want.AReference t
want_for other = want.AnInt

-- Of a call of a method: its arguments and the receiver, if there is one, are wanted.
pub record Calls (files : Program) (method : Member) (receiver : Option Want) (meaning : Meaning) : Type 0 where
  pub wants : wants_in files meaning.wants ≡ call_wants files method (map (want_in files) (option_to_list receiver))
  pub reads : meaning.wants.reads ≡ None

-- And its result is pushed.
pub record CallsOn (files : Program) (method : Member) (receiver : Option Want) (meaning : Meaning) : Type 0 where
  pub calls : Calls files method receiver meaning
  pub leads : (site : Site) (ts : Slots model.VerificationType) (ops rest : List model.VerificationType)
      → leads_in files site meaning.leads ts ops rest ≡ to_next site.next (result_types files method) ts ops rest

-- Or all copies of the receiver are initialised, as by a constructor of the class at a place.
pub record Constructs (files : Program) (method : Member) (class : ℕ) (meaning : Meaning) : Type 0 where
  pub calls : Calls files method (Some (want.AReceiver class)) meaning
  pub leads : (site : Site) (ts : Slots model.VerificationType) (ops rest : List model.VerificationType)
      → leads_in files site meaning.leads ts ops rest ≡ constructed_leads site method ts ops rest

-- the types that a method's descriptor describes, where none of its classes is missing
abbrev pub DescribesMethod : Program → Name → Result MethodTypes NoMeaning → Type 0
DescribesMethod files descriptor (Ok types) =
    (parameters_in files types ≡ map (verification_type files) (parameters_declared descriptor)) × (results_in files types ≡ map (verification_type files) (results_declared descriptor))
DescribesMethod files descriptor (Err reasons.Unnamed) = ⊥
DescribesMethod files descriptor (Err reasons.NotLinked) = list_any (is_missing files) (classes_in descriptor) ≡ true
DescribesMethod files descriptor (Err reasons.OutOfMemory) = Unit {0}

-- with the result pushed, if there is one
abbrev pub leads_of_result : Option VerificationType → Leads
leads_of_result None = leads.Next
leads_of_result (Some t) = leads.Pushes t

-- a meaning, where no class of the descriptor is missing
abbrev pub TellsCall : Program → Member → (Meaning → Type 0) → Result Meaning NoMeaning → Type 0
TellsCall files method P (Ok m) = P m
TellsCall files method P (Err reasons.Unnamed) = ⊥
TellsCall files method P (Err reasons.NotLinked) = list_any (is_missing files) (classes_in method.descriptor) ≡ true
TellsCall files method P (Err reasons.OutOfMemory) = Unit {0}

-- the same of a call on a receiver as it is wanted, and whether there can be none
abbrev pub TellsCallOn : Program → Member → model.Want → Bool → Result Meaning NoMeaning → Type 0
TellsCallOn files method wanted missing (Ok m) = (receiver : Want) × (want_in files receiver ≡ wanted) × CallsOn files method (Some receiver) m
TellsCallOn files method wanted missing (Err reasons.Unnamed) = ⊥
TellsCallOn files method wanted missing (Err reasons.NotLinked) = (missing || list_any (is_missing files) (classes_in method.descriptor)) ≡ true
TellsCallOn files method wanted missing (Err reasons.OutOfMemory) = Unit {0}
