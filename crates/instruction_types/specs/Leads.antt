-- Where an instruction leads, as the data that stands for it says.
use Rattle.std.specs.Prelude.{ℕ, List, [], ◌∷◌, map, slice_index_or}
use Rattle.model.specs.Classes.{Program}
use Rattle.model.specs.Types.{VerificationType, NullType}
use Rattle.model.specs.InitialisedTypes.{initialised}
use Rattle.model.specs.Operands.{Slots}
use Rattle.model.specs.Sites.{Site, to_next, nowhere}
use Rattle.model.specs.Arrays.{its_component}
use Rattle.model.specs.Objects.{new_leads}
use Rattle.hierarchy.specs.Places.{name_at}
use Rattle.types.specs.View.{type_in}
use Rattle.instruction_types.specs.declared.leads.Leads as declared_leads
use Rattle.instruction_types.specs.declared.leads.Leads.TheVariants as leads

-- all copies of a receiver are initialised (JVMS 4.10.1.9, invokespecial)
abbrev pub initialised_leads : Site → ℕ → Slots VerificationType → List VerificationType → List VerificationType
    → List (ℕ × Slots VerificationType)
initialised_leads site operand ts ops rest = (
  site.next,
  record {
    locals = map (initialised (slice_index_or ops operand NullType)) ts.locals;
    stack = map (initialised (slice_index_or ops operand NullType)) rest;
  },
)
    ∷ []

-- from the types before the instruction, those of its operands, and those that lie under them
abbrev pub leads_in : Program → Site → declared_leads.Leads → Slots VerificationType → List VerificationType → List VerificationType
    → List (ℕ × Slots VerificationType)
leads_in files site leads.Nowhere ts ops rest = nowhere ts ops rest
leads_in files site leads.Next ts ops rest = to_next site.next [] ts ops rest
leads_in files site (leads.Pushes type) ts ops rest = to_next site.next (type_in files type ∷ []) ts ops rest
leads_in files site leads.PushesComponent ts ops rest = to_next site.next (its_component files ops ∷ []) ts ops rest
leads_in files site (leads.Makes class) ts ops rest = new_leads site (name_at files class) ts ops rest
leads_in files site (leads.Initialises operand) ts ops rest = initialised_leads site operand ts ops rest
