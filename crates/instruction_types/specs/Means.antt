-- What it is that data tells the types of an instruction: what it wants and where it leads, as the definitions have them.
use Rattle.std.specs.Prelude.{◌≡◌, List, None}
use Rattle.model.specs.declared.value.Value.{Value}
use Rattle.model.specs.Classes.{Program}
use Rattle.model.specs.Types.{VerificationType}
use Rattle.model.specs.Operands.{Slots}
use Rattle.model.specs.Sites.{MeaningOf, Site}
use Rattle.instruction_types.specs.operand_types.View.{wants_in}
use Rattle.instruction_types.specs.Leads.{leads_in}
use Rattle.instruction_types.specs.declared.meaning.Meaning.{Meaning}

-- Of a meaning, what is seen over types: what a run does with values is left aside.
pub record Means (files : Program) (site : Site) (meaning : Meaning) (model : MeaningOf Value) : Type 0 where
  pub wants : wants_in files meaning.wants ≡ model.wants
  -- local variables are read by local instructions alone
  pub reads : meaning.wants.reads ≡ None
  pub leads : (ts : Slots VerificationType) (ops rest : List VerificationType)
      → leads_in files site meaning.leads ts ops rest ≡ model.leads ts ops rest
