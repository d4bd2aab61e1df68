-- Numbers of what files have.
use Rattle.model.specs.Classes.{Program}
use Rattle.linker.specs.field_links.Numbers.{AreStringNumbers}
use Rattle.linker.specs.field_links.Tables.{AreFieldLinks}
use Rattle.method_tables.specs.method_links.Numbers.{AreNumbersOf}
use Rattle.method_tables.specs.method_links.Calls.{AreCallsOf}
use Rattle.linked_program.specs.declared.links.FileLinks.{FileLinks}

-- they are those of the methods, the fields and the string constants of the files
pub record AreLinksOf (files : Program) (links : FileLinks) : Type 0 where
  pub methods : AreNumbersOf files links.methods
  pub declared : AreCallsOf files links.declared
  pub fields : AreFieldLinks files links.fields
  pub texts : AreStringNumbers files links.texts
