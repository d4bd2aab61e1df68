use Rattle.std.proofs.Common.{subst, sym}
use Rattle.std.specs.Prelude.{IfOk}
use Rattle.model.specs.Classes.{Program}
use Rattle.linker.specs.Linking.{IsLinked}
use Rattle.linker.specs.field_links.Tables.{AreFieldLinks}
use Rattle.linker.proofs.field_links.links.FieldLinks.new.Goals as goal

pub links_of-requires : goal.links_of-requires
links_of-requires c = subst IsLinked (sym c.hierarchy.ensures.same) c.hierarchy.ensures.linked

pub returns : goal.returns
returns c = subst (λ (f : Program). IfOk c.links_of.result (AreFieldLinks f)) c.hierarchy.ensures.same c.links_of.ensures
