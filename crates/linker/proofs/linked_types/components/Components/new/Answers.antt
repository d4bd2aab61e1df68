use Rattle.std.proofs.Common.{sym, subst}
use Rattle.model.specs.Classes.{Program}
use Rattle.linker.specs.Linking.{IsLinked}
use Rattle.linker.specs.declared.linked_types.components.Components.{Components}
use Rattle.linker.specs.linked_types.Components.{AreComponents}
use Rattle.linker.proofs.linked_types.ComponentTypes.{are_components, string_found}
use Rattle.linker.proofs.linked_types.components.Components.new.Goals as goal

pub returns : goal.returns
returns c =
    let files = c.set-set.result.now in
    let first = c.add_type.new.components in
    let all = c.add_pools.new.components in
    let empty : Components = record { names = c.new.result; types = c.new-2.result } in
    let linked : IsLinked files = subst IsLinked (sym c.set-set.ensures.same) c.set-set.ensures.linked in
    let are : AreComponents files all = are_components files linked empty first all c.new.ensures c.new-2.ensures.items c.in_ok-add_type.ensures.grows (c.in_ok-add_type.ensures.there (string_found files)) c.in_ok-add_pools.ensures.grows c.in_ok-add_pools.ensures.there c.in_ok-add_type.ensures.only c.in_ok-add_pools.ensures.only in
    subst (λ (f : Program). AreComponents f all) c.set-set.ensures.same are
