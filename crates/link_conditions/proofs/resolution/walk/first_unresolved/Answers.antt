use Rattle.std.proofs.Common.{rules, ◌≡◌, true, false, sym, subst}
use Rattle.std.specs.List.{list_any}
use Rattle.model.specs.Classes.{Program}
use Rattle.model.specs.Resolution.{is_unresolved}
use Rattle.classfile.specs.View.{file_of}
use Rattle.link_conditions.specs.declared.resolution.place.UnresolvedPlace.TheVariants as places
use Rattle.link_conditions.specs.resolution.Unresolved.{class_stands, field_stands, stands_at}
use Rattle.link_conditions.proofs.resolution.Walks.{one_stands, exactly}
use Rattle.link_conditions.proofs.resolution.walk.first_unresolved.Goals as goal

pub returns-in-Some-clause-found : goal.returns-in-Some-clause-found
returns-in-Some-clause-found c =
    let file = file_of c.args.file.now in
    let stands : stands_at c.set-set.result.now file (places.Field c.in-Some.field) ≡ true = c.in-Some.ensures in
    sym (subst (λ (files : Program). is_unresolved files file ≡ true) c.set-set.ensures (one_stands c.set-set.result.now file (places.Field c.in-Some.field) stands))

pub returns-clause-found : goal.returns-clause-found
returns-clause-found c =
    let files = c.args.hierarchy.now in
    let file = file_of c.args.file.now in
    let class : class_stands files file ≡ false = search rules in
    let fields : list_any (field_stands files file) file.fields ≡ false = subst (λ (fs : Program). list_any (field_stands fs file) file.fields ≡ false) c.set-set.ensures c.in_default.ensures in
    exactly files file c.first_in_methods.result class fields c.first_in_methods.ensures
