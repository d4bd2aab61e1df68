use Rattle.std.proofs.Common.{◌≡◌, List, map, sym, subst}
use Rattle.std.proofs.lemmas.Simd.{map-map}
use Rattle.constant_pool.specs.declared.reading.fault.Cause.TheVariants as causes
use Rattle.model.specs.Pool.{NameAndDescriptor}
use Rattle.model.specs.Conditions.{name_and_descriptor_at, differ}
use Rattle.class_tree.specs.View.{field_of}
use Rattle.class_tree.specs.Conditions.{ChecksOrStops}
use Rattle.class_tree.proofs.duplicate.check_fields.Goals as goal

pub returns : goal.returns
returns c =
    let file = c.args.file.now in
    let pool = file.pool in
    let each : map (λ m. name_and_descriptor_at pool m.name m.descriptor) file.fields.items ≡ map (λ m. name_and_descriptor_at pool m.name m.descriptor) (map field_of file.fields.items) = sym (map-map _ _ file.fields.items) in
    subst (λ (l : List NameAndDescriptor). ChecksOrStops causes.Duplicate c.check_differ.result (differ l)) each (rw (c.deref.ensures.value, c.requires) at c.check_differ.ensures)
