use Rattle.std.proofs.Common.{◌≡◌, map, take, false}
use Rattle.std.specs.List.{list_any}
use Rattle.model.specs.DescribedTypes.{declared_of, verification_type}
use Rattle.constant_pool.specs.descriptors.View.{field_of}
use Rattle.types.specs.View.{type_in}
use Rattle.types.specs.described_types.Described.{declared_missing}
use Rattle.types.proofs.described_types.described.declared_types.Given as goal

abbrev pub invariant-fields : goal.invariant-fields
invariant-fields l = record {
  typed : map (type_in l.set) l.types.items ≡ map (λ f. verification_type l.set (declared_of (field_of f))) (take l.field-index l.fields);
  found : list_any (λ f. declared_missing l.set (declared_of (field_of f))) (take l.field-index l.fields) ≡ false;
}
