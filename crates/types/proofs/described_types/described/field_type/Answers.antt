use Rattle.std.proofs.Common.{sym, subst, ◌≤◌}
use Rattle.model.specs.DescriptorScan.{dimensions_of}
use Rattle.model.specs.Descriptors.{element}
use Rattle.constant_pool.specs.descriptors.View.{element_of}
use Rattle.types.proofs.described_types.Arrays.{more_of_some, dimensions_there}
use Rattle.types.proofs.described_types.described.field_type.Goals as goal

pub returns-in-Some-clause-few : goal.returns-in-Some-clause-few
returns-in-Some-clause-few c =
    let f = c.in-Some.field in
    more_of_some f.dimensions (dimensions_of c.args.descriptor.now) c.declared_type.result (subst (λ s. f.dimensions ≤ dimensions_of s) (sym (c.in-Some.ensures.found).spelled) (dimensions_there f.dimensions (element (element_of f.element)))) c.declared_type.ensures.few
