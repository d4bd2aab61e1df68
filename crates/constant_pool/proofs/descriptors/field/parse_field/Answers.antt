use Rattle.constant_pool.specs.descriptors.View.{field_of}
use Rattle.constant_pool.proofs.descriptors.FieldLaws.{found_of, only_of}
use Rattle.constant_pool.proofs.descriptors.field.parse_field.Goals as goal

pub returns-clause-found : goal.returns-clause-found
returns-clause-found c = found_of field_of c.args.text.now c.parsed.result c.parsed.ensures

pub returns-clause-only : goal.returns-clause-only
returns-clause-only c = only_of field_of c.args.text.now c.parsed.result c.parsed.ensures
