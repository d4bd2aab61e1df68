use Rattle.hierarchy.specs.Numbers.{named_rows}
use Rattle.hierarchy.proofs.FieldLaws.{of_rows}
use Rattle.hierarchy.proofs.named_rows.NamedRows.by_steps.Goals as goal

pub returns : goal.returns
returns c = record {
  has_names = c.in_ok-names.ensures;
  has_places = c.in_ok-places.ensures;
  rows = record { by_interfaces = c.in_ok-interfaces.ensures; by_supertypes = of_rows c.args.set.now (named_rows c.in_ok-names.names c.in_ok-supertypes.supertypes.items) c.in_ok-supertypes.ensures; by_flat = λ e. absurd cc };
}
