use Rattle.std.proofs.Common.{◌≡◌, ◌≤◌}
use Rattle.model.specs.Classes.{package_of}
use Rattle.link_conditions.proofs.class_rules.Packages.{package_from}
use Rattle.link_conditions.proofs.class_rules.name.package_of.Given as goal

abbrev pub invariant-loop-place : goal.invariant-loop-place
invariant-loop-place l = record {
  within : l.end ≤ l.place;
  found : package_from l.name l.place l.end ≡ package_of l.name;
}
