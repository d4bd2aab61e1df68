use Rattle.std.proofs.Common.{◌≡◌, ℕ, ◌<◌, false}
use Rattle.std.specs.Option.{option_map_or}
use Rattle.hierarchy.specs.Places.{class_at}
use Rattle.link_conditions.specs.class_rules.Declared.{has_untold}
use Rattle.link_conditions.proofs.class_rules.declared_methods.is_whole.Given as goal

abbrev pub invariant-loop-class : goal.invariant-loop-class
invariant-loop-class l = (place : ℕ) → place < l.class → option_map_or (has_untold l.table place) (class_at l.set place) false ≡ false
