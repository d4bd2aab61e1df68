-- Which methods count in a look-up.
use Rattle.std.specs.Prelude.{Bool}
use Rattle.model.specs.Tree.{MethodTree}
use Rattle.model.specs.Lookup.{any_method, is_public_instance_method}
use Rattle.hierarchy.specs.declared.lookup.Wanted as declared_wanted
use Rattle.hierarchy.specs.declared.lookup.Wanted.TheVariants as wanted

abbrev pub wants : declared_wanted.Wanted → MethodTree → Bool
wants wanted.Any m = any_method m
wants wanted.PublicInstance m = is_public_instance_method m
