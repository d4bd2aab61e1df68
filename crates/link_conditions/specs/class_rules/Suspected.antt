-- Which classes may declare a method that another one redeclares as it must not.
use Rattle.std.specs.Prelude.{◌≡◌, Some, false}
use Rattle.model.specs.Names.{Name}
use Rattle.model.specs.Tree.{FileTree, MethodTree}
use Rattle.model.specs.Classes.{Program}
use Rattle.model.specs.Hierarchy.{redeclares_in}
use Rattle.model.specs.Profile.{method_name, method_descriptor}
use Rattle.link_conditions.specs.class_rules.Rules.{is_bad_redeclaration}
use Rattle.link_conditions.specs.class_rules.Declared.{number_of, TellsMethods}
use Rattle.link_conditions.specs.declared.class_rules.declared_methods.DeclaredMethods.{DeclaredMethods}
use Rattle.link_conditions.specs.declared.class_rules.suspects.Suspects.{Suspects}
use Rattle.link_conditions.specs.declared.class_rules.suspects.Suspects.TheVariants as suspects

-- of the method of a file: no class declares it so, or a table tells of it by its number
abbrev pub AreSuspects : Program → DeclaredMethods → FileTree → MethodTree → Suspects → Type 0
AreSuspects files d file again suspects.All = Unit {0}
AreSuspects files d file again suspects.None = (s : Name) → redeclares_in is_bad_redeclaration files file again s ≡ false
AreSuspects files d file again (suspects.Of number) =
    TellsMethods files d.table × (number_of d.table (method_name file again) (method_descriptor file again) ≡ Some number)
