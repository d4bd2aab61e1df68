-- Where the conditions of BadHierarchy stand in a class file, cycles aside.
use Rattle.std.specs.Prelude.{◌≡◌, ℕ, Bool, true, false, ◌&&◌, ◌||◌, ◌==◌, nat_lt, slice_get}
use Rattle.std.specs.Option.{option_map_or}
use Rattle.model.specs.declared.class_file.ExceptionEntry.{ExceptionEntry}
use Rattle.model.specs.Tree.{CodeTree, MethodTree, FileTree}
use Rattle.model.specs.Classes.{Program, code_in}
use Rattle.model.specs.Hierarchy.{extends_interface, extends_final, implements_class, interface_below_other, Redeclaration, final_redeclared, static_redeclared, instance_redeclared, redeclared_in_other_package, redeclared_as_private, method_redeclares, redeclares, catch_class, is_no_throwable, catches_no_throwable}
use Rattle.link_conditions.specs.declared.class_rules.place.RulePlace.{RulePlace}
use Rattle.link_conditions.specs.declared.class_rules.place.RulePlace.TheVariants.{Class, Method, Exception}

-- ---- what is broken

-- a rule of a class's superclass and superinterfaces (JVMS 4.1)
abbrev pub class_breaks_rule : Program → FileTree → Bool
class_breaks_rule files file =
    extends_interface files file || (extends_final files file || (implements_class files file || interface_below_other files file))

-- a method of a superclass that the class's method must not redeclare (JVMS 5.4.5)
abbrev pub is_bad_redeclaration : Redeclaration
is_bad_redeclaration super m class again =
    final_redeclared super m class again
    || (static_redeclared super m class again
    || (instance_redeclared super m class again
    || (redeclared_in_other_package super m class again
    || redeclared_as_private super m class again)))

-- a method redeclares such a one of any superclass
abbrev pub method_breaks_rule : Program → FileTree → MethodTree → Bool
method_breaks_rule files file m = method_redeclares is_bad_redeclaration files file m

-- an exception entry catches what is no Throwable (JVMS 4.7.3)
abbrev pub entry_breaks_rule : Program → FileTree → ExceptionEntry → Bool
entry_breaks_rule files file e = option_map_or (is_no_throwable files) (catch_class file.pool e) false

-- BadHierarchy, but for a cycle
abbrev pub breaks_rules : Program → FileTree → Bool
breaks_rules files file =
    extends_interface files file
    || (extends_final files file
    || (implements_class files file
    || (interface_below_other files file
    || (redeclares final_redeclared files file
    || (redeclares static_redeclared files file
    || (redeclares instance_redeclared files file
    || (redeclares redeclared_in_other_package files file
    || (redeclares redeclared_as_private files file
    || catches_no_throwable files file))))))))

-- ---- where

abbrev pub entry_breaks_rule_at : Program → FileTree → ℕ → CodeTree → Bool
entry_breaks_rule_at files file entry c = option_map_or (entry_breaks_rule files file) (slice_get c.exceptions entry) false

abbrev pub exception_breaks_rule_at : Program → FileTree → ℕ → MethodTree → Bool
exception_breaks_rule_at files file entry m = option_map_or (entry_breaks_rule_at files file entry) (code_in m.parts) false

-- a rule is broken at a place of a class file
abbrev pub is_broken_at : Program → FileTree → RulePlace → Bool
is_broken_at files file Class = class_breaks_rule files file
is_broken_at files file (Method k) = option_map_or (method_breaks_rule files file) (slice_get file.methods k) false
is_broken_at files file (Exception k entry) = option_map_or (exception_breaks_rule_at files file entry) (slice_get file.methods k) false

-- the order of the places: the class itself, its methods, their exception entries, method by method
abbrev pub comes_before : RulePlace → RulePlace → Bool
comes_before Class Class = false
comes_before Class (Method k) = true
comes_before Class (Exception k entry) = true
comes_before (Method j) Class = false
comes_before (Method j) (Method k) = nat_lt j k
comes_before (Method j) (Exception k entry) = true
comes_before (Exception j other) Class = false
comes_before (Exception j other) (Method k) = false
comes_before (Exception j other) (Exception k entry) = nat_lt j k || (j == k && nat_lt other entry)

-- a rule is broken at the place, and none is at a place before it
pub record IsFirstBroken (files : Program) (file : FileTree) (place : RulePlace) : Type 0 where
  pub broken : is_broken_at files file place ≡ true
  pub none_before : (earlier : RulePlace) → comes_before earlier place ≡ true → is_broken_at files file earlier ≡ false
