-- Methods that redeclare others, by several conditions at once.
use Rattle.std.proofs.Common.{◌≡◌, ℕ, ◌+◌, ◌-◌, ◌<◌, Bool, true, false, not, ◌||◌, ◌&&◌, List, [], ◌∷◌, refl, sym, ap, ◌∙◌, Option, Some, None}
use Rattle.std.specs.Option.{option_map_or}
use Rattle.std.specs.List.{list_any}
use Rattle.model.specs.Names.{Name}
use Rattle.model.specs.Tree.{FileTree, MethodTree}
use Rattle.model.specs.AccessFlags.{is_private_method}
use Rattle.model.specs.Classes.{Program, name_of, superclass_of, lineage_of}
use Rattle.model.specs.Lookup.{method_of}
use Rattle.model.specs.Hierarchy.{Redeclaration, final_redeclared, static_redeclared, instance_redeclared, redeclared_in_other_package, redeclared_as_private, is_special_name, redeclares_in, method_redeclares, redeclares, superclasses, in_cycle, has_bad_hierarchy, extends_interface, extends_final, implements_class, interface_below_other, catches_no_throwable}
use Rattle.model.specs.Profile.{method_name, method_descriptor}
use Rattle.hierarchy.proofs.Chains.{lineage_step}
use Rattle.link_conditions.specs.class_rules.Rules.{class_breaks_rule, method_breaks_rule, breaks_rules}

-- ---- a walk along superclasses

pub any_next : (files : Program) (test : Name → Bool) (n i : ℕ) (c s : Name) → i < n → test c ≡ false → superclass_of files c ≡ Some s
    → list_any test (lineage_of files (n - i) c) ≡ list_any test (lineage_of files (n - (i + 1)) s)
any_next files test n i c s lt here above = rw (lineage_step files n i c lt, above, here) refl

pub any_here : (files : Program) (test : Name → Bool) (n i : ℕ) (c : Name) → i < n → test c ≡ true
    → list_any test (lineage_of files (n - i) c) ≡ true
any_here files test n i c lt here = rw (lineage_step files n i c lt, here) refl

pub any_last : (files : Program) (test : Name → Bool) (n i : ℕ) (c : Name) → i < n → test c ≡ false → superclass_of files c ≡ None
    → list_any test (lineage_of files (n - i) c) ≡ false
any_last files test n i c lt here above = rw (lineage_step files n i c lt, above, here) refl

-- ---- two conditions at once

any_either : {A : Type 0} (p q r : A → Bool) → ((x : A) → r x ≡ (p x || q x)) → (xs : List A)
    → list_any r xs ≡ (list_any p xs || list_any q xs)
any_either p q r each [] = refl
any_either p q r each (x ∷ xs) = rw (each x, any_either p q r each xs) (apart (p x) (q x) (list_any p xs) (list_any q xs))
  where
    apart : (a b c d : Bool) → ((a || b) || (c || d)) ≡ ((a || c) || (b || d))
    apart true b c d = refl
    apart false true true d = refl
    apart false true false d = refl
    apart false false c d = refl

and_either : (a b c : Bool) → (a && (b || c)) ≡ ((a && b) || (a && c))
and_either true b c = refl
and_either false b c = refl

module _ (p q : Redeclaration) (files : Program) (file : FileTree) where
  abbrev pub p_or_q : Redeclaration
  p_or_q super m class again = p super m class again || q super m class again

  abbrev asks : Redeclaration → MethodTree → Name → MethodTree → Bool
  asks r again super m = not (is_private_method m) && r super m (name_of file) again

  in_either : (again : MethodTree) (super : Name)
      → redeclares_in p_or_q files file again super ≡ (redeclares_in p files file again super || redeclares_in q files file again super)
  in_either again super = by (method_of files (record { class = super; name = method_name file again; descriptor = method_descriptor file again }))
    where
      by : (o : Option MethodTree) → option_map_or (asks p_or_q again super) o false
          ≡ (option_map_or (asks p again super) o false || option_map_or (asks q again super) o false)
      by None = refl
      by (Some m) = and_either (not (is_private_method m)) (p super m (name_of file) again) (q super m (name_of file) again)

  method_either : (again : MethodTree) → method_redeclares p_or_q files file again
      ≡ (method_redeclares p files file again || method_redeclares q files file again)
  method_either again =
      ap (λ b. not (is_special_name (method_name file again)) && b) (any_either (redeclares_in p files file again) (redeclares_in q files file again) (redeclares_in p_or_q files file again) (in_either again) (superclasses files file))
      ∙ and_either (not (is_special_name (method_name file again))) _ _

  pub redeclares_either : redeclares p_or_q files file ≡ (redeclares p files file || redeclares q files file)
  redeclares_either = any_either (method_redeclares p files file) (method_redeclares q files file) (method_redeclares p_or_q files file) method_either file.methods

-- all five
module _ (files : Program) (file : FileTree) where
  abbrev last_two : Redeclaration
  last_two = p_or_q redeclared_in_other_package redeclared_as_private files file

  abbrev last_three : Redeclaration
  last_three = p_or_q instance_redeclared last_two files file

  abbrev last_four : Redeclaration
  last_four = p_or_q static_redeclared last_three files file

  pub redeclares_any : list_any (method_breaks_rule files file) file.methods
      ≡ (redeclares final_redeclared files file
      || (redeclares static_redeclared files file
      || (redeclares instance_redeclared files file
      || (redeclares redeclared_in_other_package files file || redeclares redeclared_as_private files file))))
  redeclares_any =
      redeclares_either final_redeclared last_four files file
      ∙ ap (λ b. redeclares final_redeclared files file || b)
      (redeclares_either static_redeclared last_three files file
      ∙ ap (λ b. redeclares static_redeclared files file || b)
      (redeclares_either instance_redeclared last_two files file
      ∙ ap (λ b. redeclares instance_redeclared files file || b) (redeclares_either redeclared_in_other_package redeclared_as_private files file)))

  -- by the places
  pub rules_apart : breaks_rules files file
      ≡ (class_breaks_rule files file || (list_any (method_breaks_rule files file) file.methods || catches_no_throwable files file))
  rules_apart =
      apart (extends_interface files file) (extends_final files file) (implements_class files file) (interface_below_other files file)
      (redeclares final_redeclared files file) (redeclares static_redeclared files file) (redeclares instance_redeclared files file) (redeclares redeclared_in_other_package files file) (redeclares redeclared_as_private files file)
      (catches_no_throwable files file)
      ∙ ap (λ b. class_breaks_rule files file || (b || catches_no_throwable files file)) (sym redeclares_any)
    where
      or_apart : (a b c : Bool) → (a || (b || c)) ≡ ((a || b) || c)
      or_apart true b c = refl
      or_apart false b c = refl

      five : (f g h i j k : Bool) → (f || (g || (h || (i || (j || k))))) ≡ ((f || (g || (h || (i || j)))) || k)
      five true g h i j k = refl
      five false true h i j k = refl
      five false false true i j k = refl
      five false false false true j k = refl
      five false false false false j k = refl

      apart : (a b c d f g h i j k : Bool) → (a || (b || (c || (d || (f || (g || (h || (i || (j || k)))))))))
          ≡ ((a || (b || (c || d))) || ((f || (g || (h || (i || j)))) || k))
      apart true b c d f g h i j k = refl
      apart false true c d f g h i j k = refl
      apart false false true d f g h i j k = refl
      apart false false false true f g h i j k = refl
      apart false false false false f g h i j k = five f g h i j k

  -- BadHierarchy is a cycle, or a broken rule
  pub refused : has_bad_hierarchy files file ≡ (in_cycle files file || breaks_rules files file)
  refused = refl
