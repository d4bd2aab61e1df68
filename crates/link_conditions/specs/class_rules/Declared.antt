-- Tables of the methods that the classes of a program declare, by numbers of names with descriptors.
use Rattle.std.specs.Prelude.{◌≡◌, ℕ, List, [], Option, Bool, true, false, not, ◌&&◌, ◌||◌, ◌==◌, if◌then◌else◌, position, slice_get}
use Rattle.std.specs.Option.{option_and_then, option_map_or}
use Rattle.std.specs.List.{list_any}
use Rattle.std.specs.Map.{lookup}
use Rattle.model.specs.Names.{Name, name_eq}
use Rattle.model.specs.Tree.{FileTree, MethodTree}
use Rattle.model.specs.AccessFlags.{is_private, is_final, is_package_private, is_private_method, is_static_method, is_instance_method}
use Rattle.model.specs.Classes.{Program}
use Rattle.model.specs.Profile.{method_name, method_descriptor}
use Rattle.hierarchy.specs.Places.{class_at}
use Rattle.link_conditions.specs.declared.class_rules.method_table.Signature.{Signature}
use Rattle.link_conditions.specs.declared.class_rules.method_table.Declaration.{Declaration}
use Rattle.link_conditions.specs.declared.class_rules.method_table.MethodTable.{MethodTable}
use Rattle.link_conditions.specs.declared.class_rules.declared_methods.DeclaredMethods.{DeclaredMethods}

-- ---- look-ups

abbrev pub is_signature : Signature → Signature → Bool
is_signature a b = (a.name == b.name) && (a.descriptor == b.descriptor)

abbrev pub is_declaration : Declaration → Declaration → Bool
is_declaration a b = (a.class == b.class) && (a.signature == b.signature)

-- the number of a name with a descriptor, by those of the two
abbrev pub number_by : MethodTable → Option ℕ → Option ℕ → Option ℕ
number_by t name descriptor =
    option_and_then (λ n. option_and_then (λ d. lookup (is_signature (record { name = n; descriptor = d })) t.signatures.entries) descriptor) name

-- the same, by the two
abbrev pub number_of : MethodTable → Name → Name → Option ℕ
number_of t name descriptor = number_by t (position (name_eq name) t.texts) (position (name_eq descriptor) t.texts)

-- the access flags with which the class at a place declares the method of a number
abbrev pub flags_at : MethodTable → ℕ → ℕ → Option ℕ
flags_at t class number = lookup (is_declaration (record { class = class; signature = number })) t.declared.entries

-- those with which any class does
abbrev pub flags_of : MethodTable → ℕ → List ℕ
flags_of t number = option_map_or (λ row. row.items) (slice_get t.flags.items number) []

-- ---- what is so of a table

abbrev pub is_told_by : MethodTable → ℕ → MethodTree → ℕ → Bool
is_told_by t class m number =
    list_any (λ f. f == m.flags) (flags_of t number) && option_map_or (λ f. f == m.flags) (flags_at t class number) false

-- the table tells of a method of the class at a place
abbrev pub is_told : MethodTable → ℕ → FileTree → MethodTree → Bool
is_told t class file m = option_map_or (is_told_by t class m) (number_of t (method_name file m) (method_descriptor file m)) false

abbrev pub has_untold : MethodTable → ℕ → FileTree → Bool
has_untold t class file = list_any (λ m. not (is_told t class file m)) file.methods

-- of each method of each class
abbrev pub TellsMethods : Program → MethodTable → Type 0
TellsMethods files t = (class : ℕ) → option_map_or (has_untold t class) (class_at files class) false ≡ false

-- where it is said to
abbrev pub AreDeclaredIn : Program → DeclaredMethods → Type 0
AreDeclaredIn files d = d.is_whole ≡ true → TellsMethods files d.table

-- ---- what is known of a method by its access flags

-- a method with these, of which nothing else is known
abbrev pub with_flags : ℕ → MethodTree
with_flags flags = record { flags = flags; name = 0; descriptor = 0; parts = [] }

-- a method with these is redeclared as it must not, if the packages of some two classes differ
abbrev pub may_be_bad : MethodTree → ℕ → Bool
may_be_bad again flags =
    not (is_private flags)
    && (if is_static_method (with_flags flags) then is_instance_method again
    else is_final flags || (is_static_method again || (is_private_method again || is_package_private flags)))
