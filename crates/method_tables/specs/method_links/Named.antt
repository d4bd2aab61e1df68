-- The methods that the operands of invoking instructions name (JVMS 5.4.3.3, 5.4.3.4).
use Rattle.std.specs.Prelude.{◌≡◌, ℕ, ◌<◌, ◌^◌, List, [], Option, Some, None, slice_index_or}
use Rattle.model.specs.Names.{Member}
use Rattle.model.specs.Tree.{Entry, FileTree}
use Rattle.model.specs.Pool.{method_at, interface_method_at}
use Rattle.model.specs.Classes.{Program}
use Rattle.model.specs.Lookup.{find_method, find_interface_method}
use Rattle.hierarchy.specs.Places.{class_at}
use Rattle.method_tables.specs.method_links.Methods.{Names}

-- by what a Methodref, or else an InterfaceMethodref, refers to
abbrev pub named_by : Program → Option Member → Option Member → Option Member
named_by files (Some method) other = find_method files method
named_by files None (Some method) = find_interface_method files method
named_by files None None = None

-- by the index of the entry
abbrev pub named_in : Program → List Entry → ℕ → Option Member
named_in files pool index = named_by files (method_at pool index) (interface_method_at pool index)

-- the numbers in a row are those of the methods that the entries of a pool name
abbrev pub AreNamedIn : Program → List Entry → List (Option ℕ) → Type 0
AreNamedIn files pool row = (index : ℕ) → index < 2 ^ 16 → Names files (slice_index_or row index None) (named_in files pool index)

-- so do those of each class, by its place
abbrev pub AreNamedOf : Program → List (List (Option ℕ)) → Type 0
AreNamedOf files rows = (class : ℕ) (file : FileTree) → class_at files class ≡ Some file → AreNamedIn files file.pool (slice_index_or rows class [])
