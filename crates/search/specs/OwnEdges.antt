-- Class files that name methods by which values go between threads in an order that the JLS doesn't give (own; JLS 17.4.4).
use Rattle.std.specs.Prelude.{List, Bool, false, ◌||◌, codes}
use Rattle.std.specs.List.{list_any}
use Rattle.std.specs.Option.{option_map_or}
use Rattle.model.specs.Classes.{Program}
use Rattle.model.specs.Names.{Name, name_eq}
use Rattle.model.specs.Pool.{NameAndDescriptor, name_and_type_at}
use Rattle.model.specs.Tree.{Entry, Method, FileTree}

-- the name of a method that tells whether a thread was started, or interrupts it, or tells whether it is interrupted
abbrev pub has_own_edges : Name → Bool
has_own_edges name =
    name_eq name (codes "isAlive") || (name_eq name (codes "interrupt") || (name_eq name (codes "isInterrupted") || name_eq name (codes "interrupted")))

-- a Methodref with such a name (JVMS 4.4.2)
abbrev pub is_own_edge : List Entry → Entry → Bool
is_own_edge pool (Method class name_and_type) =
    option_map_or (λ (named : NameAndDescriptor). has_own_edges named.name) (name_and_type_at pool name_and_type) false
is_own_edge pool e = false

abbrev pub names_own_edge : FileTree → Bool
names_own_edge file = list_any (is_own_edge file.pool) file.pool

abbrev pub names_own_edges : Program → Bool
names_own_edges files = list_any names_own_edge files
