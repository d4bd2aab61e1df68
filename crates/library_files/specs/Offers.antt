-- The classes of a library by their places.
use Rattle.std.specs.Prelude.{◌≡◌, ◌⊎◌, ◌++◌, ◌∷◌, [], if◌then◌else◌, ◌<◌, ℕ, List, Option, Some, None, Bool, map, nat_eq, position, slice_get}
use Rattle.std.specs.List.{Contains, list_any}
use Rattle.model.specs.Names.{Name, name_eq}
use Rattle.model.specs.Tree.{FileTree}
use Rattle.model.specs.Spells.{Spells}
use Rattle.model.specs.Classes.{Program}
use Rattle.model.specs.Resolution.{is_missing}
use Rattle.library_files.specs.Needs.{needed_classes}
use Rattle.library_files.specs.Adding.{LibraryFile, IsOffered, IsAdded}

-- for each class of a library whether no class of its name is there
abbrev pub offers_of : Program → List LibraryFile → List Bool
offers_of files library = map (λ (c : LibraryFile). is_missing files c.name) library

abbrev pub has_name : Name → LibraryFile → Bool
has_name name class = name_eq class.name name

-- the place of the class of a name
abbrev pub library_place : List LibraryFile → Name → Option ℕ
library_place library name = position (has_name name) library

-- the class at a place is offered under a name
pub record IsOfferedAt (library : List LibraryFile) (files : Program) (name : Name) (place : ℕ) : Type 0 where
  pub class : LibraryFile
  pub stands : slice_get library place ≡ Some class
  pub offered : IsOffered library files name class

-- the place of what is offered under a name, or none where nothing is
abbrev pub FindsOffered : List LibraryFile → Program → Name → Option ℕ → Type 0
FindsOffered library files name None = (class : LibraryFile) → IsOffered library files name class → ⊥
FindsOffered library files name (Some place) = IsOfferedAt library files name place

-- a class stands at one of the places
pub record HasPlace (library : List LibraryFile) (places : List ℕ) (class : LibraryFile) : Type 0 where
  pub place : ℕ
  pub among : Contains places place
  pub stands : slice_get library place ≡ Some class

-- one of the names is offered, and its class stands at the place
pub record IsNeededPlace (library : List LibraryFile) (files : Program) (names : List Name) (place : ℕ) : Type 0 where
  pub name : Name
  pub among : Contains names name
  pub offered : IsOfferedAt library files name place

-- the classes that are offered under these names have places
abbrev pub IsClosed : List LibraryFile → Program → List ℕ → List Name → Type 0
IsClosed library files places names =
    (name : Name) (class : LibraryFile) → Contains names name → IsOffered library files name class → HasPlace library places class

-- the place comes behind, unless it is there
abbrev pub AddsPlace : List ℕ → List ℕ → ℕ → Type 0
AddsPlace old new place = new ≡ (if list_any (nat_eq place) old then old else old ++ place ∷ [])

-- the places of what is offered under these names come behind, and no others
pub record AddsPlaces (library : List LibraryFile) (files : Program) (old new : List ℕ) (names : List Name) : Type 0 where
  pub more : List ℕ
  pub behind : new ≡ old ++ more
  pub closed : IsClosed library files new names
  pub only : (place : ℕ) → Contains new place → Contains old place ⊎ IsNeededPlace library files names place

-- the same of what is needed by a tree of which something is so, if there is one
pub record AddsPlacesBy (library : List LibraryFile) (files : Program) (old new : List ℕ) (IsTree : FileTree → Type 0) : Type 0 where
  pub more : List ℕ
  pub behind : new ≡ old ++ more
  pub closed : (tree : FileTree) → IsTree tree → IsClosed library files new (needed_classes tree)
  pub only : (place : ℕ) → Contains new place
      → Contains old place ⊎ ((tree : FileTree) × IsTree tree × IsNeededPlace library files (needed_classes tree) place)

abbrev pub AddsPlacesOf : List LibraryFile → Program → List ℕ → List ℕ → List ℕ → Type 0
AddsPlacesOf library files old new bytes = AddsPlacesBy library files old new (Spells bytes)

-- the bytes of the class at a place spell a tree
abbrev pub IsTreeAt : List LibraryFile → ℕ → FileTree → Type 0
IsTreeAt library place tree = (class : LibraryFile) × (slice_get library place ≡ Some class) × Spells class.bytes tree

abbrev pub AddsPlacesAt : List LibraryFile → Program → List ℕ → List ℕ → ℕ → Type 0
AddsPlacesAt library files old new place = AddsPlacesBy library files old new (IsTreeAt library place)

abbrev pub is_among : List ℕ → ℕ → Bool
is_among places place = list_any (nat_eq place) places

-- an added class stands at the place
pub record IsAddedPlace (library : List LibraryFile) (files : Program) (place : ℕ) : Type 0 where
  pub class : LibraryFile
  pub stands : slice_get library place ≡ Some class
  pub added : IsAdded library files class

-- at each of the places
abbrev pub AreAddedPlaces : List LibraryFile → Program → List ℕ → Type 0
AreAddedPlaces library files places = (place : ℕ) → Contains places place → IsAddedPlace library files place

-- what the class at a place needs is offered by no class that has no place
abbrev pub IsSettled : List LibraryFile → Program → List ℕ → ℕ → Type 0
IsSettled library files places place = (tree : FileTree) → IsTreeAt library place tree → IsClosed library files places (needed_classes tree)

-- places were added in turn, and the first so many are settled
pub record IsTurned (library : List LibraryFile) (files : Program) (turns : ℕ) (old new : List ℕ) : Type 0 where
  pub kept : (place : ℕ) → Contains old place → Contains new place
  pub settled : (k place : ℕ) → k < turns → slice_get new k ≡ Some place → IsSettled library files new place
  pub added : AreAddedPlaces library files new

-- places were added in turn, until all are settled
pub record AddsInTurn (library : List LibraryFile) (files : Program) (old new : List ℕ) : Type 0 where
  pub kept : (place : ℕ) → Contains old place → Contains new place
  pub settled : (place : ℕ) → Contains new place → IsSettled library files new place
  pub added : AreAddedPlaces library files new
