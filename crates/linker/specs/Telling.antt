-- What the line of a refusal tells behind its kind: a file, a method, an offset, a cause (own).
use Rattle.std.specs.Prelude.{◌≡◌, ◌⊎◌, ℕ, List, Option, Some, None, Bool, true, false, take, slice_get, option_map, vec_items}
use Rattle.std.specs.Option.{option_and_then}
use Rattle.std.specs.List.{list_any}
use Rattle.model.specs.Tree.{FileTree}
use Rattle.model.specs.Classes.{Program}
use Rattle.model.specs.Profile.{is_outside_profile}
use Rattle.model.specs.CodeConditions.{has_malformed_code}
use Rattle.model.specs.Hierarchy.{in_cycle, has_bad_hierarchy}
use Rattle.model.specs.Resolution.{is_unresolved}
use Rattle.model.specs.Linkable.{AreSpelled, too_many_fields}
use Rattle.classfile.specs.profile.Faults.{IsFirstFault}
use Rattle.classfile.specs.profile.Places.{place_offset}
use Rattle.classfile.specs.declared.profile.fault.Fault.{Fault}
use Rattle.classfile.specs.declared.profile.fault.Flaw.{Flaw}
use Rattle.classfile.specs.declared.profile.fault.Flaw.TheVariants as flaws
use Rattle.classfile.specs.declared.profile.fault.Spot.{Spot}
use Rattle.classfile.specs.declared.profile.fault.Spot.TheVariants as spots
use Rattle.classfile.specs.declared.profile.fault.Place.{Place}
use Rattle.classfile.specs.declared.profile.fault.Place.TheVariants as places
use Rattle.link_conditions.specs.resolution.Unresolved.{stands_at}
use Rattle.link_conditions.specs.class_rules.Rules.{IsFirstBroken}
use Rattle.link_conditions.specs.declared.resolution.place.UnresolvedPlace.{UnresolvedPlace}
use Rattle.link_conditions.specs.declared.resolution.place.UnresolvedPlace.TheVariants as names
use Rattle.link_conditions.specs.declared.class_rules.place.RulePlace.{RulePlace}
use Rattle.link_conditions.specs.declared.class_rules.place.RulePlace.TheVariants as rules
use Rattle.link_conditions.specs.refusal.Memory.{memory_wanted}
use Rattle.link_conditions.specs.declared.refusal.why.Refusal.{Refusal}
use Rattle.link_conditions.specs.declared.refusal.why.RefusalKind.{RefusalKind}
use Rattle.link_conditions.specs.declared.refusal.why.RefusalKind.TheVariants as kinds
use Rattle.linker.specs.Linking.{method_text, IsFirstUnread}

-- ---- a method and an offset

-- no method is told
abbrev pub TellsNoMethod : Refusal → Type 0
TellsNoMethod r = option_map vec_items r.method ≡ None

-- this text of a method and this offset are told, and no cause
pub record Tells (text : Option (List ℕ)) (place : Option ℕ) (r : Refusal) : Type 0 where
  pub method : option_map vec_items r.method ≡ text
  pub offset : r.offset ≡ place
  pub cause : r.cause ≡ None

-- the method with this index is told, by its name with its descriptor behind it
abbrev pub TellsMethod : FileTree → Option ℕ → Option ℕ → Refusal → Type 0
TellsMethod tree index place r = Tells (option_and_then (method_text tree) index) place r

-- ---- a fault of a class: in no method, in one, or at an instruction of one

abbrev pub spot_offset : Spot → Option ℕ
spot_offset spots.Declaration = None
spot_offset spots.MaxLocals = None
spot_offset (spots.Instruction pc) = Some pc
spot_offset (spots.Exception entry field) = None

abbrev pub place_method : Place → Option ℕ
place_method (places.Field k) = None
place_method (places.Method k spot) = Some k

abbrev pub offset_in_method : Place → Option ℕ
offset_in_method (places.Field k) = None
offset_in_method (places.Method k spot) = spot_offset spot

-- malformed code is told by the offset in the file
abbrev pub TellsFault : FileTree → Flaw → Place → Refusal → Type 0
TellsFault tree flaws.OutsideProfile place r = TellsMethod tree (place_method place) (offset_in_method place) r
TellsFault tree flaws.MalformedCode place r = TellsNoMethod r × (r.offset ≡ place_offset tree place)

-- the first fault of a file in the walk over it
pub record TellsFirstFault (trees : Program) (flaw : Flaw) (r : Refusal) (tree : FileTree) : Type 0 where
  pub fault : Fault
  pub flawed : fault.flaw ≡ flaw
  pub first : IsFirstFault trees tree fault
  pub told : TellsFault tree flaw fault.place r

abbrev pub name_method : UnresolvedPlace → Option ℕ
name_method names.Class = None
name_method (names.Field k) = None
name_method (names.Method k) = Some k
name_method (names.Instruction k pc) = Some k
name_method (names.Exception k entry) = Some k

abbrev pub name_offset : UnresolvedPlace → Option ℕ
name_offset names.Class = None
name_offset (names.Field k) = None
name_offset (names.Method k) = None
name_offset (names.Instruction k pc) = Some pc
name_offset (names.Exception k entry) = None

-- a place at which a name is not found
abbrev pub TellsName : Program → Refusal → FileTree → Type 0
TellsName trees r tree =
    (place : UnresolvedPlace)
    × (stands_at trees tree place ≡ true)
    × TellsMethod tree (name_method place) (name_offset place) r

abbrev pub rule_method : RulePlace → Option ℕ
rule_method rules.Class = None
rule_method (rules.Method k) = Some k
rule_method (rules.Exception k entry) = Some k

-- the first rule of a class that is broken
abbrev pub TellsRule : Program → Refusal → FileTree → Type 0
TellsRule trees r tree =
    (place : RulePlace) × IsFirstBroken trees tree place × TellsMethod tree (rule_method place) None r

-- a class that is above itself
abbrev pub TellsCycle : Program → Refusal → FileTree → Type 0
TellsCycle trees r tree = (in_cycle trees tree ≡ true) × Tells None None r

-- ---- a file

-- the refusal is of this kind, and names this file
abbrev pub IsOf : RefusalKind → ℕ → Refusal → Type 0
IsOf kind number r = (r.kind ≡ kind) × (r.file ≡ Some number)

-- the file that is named, what is so of its tree, and what of those before it
pub record NamesFirst (trees : Program) (Before : Program → Type 0) (P : FileTree → Type 0) (file : Option ℕ)
    : Type 0 where
  pub number : ℕ
  pub tree : FileTree
  pub named : file ≡ Some number
  pub stands : slice_get trees number ≡ Some tree
  pub before : Before (take number trees)
  pub told : P tree

-- a test fails of each file
abbrev pub NoneOf : (FileTree → Bool) → Program → Type 0
NoneOf test files = list_any test files ≡ false

-- files without a fault
abbrev pub NoFault : Program → Program → Type 0
NoFault trees files = NoneOf is_outside_profile files × NoneOf (has_malformed_code trees) files

-- the walk goes over the files in their order
abbrev pub TellsFlaw : Program → Flaw → Refusal → Type 0
TellsFlaw trees flaw r = NamesFirst trees (NoFault trees) (TellsFirstFault trees flaw r) r.file

-- a cycle comes first, of whichever file
abbrev pub TellsHierarchy : Program → Refusal → Type 0
TellsHierarchy trees r =
    NamesFirst trees (NoneOf (in_cycle trees)) (TellsCycle trees r) r.file
    ⊎ (NoneOf (in_cycle trees) trees × NamesFirst trees (NoneOf (has_bad_hierarchy trees)) (TellsRule trees r) r.file)

-- all files together are too large, or the class of a file is the first that has too many fields
abbrev pub IsFirstTooLarge : Program → Option ℕ → Type 0
IsFirstTooLarge trees None = Unit {0}
IsFirstTooLarge trees (Some number) = NoneOf (too_many_fields trees) (take number trees)

-- of the trees that files spell, by the kind
abbrev pub TellsLine : Program → RefusalKind → Refusal → Type 0
TellsLine trees kinds.Malformed r = TellsFlaw trees flaws.MalformedCode r
TellsLine trees kinds.OutsideProfile r = TellsFlaw trees flaws.OutsideProfile r
TellsLine trees kinds.DuplicateClass r = Tells None None r
TellsLine trees kinds.Unresolved r = NamesFirst trees (NoneOf (is_unresolved trees)) (TellsName trees r) r.file
TellsLine trees kinds.BadHierarchy r = TellsHierarchy trees r
TellsLine trees kinds.Unverified r = ⊥
TellsLine trees kinds.NoMain r = Tells None None r
TellsLine trees kinds.TooLarge r = Tells None None r × IsFirstTooLarge trees r.file
TellsLine trees kinds.OutOfMemory r = r ≡ memory_wanted

-- ---- refusals of the parts

-- of a file that is decoded
abbrev pub TellsUnread : ℕ → Refusal → Type 0
TellsUnread number r =
    (IsOf kinds.OutOfMemory number r × Tells None None r) ⊎ (IsOf kinds.Malformed number r × TellsNoMethod r)

-- of the class of a file with a number: memory ran out, or a fault of it is told
abbrev pub TellsWalk : Program → ℕ → FileTree → Refusal → Type 0
TellsWalk trees number tree r =
    (r ≡ memory_wanted)
    ⊎ ((IsOf kinds.OutsideProfile number r × TellsFirstFault trees flaws.OutsideProfile r tree)
    ⊎ (IsOf kinds.Malformed number r × TellsFirstFault trees flaws.MalformedCode r tree))

abbrev pub TellsRuleOf : Program → ℕ → FileTree → Refusal → Type 0
TellsRuleOf trees number tree r = (r ≡ memory_wanted) ⊎ (IsOf kinds.BadHierarchy number r × TellsRule trees r tree)

abbrev pub TellsNameOf : Program → ℕ → FileTree → Refusal → Type 0
TellsNameOf trees number tree r = (r ≡ memory_wanted) ⊎ (IsOf kinds.Unresolved number r × TellsName trees r tree)

-- ---- files

-- memory ran out where no file was at hand, or while this one was read behind those that are class files
abbrev pub MayBeRead : List (List ℕ) → Option ℕ → Type 0
MayBeRead files None = Unit {0}
MayBeRead files (Some number) =
    (bytes : List ℕ) × (trees : Program) × (slice_get files number ≡ Some bytes) × AreSpelled (take number files) trees

-- of the trees that files spell
abbrev pub TellsOfTrees : List (List ℕ) → RefusalKind → Refusal → Type 0
TellsOfTrees files kind r = (trees : Program) × AreSpelled files trees × TellsLine trees kind r

-- of files, by the kind
abbrev pub TellsLineOf : List (List ℕ) → RefusalKind → Refusal → Type 0
TellsLineOf files kinds.Malformed r =
    (IsFirstUnread files r.file r.offset r.cause × TellsNoMethod r) ⊎ TellsOfTrees files kinds.Malformed r
TellsLineOf files kinds.OutsideProfile r = TellsOfTrees files kinds.OutsideProfile r
TellsLineOf files kinds.DuplicateClass r = TellsOfTrees files kinds.DuplicateClass r
TellsLineOf files kinds.Unresolved r = TellsOfTrees files kinds.Unresolved r
TellsLineOf files kinds.BadHierarchy r = TellsOfTrees files kinds.BadHierarchy r
TellsLineOf files kinds.Unverified r = ⊥
TellsLineOf files kinds.NoMain r = TellsOfTrees files kinds.NoMain r
TellsLineOf files kinds.TooLarge r = TellsOfTrees files kinds.TooLarge r
TellsLineOf files kinds.OutOfMemory r = MayBeRead files r.file × Tells None None r
