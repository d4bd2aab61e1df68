-- What linking answers.
use Rattle.std.specs.Prelude.{◌≡◌, ◌⊎◌, ℕ, List, ◌++◌, Option, Some, None, Bool, true, false, take, slice_get, option_map}
use Rattle.std.specs.Option.{option_and_then, option_map_or}
use Rattle.model.specs.Tree.{MethodTree, FileTree}
use Rattle.model.specs.Spells.{Spells}
use Rattle.model.specs.Conditions.{text_at}
use Rattle.model.specs.Classes.{Program}
use Rattle.model.specs.Profile.{is_outside_profile}
use Rattle.model.specs.CodeConditions.{has_malformed_code}
use Rattle.model.specs.Hierarchy.{has_bad_hierarchy}
use Rattle.model.specs.Resolution.{is_unresolved}
use Rattle.model.specs.Linkable.{LinkCondition, TooLarge, DuplicateClass, OutsideProfile, MalformedCode, BadHierarchy, Unresolved, TooManyFields, NoMain, too_many_fields, stands_first, AreSpelled, IsRefusedFor, IsLinkable}
use Rattle.hierarchy.specs.Set.{IsAgain}
use Rattle.constant_pool.specs.declared.reading.fault.Cause.{Cause}
use Rattle.constant_pool.specs.declared.reading.fault.Cause.TheVariants as causes
use Rattle.constant_pool.specs.declared.reading.fault.Malformed.{Malformed}
use Rattle.classfile.specs.Decoding.{StandsAt}
use Rattle.classfile.specs.declared.profile.fault.Flaw as declared_flaw
use Rattle.classfile.specs.declared.profile.fault.Flaw.TheVariants as flaws
use Rattle.link_conditions.specs.declared.refusal.why.RefusalKind.{RefusalKind}
use Rattle.link_conditions.specs.declared.refusal.why.RefusalKind.TheVariants as kinds

-- ---- what is linked

-- some files may be linked, and these are their trees
abbrev pub IsLinked : Program → Type 0
IsLinked trees = (files : List (List ℕ)) × IsLinkable files trees

-- ---- files that are no class files

-- bytes that are no class file
abbrev pub SpellsNothing : List ℕ → Type 0
SpellsNothing bytes = (c : FileTree) → Spells bytes c → ⊥

-- bytes that are no class file, and the cause that stands in them, with its offset
pub record IsMalformed (bytes : List ℕ) (offset : Option ℕ) (cause : Option Cause) : Type 0 where
  pub fault : Malformed
  pub at : offset ≡ Some fault.offset
  pub named : cause ≡ Some fault.cause
  pub none : SpellsNothing bytes
  pub stands : StandsAt bytes fault.cause fault.offset

-- the file that is named is no class file for this cause at this offset, and those before it are some
pub record IsFirstUnread (files : List (List ℕ)) (file offset : Option ℕ) (cause : Option Cause) : Type 0 where
  pub place : ℕ
  pub bytes : List ℕ
  pub named : file ≡ Some place
  pub stands : slice_get files place ≡ Some bytes
  pub malformed : IsMalformed bytes offset cause
  pub trees : Program
  pub before : AreSpelled (take place files) trees

-- ---- the file that a refusal names

-- a condition stands in a file of a program; some are not of a single file
abbrev pub stands_in : Program → LinkCondition → FileTree → Bool
stands_in trees OutsideProfile file = is_outside_profile file
stands_in trees MalformedCode file = has_malformed_code trees file
stands_in trees BadHierarchy file = has_bad_hierarchy trees file
stands_in trees Unresolved file = is_unresolved trees file
stands_in trees TooManyFields file = too_many_fields trees file
stands_in trees TooLarge file = false
stands_in trees DuplicateClass file = false
stands_in trees NoMain file = false

-- the later one of two files of one name, or the one of the name of a built-in class
abbrev pub NamesAgain : Program → Option ℕ → Type 0
NamesAgain trees None = ⊥
NamesAgain trees (Some place) = IsAgain trees place

abbrev pub NamesFile : Program → LinkCondition → Option ℕ → Type 0
NamesFile trees TooLarge file = file ≡ None
NamesFile trees DuplicateClass file = NamesAgain trees file
NamesFile trees NoMain file = file ≡ None
NamesFile trees condition file = option_map_or (stands_in trees condition) (option_and_then (slice_get trees) file) false ≡ true

-- TooLarge is of all files together, or of the fields of a class
abbrev pub size_condition : Option ℕ → LinkCondition
size_condition None = TooLarge
size_condition (Some place) = TooManyFields

-- ---- refusals of files

-- the files spell trees in which the condition stands, and none before it; where it is of a file, the file is named
pub record IsRefusedWith (condition : LinkCondition) (files : List (List ℕ)) (file : Option ℕ) : Type 0 where
  pub trees : Program
  pub refused : IsRefusedFor condition files trees
  pub named : NamesFile trees condition file

-- When files may be refused so: with this kind, file, offset and cause. No more is said of the offset of another refusal than that
-- of a file that is no class file.
abbrev pub MayRefuse : List (List ℕ) → RefusalKind → Option ℕ → Option ℕ → Option Cause → Type 0
MayRefuse files kinds.OutOfMemory file offset cause = Unit {0}
MayRefuse files kinds.Malformed file offset cause = IsFirstUnread files file offset cause ⊎ ((cause ≡ Some causes.Code) × IsRefusedWith MalformedCode files file)
MayRefuse files kinds.OutsideProfile file offset cause = IsRefusedWith OutsideProfile files file
MayRefuse files kinds.DuplicateClass file offset cause = IsRefusedWith DuplicateClass files file
MayRefuse files kinds.Unresolved file offset cause = IsRefusedWith Unresolved files file
MayRefuse files kinds.BadHierarchy file offset cause = IsRefusedWith BadHierarchy files file
MayRefuse files kinds.Unverified file offset cause = ⊥
MayRefuse files kinds.NoMain file offset cause = IsRefusedWith NoMain files file
MayRefuse files kinds.TooLarge file offset cause = IsRefusedWith (size_condition file) files file

-- ---- refusals of the parts

-- of files that are not all class files
abbrev pub IsUnreadable : List (List ℕ) → RefusalKind → Option ℕ → Option ℕ → Option Cause → Type 0
IsUnreadable files kind file offset cause = (kind ≡ kinds.OutOfMemory) ⊎ ((kind ≡ kinds.Malformed) × IsFirstUnread files file offset cause)

-- the condition stands in the trees, and none before it; where it is of a file, the file is named
pub record IsFirst (condition : LinkCondition) (trees : Program) (file : Option ℕ) : Type 0 where
  pub first : stands_first trees condition ≡ true
  pub named : NamesFile trees condition file

-- of the trees that files spell
abbrev pub RefusesTrees : Program → RefusalKind → Option ℕ → Option Cause → Type 0
RefusesTrees trees kinds.OutOfMemory file cause = Unit {0}
RefusesTrees trees kinds.Malformed file cause = (cause ≡ Some causes.Code) × IsFirst MalformedCode trees file
RefusesTrees trees kinds.OutsideProfile file cause = IsFirst OutsideProfile trees file
RefusesTrees trees kinds.DuplicateClass file cause = IsFirst DuplicateClass trees file
RefusesTrees trees kinds.Unresolved file cause = IsFirst Unresolved trees file
RefusesTrees trees kinds.BadHierarchy file cause = IsFirst BadHierarchy trees file
RefusesTrees trees kinds.Unverified file cause = ⊥
RefusesTrees trees kinds.NoMain file cause = IsFirst NoMain trees file
RefusesTrees trees kinds.TooLarge file cause = IsFirst (size_condition file) trees file

-- of the file with a number: memory ran out, or the refusal is of this kind and names the file, and the condition stands in it
abbrev pub RefusesFor : RefusalKind → Bool → ℕ → RefusalKind → Option ℕ → Type 0
RefusesFor wanted stands number kind file = (kind ≡ kinds.OutOfMemory) ⊎ ((kind ≡ wanted) × (file ≡ Some number) × (stands ≡ true))

-- a refusal tells a flaw of the file with a number
abbrev pub IsFaultRefusal : declared_flaw.Flaw → ℕ → RefusalKind → Option ℕ → Option Cause → Type 0
IsFaultRefusal flaws.OutsideProfile number kind file cause = (kind ≡ kinds.OutsideProfile) × (file ≡ Some number)
IsFaultRefusal flaws.MalformedCode number kind file cause = (kind ≡ kinds.Malformed) × (file ≡ Some number) × (cause ≡ Some causes.Code)

-- of the file with a number, as the walk over the files tells it
abbrev pub WalkRefuses : Program → FileTree → ℕ → RefusalKind → Option ℕ → Option Cause → Type 0
WalkRefuses trees tree number kind file cause =
    RefusesFor kinds.OutsideProfile (is_outside_profile tree) number kind file
    ⊎ ((cause ≡ Some causes.Code) × RefusesFor kinds.Malformed (has_malformed_code trees tree) number kind file)

-- ---- the method that a refusal names

-- its name, and its descriptor behind that
abbrev pub method_text : FileTree → ℕ → Option (List ℕ)
method_text file k = option_map (λ (m : MethodTree). text_at file.pool m.name ++ text_at file.pool m.descriptor) (slice_get file.methods k)
