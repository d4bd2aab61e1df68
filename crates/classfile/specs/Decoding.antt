-- What decoding promises.
use Rattle.std.specs.Prelude.{◌≡◌, ◌⊎◌, ℕ, ◌<◌, ◌≤◌, List, length, take, drop, Bool, IsFalse, Result, Ok, Err}
use Rattle.constant_pool.specs.declared.reading.fault.Cause.{Cause}
use Rattle.constant_pool.specs.declared.reading.fault.Cause.TheVariants as causes
use Rattle.constant_pool.specs.declared.reading.fault.Malformed.{Malformed}
use Rattle.class_tree.specs.declared.tree.ClassFile.{ClassFile}
use Rattle.model.specs.Tree.{FileTree}
use Rattle.model.specs.Spelling.{magic, version, Layout}
use Rattle.model.specs.Conditions.{file_indices, file_names, file_descriptors, file_attributes, members_differ}
use Rattle.class_tree.specs.View.{file_of}
use Rattle.classfile.specs.FileReading.{file_at}
pub use Rattle.class_tree.specs.CodePlace.{BeginsWith}

-- ---- answers

-- this tree is answered, unless memory ran out
abbrev pub Answers : Result ClassFile Malformed → FileTree → Type 0
Answers (Ok c) tree = file_of c ≡ tree
Answers (Err e) tree = e.cause ≡ causes.OutOfMemory

-- that memory ran out
abbrev pub no_memory : Malformed
no_memory = record { cause = causes.OutOfMemory; offset = 0 }

-- what reading gives is answered, unless memory ran out
abbrev pub Decodes : Result ClassFile Malformed → Result FileTree Malformed → Type 0
Decodes (Ok c) read = read ≡ Ok (file_of c)
Decodes (Err e) read = (e ≡ no_memory) ⊎ (read ≡ Err e)

-- ---- refusals. The causes and their offsets are own: the JVMS says what a class file is, and names no faults.

-- reading the fields in the order of the file (JVMS 4.1 to 4.7) ends with this cause at this offset
abbrev pub StopsAt : List ℕ → Cause → ℕ → Type 0
StopsAt bytes cause offset = file_at (record { at = 0; rest = bytes }) ≡ Err (record { cause = cause; offset = offset })

-- the bytes have a layout (4.1), and its tree doesn't meet a condition
abbrev pub IsLaidOutBut : List ℕ → (FileTree → Bool) → Type 0
IsLaidOutBut bytes condition = (tree : FileTree) × Layout bytes tree × IsFalse (condition tree)

-- What is so of bytes that are refused for this cause at this offset.
abbrev pub StandsAt : List ℕ → Cause → ℕ → Type 0
-- magic (4.1): the bytes 0 to 3 are there, and others
StandsAt bytes causes.Magic offset = (offset ≡ 0) × (4 ≤ length bytes) × (BeginsWith magic bytes → ⊥)
-- minor_version and major_version (4.1), behind the magic: the bytes 4 to 7 are there, and others
StandsAt bytes causes.Version offset = (offset ≡ 4) × (8 ≤ length bytes) × BeginsWith magic bytes × (BeginsWith version (drop 4 bytes) → ⊥)
-- the bytes before the offset have the layout of a class file (4.1), and more follow (4.8)
StandsAt bytes causes.Trailing offset = (offset < length bytes) × (tree : FileTree) × Layout (take offset bytes) tree
-- a field is cut; a tag is none (4.4); a byte of a Utf8 is none (4.4.7)
StandsAt bytes causes.Truncated offset = StopsAt bytes causes.Truncated offset
StandsAt bytes causes.Tag offset = StopsAt bytes causes.Tag offset
StandsAt bytes causes.Utf8 offset = StopsAt bytes causes.Utf8 offset
-- an attribute doesn't fit (4.7); a Code or a ConstantValue doesn't stand where it has to (4.7.2, 4.7.3)
StandsAt bytes causes.Attribute offset = StopsAt bytes causes.Attribute offset ⊎ IsLaidOutBut bytes file_attributes
-- an index names no entry of its kind (4.1, 4.4 to 4.7)
StandsAt bytes causes.Index offset = IsLaidOutBut bytes file_indices
-- a name is none (4.2)
StandsAt bytes causes.Name offset = IsLaidOutBut bytes file_names
-- a descriptor is none, or one of another kind (4.3)
StandsAt bytes causes.Descriptor offset = IsLaidOutBut bytes file_descriptors
-- two fields (4.5), or two methods (4.6), have one name and one descriptor
StandsAt bytes causes.Duplicate offset = IsLaidOutBut bytes members_differ
-- it says nothing of the bytes
StandsAt bytes causes.OutOfMemory offset = ⊥
-- that of a linker: decoding doesn't look into the code of a method
StandsAt bytes causes.Code offset = ⊥

-- memory ran out, or this is so of the bytes
abbrev pub IsFaultOf : List ℕ → Malformed → Type 0
IsFaultOf bytes fault = (fault ≡ no_memory) ⊎ StandsAt bytes fault.cause fault.offset
