-- The listings of several class files (own), and why there are none.
use Rattle.std.specs.Prelude.{◌≡◌, ℕ, List, take, slice_get, Some, None}
use Rattle.std.specs.List.{flat_map}
use Rattle.model.specs.Classes.{Program}
use Rattle.model.specs.Linkable.{AreSpelled}
use Rattle.model.specs.Listing.{listing}
use Rattle.model.specs.Tree.{FileTree}
use Rattle.model.specs.Spells.{Spells}
use Rattle.constant_pool.specs.declared.reading.fault.Cause.{Cause}
use Rattle.classfile.specs.Decoding.{StandsAt}
use Rattle.link_conditions.specs.declared.refusal.why.Refusal.{Refusal}
use Rattle.link_conditions.specs.declared.refusal.why.RefusalKind.TheVariants as kinds

-- one behind the other
abbrev pub listings : Program → List ℕ
listings trees = flat_map listing trees

-- there is no memory for the class file with this number
abbrev pub no_memory : ℕ → Refusal
no_memory number = record { kind = kinds.OutOfMemory; file = Some number; method = None; offset = None; cause = None }

-- the class file with this number is refused for a cause at an offset
abbrev pub malformed : ℕ → Cause → ℕ → Refusal
malformed number cause offset = record { kind = kinds.Malformed; file = Some number; method = None; offset = Some offset; cause = Some cause }

-- the bytes are no class file, and this says why: the cause stands in them at the offset
pub record IsMalformed (bytes : List ℕ) (number : ℕ) (refusal : Refusal) : Type 0 where
  pub cause : Cause
  pub offset : ℕ
  pub told : refusal ≡ malformed number cause offset
  pub none : (tree : FileTree) → Spells bytes tree → ⊥
  pub stands : StandsAt bytes cause offset

-- the first of the files that is no class file is refused so
pub record IsFirstMalformed (files : List (List ℕ)) (refusal : Refusal) : Type 0 where
  pub number : ℕ
  pub bytes : List ℕ
  pub there : slice_get files number ≡ Some bytes
  pub malformed : IsMalformed bytes number refusal
  pub trees : Program
  pub before : AreSpelled (take number files) trees
