-- The meanings of a method's instructions that are kept.
use Rattle.std.specs.Prelude.{◌≡◌, List, Option, Some, slice_get, IsSomeAnd}
use Rattle.model.specs.Operands.{values}
use Rattle.model.specs.Sites.{Site, site_at}
use Rattle.model.specs.Meanings.{other_meaning}
use Rattle.types.specs.declared.method_code.declaration.MethodCode.{MethodCode}
use Rattle.types.specs.method_code.View.{files_of, member_of, body_of}
use Rattle.instruction_types.specs.Means.{Means}
use Rattle.instruction_types.specs.declared.meaning.Meaning.{Meaning}

-- what is kept at an offset is what the instruction there means
abbrev pub AreMeanings : MethodCode → List (Option Meaning) → Type 0
AreMeanings m kept =
    (site : Site) (meaning : Meaning) → site_at (member_of m) (body_of m) site.offset ≡ Some site
    → slice_get kept site.offset ≡ Some (Some meaning)
    → IsSomeAnd (other_meaning values (files_of m) site site.instr) (Means (files_of m) site meaning)
