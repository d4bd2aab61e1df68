-- The line that tells a refusal (own).
use Rattle.std.specs.Prelude.{ℕ, List, [], ◌++◌, Option, Some, None, Vec, codes}
use Rattle.std.specs.declared.alloc.Global.{Global}
use Rattle.model.specs.Report.{number}
use Rattle.constant_pool.specs.reading.Names.{cause_name}
use Rattle.constant_pool.specs.declared.reading.fault.Cause.{Cause}
use Rattle.link_conditions.specs.declared.refusal.why.RefusalKind.{RefusalKind}
use Rattle.link_conditions.specs.declared.refusal.why.RefusalKind.TheVariants as kinds
use Rattle.link_conditions.specs.declared.refusal.why.Refusal.{Refusal}

-- the number of a kind, and its name
abbrev pub kind_words : RefusalKind → List ℕ
kind_words kinds.Malformed = codes "1 Malformed"
kind_words kinds.OutsideProfile = codes "2 OutsideProfile"
kind_words kinds.DuplicateClass = codes "3 DuplicateClass"
kind_words kinds.Unresolved = codes "4 Unresolved"
kind_words kinds.BadHierarchy = codes "5 BadHierarchy"
kind_words kinds.Unverified = codes "6 Unverified"
kind_words kinds.NoMain = codes "7 NoMain"
kind_words kinds.TooLarge = codes "8 TooLarge"
kind_words kinds.OutOfMemory = codes "9 OutOfMemory"

-- a number behind a word, where there is one
abbrev pub numbered : List ℕ → Option ℕ → List ℕ
numbered word None = []
numbered word (Some n) = word ++ number n

-- the bytes of a method's name and descriptor, as they stand in the class file
abbrev pub method_words : Option (Vec ℕ Global) → List ℕ
method_words None = []
method_words (Some method) = codes " method " ++ method.items

abbrev pub cause_words : Option Cause → List ℕ
cause_words None = []
cause_words (Some cause) = codes " " ++ cause_name cause

-- what is refused, and where
abbrev pub refusal_line : Refusal → List ℕ
refusal_line r =
    codes "refused " ++ (kind_words r.kind
    ++ (numbered (codes " file ") r.file ++ (method_words r.method ++ (numbered (codes " offset ") r.offset ++ cause_words r.cause))))
