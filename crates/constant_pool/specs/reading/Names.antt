-- The names of the causes.
use Rattle.std.specs.Prelude.{ℕ, List, codes}
use Rattle.constant_pool.specs.declared.reading.fault.Cause.{Cause}
use Rattle.constant_pool.specs.declared.reading.fault.Cause.TheVariants as causes

abbrev pub cause_name : Cause → List ℕ
cause_name causes.Truncated = codes "Truncated"
cause_name causes.Magic = codes "Magic"
cause_name causes.Version = codes "Version"
cause_name causes.Tag = codes "Tag"
cause_name causes.Index = codes "Index"
cause_name causes.Utf8 = codes "Utf8"
cause_name causes.Name = codes "Name"
cause_name causes.Descriptor = codes "Descriptor"
cause_name causes.Attribute = codes "Attribute"
cause_name causes.Trailing = codes "Trailing"
cause_name causes.Duplicate = codes "Duplicate"
cause_name causes.OutOfMemory = codes "OutOfMemory"
cause_name causes.Code = codes "Code"
