-- The refusal for want of memory (own).
use Rattle.std.specs.Prelude.{None}
use Rattle.link_conditions.specs.declared.refusal.why.RefusalKind.TheVariants as kinds
use Rattle.link_conditions.specs.declared.refusal.why.Refusal.{Refusal}

-- of no file: it ran out where none was at hand
abbrev pub memory_wanted : Refusal
memory_wanted = record { kind = kinds.OutOfMemory; file = None; method = None; offset = None; cause = None }
