-- The limits of a run, by the options of the command line (own).
use Rattle.std.specs.Prelude.{◌≡◌, ℕ, Option, IfSome, unwrap_or}
use Rattle.model.specs.declared.limits.Limits.{Limits}
use Rattle.command_line.specs.declared.options.LimitOptions.{LimitOptions}

-- each limit is the number that was asked for, and else the usual one
pub record AreChosen (options : LimitOptions) (limits : Limits) : Type 0 where
  pub objects : limits.objects ≡ unwrap_or options.objects 1000000
  pub cells : limits.cells ≡ unwrap_or options.cells 16000000
  pub monitors : limits.monitors ≡ unwrap_or options.monitors 65536
  pub threads : limits.threads ≡ unwrap_or options.threads 256
  pub frames : limits.frames ≡ unwrap_or options.frames 1024

-- this is the number that was asked for, if one was
abbrev pub IsAsked : Option ℕ → ℕ → Type 0
IsAsked option limit = IfSome option (λ number. number ≡ limit)

-- no limit was asked for that is another one
pub record AreAsked (options : LimitOptions) (limits : Limits) : Type 0 where
  pub objects : IsAsked options.objects limits.objects
  pub cells : IsAsked options.cells limits.cells
  pub monitors : IsAsked options.monitors limits.monitors
  pub threads : IsAsked options.threads limits.threads
  pub frames : IsAsked options.frames limits.frames
