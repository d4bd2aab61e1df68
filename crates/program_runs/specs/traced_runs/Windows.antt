-- Which events are told (own).
use denote.Ref.{Bor}
use Rattle.std.specs.Prelude.{ℕ, List, Option, Some, None, Bool, true, ◌&&◌, ◌==◌, nat_le}
use Rattle.std.specs.List.{list_any}
use Rattle.program_runs.specs.declared.traced_runs.window.Window.{Window}

-- those of these threads, or of all
abbrev pub has_thread : Option (Bor (List ℕ)) → ℕ → Bool
has_thread None t = true
has_thread (Some only) t = list_any (λ n. n == t) only.now

-- an event by its number and its thread
abbrev pub is_told : Window → (n t : ℕ) → Bool
is_told window n t = nat_le window.from n && nat_le n window.to && has_thread window.only t
