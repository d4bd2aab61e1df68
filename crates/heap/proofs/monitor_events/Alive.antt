-- The thread of a Thread object is there, so what is read at its number is its row.
use Rattle.std.proofs.Common.{◌≡◌, ◌<◌, ◌==◌, ℕ, Bool, true, false, not, length, Option, Some, None, slice_get}
use Rattle.std.proofs.Common.{if◌then◌else◌, nat_lt, refl, ap, sym, ◌∙◌}
use Rattle.std.specs.Option.{option_map_or}
use Rattle.std.specs.List.{position_or_len}
use Rattle.std.proofs.lemmas.Option.{slice_get-get_or, cond_some}
use Rattle.std.proofs.lemmas.Bool.{ltb-true}
use Rattle.model.specs.State.{Thread, new_thread}
use Rattle.model.specs.Worlds.{has_ended, is_alive_by}
use Rattle.heap.specs.java_threads.Table.{ThreadTable, thread_at, number_of}
use Rattle.heap.specs.monitor_events.Lives.{SaysAlive}

-- of no thread
pub none_alive : (table : ThreadTable) (object : ℕ) → None ≡ number_of table.threads object
    → SaysAlive false object table
none_alive table object none = λ world. ap (λ (found : Option ℕ). is_alive_by
    (option_map_or (λ t. slice_get table.threads t) found None)) none

-- of one that is there
pub some_alive : (table : ThreadTable) (object thread : ℕ) (over : Bool) → Some thread ≡ number_of table.threads object
    → over ≡ has_ended (thread_at table.threads thread).status → SaysAlive (not over) object table
some_alive table object thread over found over_is = λ world.
    ap (λ (b : Bool). not b) over_is
    ∙ turned (has_ended (thread_at table.threads thread).status)
    ∙ ap (λ (row : Option Thread). is_alive_by row) (sym (slice_get-get_or table.threads thread (new_thread 0) within))
    ∙ ap (λ (n : Option ℕ). is_alive_by (option_map_or (λ t. slice_get table.threads t) n None)) found
  where
    at : ℕ
    at = position_or_len (λ (row : Thread). row.object == object) table.threads

    parts : (nat_lt at (length table.threads) ≡ true) × (at ≡ thread)
    parts = cond_some (nat_lt at (length table.threads)) at thread (sym found)

    within : thread < length table.threads
    within = rw (parts.1) at (ltb-true at (length table.threads) parts.0)

    turned : (b : Bool) → not b ≡ (if b then false else true)
    turned true = refl
    turned false = refl
