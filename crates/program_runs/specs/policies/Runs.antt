-- The events of a run by a policy (own; docs/REFERENCE.md, "The schedule of a seed"): one worker does them, turn by turn.
use Rattle.std.specs.Prelude.{ℕ, zero, suc, ◌+◌, ◌-◌, List, [], ◌∷◌, ◌++◌, Option, Some, None, Bool, true, false, ◌&&◌, ◌==◌, if◌then◌else◌, nat_lt, length, min, is_some, slice_index}
use Rattle.std.specs.List.{count_by, filter, find}
use Rattle.rand_core.specs.Steps.{stream_of, steps_u64_high}
use Rattle.rand_core.specs.Stream.{Stream}
use Rattle.rand_xoshiro.specs.SplitMix64.{splitmix_seed}
use Rattle.rand_xoshiro.specs.Xoshiro256.{of_seed, plus_plus}
use Rattle.model.specs.declared.event.Event.{Event}
use Rattle.model.specs.Classes.{Program}
use Rattle.model.specs.LimitStands.{Bounds, within_limits}
use Rattle.model.specs.Rows.{counting}
use Rattle.model.specs.Run.{may_step, run}
use Rattle.model.specs.State.{Thread, ThreadStatus, Running, Waiting, Relock, Ended, State}
use Rattle.model.specs.Step.{is_enabled}
use Rattle.machine.specs.Tops.{plain}
use Rattle.program_runs.specs.declared.policies.policy.Policy.{Policy}
use Rattle.program_runs.specs.declared.policies.policy.Policy.TheVariants as policy
use Rattle.program_runs.specs.continued_runs.Turns.{behind}
use Rattle.program_runs.specs.policies.Draws.{below, counted_length}

-- ---- events and turns

-- whether an event can be done behind others: the budget leaves one, it is enabled, and no limit stands at it
abbrev pub can_do : Program → Bounds → (budget : ℕ) → (done : List Event) → Event → Bool
can_do trees bounds budget done event =
    nat_lt (length done) budget && is_some (run trees bounds.frames (done ++ event ∷ [])) && within_limits trees bounds (done ++ event ∷ [])

-- the events with a turn of a thread behind them: events with pick 0, so many at most, one after another as long as they can be done
abbrev pub with_turn : Program → Bounds → (budget : ℕ) → (most t : ℕ) → (done : List Event) → List Event
with_turn trees bounds budget zero t done = done
with_turn trees bounds budget (suc most) t done =
    if can_do trees bounds budget done (plain t) then with_turn trees bounds budget most t (done ++ plain t ∷ []) else done

-- where a pick is drawn, the event of the thread with that pick is all of the turn, if it can be done
abbrev pub with_picked : Program → Bounds → (budget pick most t : ℕ) → (done : List Event) → List Event
with_picked trees bounds budget pick most t done =
    let event : Event = record { thread = t; pick = pick } in
    if nat_lt 0 pick && can_do trees bounds budget done event then done ++ event ∷ [] else with_turn trees bounds budget most t done

-- ---- whose turn it is

-- the numbers below one, downwards
abbrev pub counting_down : ℕ → List ℕ
counting_down zero = []
counting_down (suc n) = n ∷ counting_down n

-- In rotation the first turn is for the threads from 0 on. Each further one is for those behind the thread of the turn before, and then for
-- those from 0 on; downwards for those below it, and then for those from the highest one down.
abbrev pub in_rotation : (down : Bool) → (last : Option ℕ) → (threads : ℕ) → List ℕ
in_rotation down None threads = counting 0 threads
in_rotation false (Some t) threads = counting (behind t) (threads - behind t) ++ counting 0 threads
in_rotation true (Some t) threads = counting_down (min t threads) ++ counting_down threads

-- the first of the threads that may go on
abbrev pub first_of : Program → (frames : ℕ) → State → List ℕ → Option ℕ
first_of trees frames state threads = find (may_step trees frames state) threads

abbrev pub thread_count : State → ℕ
thread_count state = length state.world.threads

-- ---- numbers that are drawn

-- the words of a seed: those of xoshiro256++
abbrev pub words_of : (seed : ℕ) → Stream
words_of seed = stream_of (steps_u64_high plus_plus) (of_seed (splitmix_seed 32 seed))

-- one of so many, where there are two at least; else nothing is drawn
abbrev pub pick_of : (count : ℕ) → Stream → ℕ × Stream
pick_of count words = if nat_lt 1 count then below count words else (0, words)

-- ---- a policy: what it keeps from turn to turn, and the events with its next turn behind them

pub record Turned (Kept : Type 0) : Type 0 where
  pub kept : Kept
  pub events : List Event

-- turn after turn, as many as may be, as long as each does an event
abbrev pub turns : {Kept : Type 0} → (Kept → List Event → Turned Kept) → (most : ℕ) → Kept → (done : List Event) → List Event
turns next zero kept done = done
turns next (suc most) kept done =
    let turned = next kept done in
    if nat_lt (length done) (length turned.events) then turns next most turned.kept turned.events else done

-- none where there is no state, or no thread may go on
abbrev pub turned_if : {A Kept : Type 0} → Option A → (A → Turned Kept) → Kept → (done : List Event) → Turned Kept
turned_if None next kept done = record { kept = kept; events = done }
turned_if (Some x) next kept done = next x

-- ---- rotation

-- it keeps the thread of the last turn
abbrev pub rotation_turn : Program → Bounds → (budget quantum : ℕ) → (last : Option ℕ) → (done : List Event) → Turned (Option ℕ)
rotation_turn trees bounds budget quantum last done =
    turned_if (run trees bounds.frames done)
    (λ state. turned_if (first_of trees bounds.frames state (in_rotation false last (thread_count state)))
    (λ t. record { kept = Some t; events = with_turn trees bounds budget quantum t done }) last done)
    last done

-- ---- random

-- how many picks the next event of a thread may have: as many as there are waiters, where it wakes one of them
abbrev pub pick_count : Program → (frames : ℕ) → State → ℕ → ℕ
pick_count trees frames state t = count_by (λ p. is_enabled trees frames state (record { thread = t; pick = p })) (counting 0 (thread_count state))

-- an event of a thread that is drawn of those that may go on, with a pick that is drawn; it keeps the words
abbrev pub random_event : Program → Bounds → (budget : ℕ) → Stream → (done : List Event) → State → Turned Stream
random_event trees bounds budget words done state =
    let able = filter (may_step trees bounds.frames state) (counting 0 (thread_count state)) in
    let place = below (length able) words in
    let t = slice_index able place.0 in
    let pick = pick_of (pick_count trees bounds.frames state t) place.1 in
    record { kept = pick.1; events = with_picked trees bounds budget pick.0 1 t done }

abbrev pub random_turn : Program → Bounds → (budget : ℕ) → Stream → (done : List Event) → Turned Stream
random_turn trees bounds budget words done = turned_if (run trees bounds.frames done) (random_event trees bounds budget words done) words done

-- ---- mixed

-- what the seed says, how many turns were short so far, and the thread of the last turn
pub record Mixed : Type 0 where
  pub words : Stream
  pub exponent : ℕ
  pub down : Bool
  pub main_first : Bool
  -- of the thread of the turn before, and of another one
  pub same : ℕ
  pub another : ℕ
  pub last : Option ℕ

-- four numbers are drawn, and nothing comes of the last
abbrev pub mixed_of : (seed : ℕ) → Mixed
mixed_of seed =
    let exponent = below 7 (words_of seed) in
    let down = below 2 exponent.1 in
    let first = below 2 down.1 in
    let unused = below 8 first.1 in
    record { words = unused.1; exponent = exponent.0; down = down.0 == 1; main_first = first.0 == 0; same = 0; another = 0; last = None }

-- how many events a turn has at most that is of the thread of the turn before
abbrev pub length_of_same : Mixed → ℕ × Mixed
length_of_same m =
    let drawn = counted_length m.exponent m.same m.words in
    (drawn.0, record m { same = drawn.1.0; words = drawn.1.1 })

-- of another one
abbrev pub length_of_another : Mixed → ℕ × Mixed
length_of_another m =
    let drawn = counted_length m.exponent m.another m.words in
    (drawn.0, record m { another = drawn.1.0; words = drawn.1.1 })

-- of this one
abbrev pub length_of : (last : Option ℕ) → (t : ℕ) → Mixed → ℕ × Mixed
length_of None t m = if m.main_first then (10000, m) else length_of_same m
length_of (Some last) t m = if last == t then length_of_same m else length_of_another m

abbrev pub waits : ThreadStatus → Bool
waits (Waiting object count) = true
waits Running = false
waits (Relock object count cause) = false
waits (Ended exception) = false

-- how many of the threads are in a wait set
abbrev pub waiting_in : List Thread → ℕ
waiting_in threads = count_by (λ (thread : Thread). waits thread.status) threads

-- where several threads wait, one of them is drawn
abbrev pub mixed_turn_of : Program → Bounds → (budget : ℕ) → Mixed → (done : List Event) → State → (t : ℕ) → Turned Mixed
mixed_turn_of trees bounds budget m done state t =
    let drawn = length_of m.last t m in
    let pick = pick_of (waiting_in state.world.threads) drawn.1.words in
    record { kept = record drawn.1 { words = pick.1; last = Some t }; events = with_picked trees bounds budget pick.0 drawn.0 t done }

-- the turn of the first thread in rotation that may go on
abbrev pub mixed_turn : Program → Bounds → (budget : ℕ) → Mixed → (done : List Event) → Turned Mixed
mixed_turn trees bounds budget m done =
    turned_if (run trees bounds.frames done)
    (λ state. turned_if (first_of trees bounds.frames state (in_rotation m.down m.last (thread_count state))) (mixed_turn_of trees bounds budget m done state) m done)
    m done

-- ---- the run

-- The events of the run by a policy, memory aside. Each turn does one at least, so there are no more turns than the budget has events.
abbrev pub events_by : Policy → Program → Bounds → (budget : ℕ) → List Event
events_by (policy.Mixed seed) trees bounds budget = turns (mixed_turn trees bounds budget) (budget + 1) (mixed_of seed) []
events_by (policy.Random seed) trees bounds budget = turns (random_turn trees bounds budget) (budget + 1) (words_of seed) []
events_by (policy.Rotation quantum) trees bounds budget = turns (rotation_turn trees bounds budget quantum) (budget + 1) None []
