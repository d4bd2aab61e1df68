-- Flags of fat locks go on with what events take; calls of monitors set them so, and are refused at the limits.
use Rattle.std.proofs.Common.{◌≡◌, ℕ, zero, suc, ◌+◌, ◌<◌, List, [], ◌∷◌, ◌++◌, length, replicate, Bool, true, false, ◌==◌, ◌&&◌, ◌||◌, not, Option, Some, None, refl, sym, ap, ◌∙◌, subst, arith}
use Rattle.std.specs.Prelude.{if◌then◌else◌, nat_le, slice_index_or, slice_set, count_by, Ok, Err}
use Rattle.std.proofs.lemmas.Bool.{false≢true, cond_both, eqb-true, eq-eqb, and_parts, and_right}
use Rattle.std.proofs.lemmas.List.{set-get_or, get_or-set_same, get_or-set_other}
use Rattle.std.proofs.lemmas.List.Sums.{sum_by_push, sum_by-set}
use Rattle.model.specs.declared.end.RunCause.TheVariants as cause
use Rattle.model.specs.declared.monitor_answer.MonitorAnswer.TheVariants.{Done, Held}
use Rattle.model.specs.State.{Monitor}
use Rattle.model.specs.Outcomes.{Cost, Free, Makes, Fills, Starts, Enters, Joins}
use Rattle.model.specs.Monitors.{Answered, answers_done, owned, owns, as_entrant, monitor_at}
use Rattle.model.specs.LimitStands.{is_inflating_entry, with_inflated, inflated_by, is_crowded}
use Rattle.heap.specs.declared.monitor.call.Call.{Call}
use Rattle.heap.specs.declared.monitor.call.Call.TheVariants as calls
use Rattle.heap.specs.declared.monitor.refusal.MonitorRefusal.TheVariants.{Monitors, LockCount, Memory}
use Rattle.heap.specs.monitor.Locks.{Locks, is_fat_at, fat_count, inflates_in, takes_memory, is_table_full, is_count_full}
use Rattle.run_laws.specs.monitor_counts.Counts.{is_inflated, IsOwnerCounted}
use Rattle.machine_state.specs.limits_at_words.FatLocks.{AreFlags, flags_after, IsOneOf, call_limit, AreEntriesAsTaken, AreWaitsAsTaken, AreRelocksAllowed, AreRefusalsLimits, AreFlagsKept, AreCallsAsTaken}

-- ---- lists of flags

no_flag : (n object : ℕ) → slice_index_or (replicate n false) object false ≡ false
no_flag zero object = refl
no_flag (suc n) zero = refl
no_flag (suc n) (suc object) = no_flag n object

none_set : (n : ℕ) → count_by (λ (flag : Bool). flag) (replicate n false) ≡ 0
none_set zero = refl
none_set (suc n) = none_set n

flag_more : (flags : List Bool) (object : ℕ) → slice_index_or (flags ++ false ∷ []) object false ≡ slice_index_or flags object false
flag_more [] zero = refl
flag_more [] (suc object) = refl
flag_more (flag ∷ flags) zero = refl
flag_more (flag ∷ flags) (suc object) = flag_more flags object

one_more : (flags : List Bool) (objects : List ℕ) → AreFlags flags objects → AreFlags (flags ++ false ∷ []) objects
one_more flags objects h =
    let more = sum_by_push (λ (flag : Bool). if flag then 1 else 0) flags false in
    record { same = λ object. flag_more flags object ∙ h.same object; count = omega (arith, more, h.count) }

-- one is set
module _ (flags : List Bool) (objects : List ℕ) (object : ℕ) (h : AreFlags flags objects) (there : object < length flags) where
  was_set : is_inflated objects object ≡ true → AreFlags (slice_set flags object true) objects
  was_set e =
      let at : slice_index_or flags object false ≡ true = h.same object ∙ e in
      let same : slice_set flags object true ≡ flags = ap (slice_set flags object) (sym at) ∙ set-get_or flags object false in
      subst (λ fs. AreFlags fs objects) (sym same) h

  other_flag : (other : ℕ) (b : Bool) → (object == other) ≡ b
      → slice_index_or (slice_set flags object true) other false ≡ (b || is_inflated objects other)
  other_flag other true e =
      ap (λ o. slice_index_or (slice_set flags object true) o false) (sym (eqb-true object other e)) ∙ get_or-set_same flags object true false there
  other_flag other false e =
      get_or-set_other flags object other true false (λ q. false≢true (sym e ∙ eq-eqb object other (sym q))) ∙ h.same other

  newly_set : is_inflated objects object ≡ false → AreFlags (slice_set flags object true) (object ∷ objects)
  newly_set e =
      let at : slice_index_or flags object false ≡ false = h.same object ∙ e in
      let one = sum_by-set (λ (flag : Bool). if flag then 1 else 0) flags object true false there in
      let counted : count_by (λ (flag : Bool). flag) (slice_set flags object true) + 0 ≡ count_by (λ (flag : Bool). flag) flags + 1 =
      subst (λ (b : Bool). count_by (λ (flag : Bool). flag) (slice_set flags object true) + (if b then 1 else 0) ≡ count_by (λ (flag : Bool). flag) flags + 1) at one in
      record { same = λ other. other_flag other (object == other) refl; count = omega (arith, counted, h.count) }

  flag_set : AreFlags (slice_set flags object true) (with_inflated object objects)
  flag_set = cond_both (is_inflated objects object) objects (object ∷ objects) (λ os. AreFlags (slice_set flags object true) os) was_set newly_set

  entry_set : (b : Bool) → AreFlags (if b then slice_set flags object true else flags) (if b then with_inflated object objects else objects)
  entry_set true = flag_set
  entry_set false = h

flags_go : (cost : Cost) (flags : List Bool) (objects : List ℕ) → AreFlags flags objects → IsOneOf cost (length flags)
    → AreFlags (flags_after cost flags) (inflated_by cost objects)
flags_go Free flags objects h there = h
flags_go (Makes cells) flags objects h there = one_more flags objects h
flags_go (Fills cells) flags objects h there = h
flags_go Starts flags objects h there = h
flags_go (Enters object count) flags objects h there = entry_set flags objects object h there (is_inflating_entry count)
flags_go (Joins object) flags objects h there = flag_set flags objects object h there

pub flags_kept : AreFlagsKept
flags_kept = record { none = λ objects. record { same = no_flag objects; count = none_set objects }; after = flags_go }

-- ---- calls

-- whether one more lock can be inflated, by the flags
crowd : (locks : Locks) (objects : List ℕ) (object : ℕ) → AreFlags locks.fat objects
    → (not (is_fat_at locks object) && nat_le locks.limit (fat_count locks)) ≡ is_crowded locks.limit objects object
crowd locks objects object flags =
    let fat = flags.same object in
    let count = flags.count in
    λ i. not (fat i) && nat_le locks.limit (count i)

may : (b : Bool) (m after : Monitor) → (if b then answers_done after else record { answer = Held; after = m }).answer ≡ Done → b ≡ true
may true m after e = refl
may false m after e = absurd cc

-- a thread that may enter with some entries is the owner
owner_may : (thread count most : ℕ) (m again : Monitor) (o : Option ℕ) (free : Answered Monitor) → (0 == most) ≡ false
    → IsOwnerCounted o count → (as_entrant thread o m free (answers_done again)).answer ≡ Done
    → (owns thread o && (count == most)) ≡ (count == most)
owner_may thread count most m again None free some none e = sym (ap (λ n. n == most) none ∙ some)
owner_may thread count most m again (Some owner) free some entries e = ap (λ b. b && (count == most)) (may (owner == thread) m again e)

entries_as_taken : AreEntriesAsTaken
entries_as_taken locks objects object thread h e =
    let m = monitor_at locks.monitors object in
    let inflating = owner_may thread m.count 256 m (owned m thread (m.count + 1)) m.owner (answers_done (owned m thread 1)) refl h.counted.owner e in
    let full = owner_may thread m.count 4294967295 m (owned m thread (m.count + 1)) m.owner (answers_done (owned m thread 1)) refl h.counted.owner e in
    let crowded = crowd locks objects object h.flags in
    record {
      flags = ap (λ b. if b then slice_set locks.fat object true else locks.fat) inflating;
      refused = λ i. if full i then Some cause.LockCount else if inflating i && crowded i then Some cause.Monitors else None;
    }

waits_as_taken : AreWaitsAsTaken
waits_as_taken locks objects object thread h own =
    let crowded = crowd locks objects object h.flags in
    record {
      flags = ap (λ b. if b then slice_set locks.fat object true else locks.fat) own;
      refused = λ i. if own i && crowded i then Some cause.Monitors else None;
    }

pub relocks_allowed : AreRelocksAllowed
relocks_allowed locks objects object thread count flags returns there small =
    (there, small, returns.entries, λ thin. absurd (false≢true (sym thin ∙ (flags.same object ∙ returns.lock))))

-- a lock that inflates has 256 entries, or is left by a wait
not_full : (call : Call) (locks : Locks) → inflates_in call locks ≡ true → is_count_full call locks ≡ false
not_full (calls.Enter object thread) locks e =
    let m = monitor_at locks.monitors object in
    let is = eqb-true m.count 256 (and_parts (owns thread m.owner) (m.count == 256) e).1 in
    and_right (owns thread m.owner) (m.count == 4294967295) (ap (λ n. n == 4294967295) is)
not_full (calls.Exit object thread) locks e = refl
not_full (calls.Wait object thread) locks e = refl
not_full (calls.Notify object thread pick) locks e = refl
not_full (calls.NotifyAll object thread) locks e = refl
not_full (calls.WakeAll object) locks e = refl
not_full (calls.Interrupt object thread) locks e = refl
not_full (calls.Relock object thread count) locks e = refl

-- memory is taken by a wait, or where a lock inflates
not_full_taking : (call : Call) (locks : Locks) → takes_memory call locks ≡ true → is_count_full call locks ≡ false
not_full_taking (calls.Enter object thread) locks e = not_full (calls.Enter object thread) locks (and_parts _ _ e).0
not_full_taking (calls.Exit object thread) locks e = refl
not_full_taking (calls.Wait object thread) locks e = refl
not_full_taking (calls.Notify object thread pick) locks e = refl
not_full_taking (calls.NotifyAll object thread) locks e = refl
not_full_taking (calls.WakeAll object) locks e = refl
not_full_taking (calls.Interrupt object thread) locks e = refl
not_full_taking (calls.Relock object thread count) locks e = refl

-- by whether the count is full, and the table
limit_at : (full table : Bool) (call : Call) (locks : Locks) → is_count_full call locks ≡ full → is_table_full call locks ≡ table
    → call_limit call locks ≡ (if full then Some cause.LockCount else if table then Some cause.Monitors else None)
limit_at full table call locks count crowded = λ i. if count i then Some cause.LockCount else if crowded i then Some cause.Monitors else None

refusals_limit : AreRefusalsLimits
refusals_limit (Ok answer) call old new h = limit_at false false call old h.count h.table
refusals_limit (Err Monitors) call old new h = limit_at false true call old (not_full call old (and_parts _ _ h.0).0) h.0
refusals_limit (Err LockCount) call old new h = ap (λ b. if b then Some cause.LockCount else if is_table_full call old then Some cause.Monitors else None) h.0
refusals_limit (Err Memory) call old new h = limit_at false false call old (not_full_taking call old h.0) h.1

pub calls_taken : AreCallsAsTaken
calls_taken = record { entries = entries_as_taken; waits = waits_as_taken; relocks = relocks_allowed; refusals = refusals_limit }
