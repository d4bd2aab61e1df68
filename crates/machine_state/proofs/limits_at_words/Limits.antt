-- The limit that an event would pass is the same over values and over their words.
use Rattle.std.proofs.Common.{◌≡◌, ℕ, ◌+◌, ◌-◌, List, map, drop, length, Bool, Some, None, refl, sym, ap, ◌∙◌, subst}
use Rattle.std.specs.Prelude.{if◌then◌else◌, nat_le, nat_lt, sum_by}
use Rattle.std.specs.Option.{option_and_then}
use Rattle.std.specs.List.{fold}
use Rattle.std.proofs.lemmas.List.{length-map, drop-map}
use Rattle.std.proofs.lemmas.List.Folds.{fold-map}
use Rattle.model.specs.declared.event.Event.{Event}
use Rattle.model.specs.declared.end.RunCause.TheVariants as cause
use Rattle.model.specs.declared.value.Value.{Value}
use Rattle.model.specs.Classes.{Program}
use Rattle.model.specs.Operands.{words, values, word_of}
use Rattle.model.specs.State.{ObjectOf, World, StateOf, State}
use Rattle.model.specs.Opening.{opening_heap}
use Rattle.model.specs.Outcomes.{Cost, Free, Makes, Fills, Starts, Enters, Joins}
use Rattle.model.specs.Step.{SteppedOf, NotEnabled, WrongKind, Next, stepped}
use Rattle.model.specs.Run.{run}
use Rattle.model.specs.LimitStands.{Bounds, opening_count, objects_made, cells_made, is_crowded, inflated, limit_of, limit_at}
use Rattle.model.specs.Worlds.{cells_of}
use Rattle.model.specs.Words.{map_object, map_world, words_of}
use Rattle.run_laws.proofs.laws.LinkedOf.{linked_of}
use Rattle.run_laws.specs.word_runs.Words.{map_stepped}
use Rattle.run_laws.proofs.word_runs.Carried.{carried}
use Rattle.run_laws.proofs.word_runs.OpenedWords.{opened_words}
use Rattle.run_laws.specs.monitor_counts.Counts.{IsLonger}
use Rattle.run_laws.proofs.monitor_counts.Runs.{runs_longer}
use Rattle.machine_state.proofs.shown_objects.Cells.{object_cells}
use Rattle.machine_state.specs.limits_at_words.Limits.{limit_in, limit_by, AreLimitsSame, AreLimitsCarried, AreLimitsStanding, GoesOn, AreRunsLongerAtWords}

-- ---- objects and cells

object_words : ObjectOf Value → ObjectOf ℕ
object_words = map_object word_of

all_cells_same : (os : List (ObjectOf Value)) → sum_by cells_of (map (map_object word_of) os) ≡ sum_by cells_of os
all_cells_same os =
    fold-map (λ (n : ℕ) (o : ObjectOf ℕ). n + cells_of o) (map_object word_of) 0 os
    ∙ (λ i. fold (λ (n : ℕ) (o : ObjectOf Value). n + object_cells word_of o i) 0 os)

objects_made_same : (files : Program) (world : World) → objects_made files (map_world word_of world) ≡ objects_made files world
objects_made_same files world = ap (λ n. n - opening_count files) (length-map world.heap (map_object word_of))

cells_made_same : (files : Program) (world : World) → cells_made files (map_world word_of world) ≡ cells_made files world
cells_made_same files world =
    ap (sum_by cells_of) (drop-map (map_object word_of) (opening_count files) world.heap) ∙ all_cells_same (drop (opening_count files) world.heap)

-- ---- limits

module _ (files : Program) (bounds : Bounds) (crowded : ℕ → Bool) where
  taken_same : (state : State) (cost : Cost) → limit_in files bounds crowded state.world cost ≡ limit_of files bounds crowded state cost
  taken_same state Free = refl
  taken_same state (Makes cells) = refl
  taken_same state (Fills cells) = refl
  taken_same state Starts = refl
  taken_same state (Enters object count) = refl
  taken_same state (Joins object) = refl

  taken_words : (world : World) (cost : Cost)
      → limit_in files bounds crowded (map_world word_of world) cost ≡ limit_in files bounds crowded world cost
  taken_words world Free = refl
  taken_words world (Makes cells) =
      let objects = objects_made_same files world in
      let all = cells_made_same files world in
      λ i. if nat_le bounds.objects (objects i) then Some cause.Objects else if nat_lt bounds.cells (all i + cells) then Some cause.Cells else None
  taken_words world (Fills cells) =
      let all = cells_made_same files world in
      λ i. if nat_lt bounds.cells (all i + cells) then Some cause.Cells else None
  taken_words world Starts = refl
  taken_words world (Enters object count) = refl
  taken_words world (Joins object) = refl

  by_values : (state : State) (x : SteppedOf State) → limit_by files bounds crowded state x ≡ limit_at files bounds crowded state x
  by_values state NotEnabled = refl
  by_values state WrongKind = refl
  by_values state (Next cost next) = taken_same state cost

  by_words : (state : State) (x : SteppedOf State)
      → limit_by files bounds crowded (words_of state) (map_stepped words_of x) ≡ limit_at files bounds crowded state x
  by_words state NotEnabled = refl
  by_words state WrongKind = refl
  by_words state (Next cost next) = taken_words state.world cost ∙ taken_same state cost

pub limits_same : AreLimitsSame
limits_same =
    record {
      of_values = by_values;
      of_words = by_words;
      opened = λ files. ap (λ (s : StateOf ℕ). length s.world.heap) (opened_words files) ∙ length-map (opening_heap values files) (map_object word_of);
    }

pub limits_carried : AreLimitsCarried
limits_carried files trees linkable bounds crowded frames at state event h =
    let carries = carried trees (linked_of files trees linkable.spelled linkable.no_refusal).rooted in
    ap (λ w. limit_by trees bounds crowded w (stepped words trees frames w event)) h.are
    ∙ (ap (limit_by trees bounds crowded (words_of state)) (carries frames state event h.typed)
    ∙ by_words trees bounds crowded state (stepped values trees frames state event))

pub limits_standing : AreLimitsStanding
limits_standing files trees linkable bounds events at state event r h =
    let crowded = is_crowded bounds.monitors (inflated trees bounds.frames events) in
    limits_carried files trees linkable bounds crowded bounds.frames at state event h
    ∙ sym (ap (option_and_then (λ (s : State). limit_at trees bounds crowded s (stepped values trees bounds.frames s event))) r)

-- ---- runs

no_next : {S : Type 0} {cost : Cost} {next : S} → NotEnabled ≡ Next cost next → ⊥
no_next e = absurd cc

no_wrong : {S : Type 0} {cost : Cost} {next : S} → WrongKind ≡ Next cost next → ⊥
no_wrong e = absurd cc

same_cost : {S : Type 0} (c cost : Cost) (s next : S) → Next c s ≡ Next cost next → c ≡ cost
same_cost c cost s next e = cc

same_next : {S : Type 0} (c cost : Cost) (s next : S) → Next c s ≡ Next cost next → s ≡ next
same_next c cost s next e = cc

module _ (trees : Program) (frames : ℕ) (events : List Event) (state : State) (event : Event)
    (r : run trees frames events ≡ Some state) where
  goes_on : (cost : Cost) (next : StateOf ℕ) (y : SteppedOf State) → stepped values trees frames state event ≡ y
      → map_stepped words_of y ≡ Next cost next → GoesOn trees frames events event cost next
  goes_on cost next NotEnabled q e = absurd (no_next e)
  goes_on cost next WrongKind q e = absurd (no_wrong e)
  goes_on cost next (Next c s) q e =
      record {
        state = s;
        longer = subst (λ k. IsLonger trees frames events event k s) (same_cost c cost (words_of s) next e) (runs_longer trees frames events state event c s r q);
        are = sym (same_next c cost (words_of s) next e);
      }

pub runs_longer_at_words : AreRunsLongerAtWords
runs_longer_at_words files trees linkable frames events at state event cost next r h e =
    let carries = carried trees (linked_of files trees linkable.spelled linkable.no_refusal).rooted in
    goes_on trees frames events state event r cost next (stepped values trees frames state event) refl
    (sym (carries frames state event h.typed) ∙ subst (λ (w : StateOf ℕ). stepped words trees frames w event ≡ Next cost next) h.are e)
