-- What is told of an event that is done are its actions.
use Rattle.std.proofs.Common.{◌≡◌, ℕ, zero, suc, List, [], ◌∷◌, ◌++◌, Option, Some, None, map, refl, sym, ap, subst, ◌∙◌}
use Rattle.std.specs.Prelude.{slice_get}
use Rattle.std.specs.Option.{option_map_or}
use Rattle.std.proofs.lemmas.List.{append_assoc, map-append, length-map}
use Rattle.std.proofs.lemmas.Option.{same_Some}
use Rattle.model.specs.declared.event.Event.{Event}
use Rattle.model.specs.declared.value.Value.{Value}
use Rattle.model.specs.Classes.{Program}
use Rattle.model.specs.LimitStands.{Bounds}
use Rattle.model.specs.Names.{Name}
use Rattle.model.specs.Opening.{opening}
use Rattle.model.specs.Operands.{values, words, word_of}
use Rattle.model.specs.Outcomes.{Cost}
use Rattle.model.specs.State.{Monitor, StackOf, State}
use Rattle.model.specs.Step.{Next, stepped, next_by}
use Rattle.model.specs.WellTyped.{IsWellTyped}
use Rattle.model.specs.Words.{map_stack, map_world, words_of}
use Rattle.model.specs.Worlds.{thread_at}
use Rattle.run_laws.specs.monitor_counts.Counts.{is_inflated}
use Rattle.run_laws.specs.word_runs.Words.{IsStepCarried, map_stepped}
use Rattle.run_laws.proofs.interleavings.Reduction.{opened, run_typed}
use Rattle.linked_code.specs.declared.program.LinkedProgram.{LinkedProgram}
use Rattle.thread_stacks.specs.Stacks.{ShownEntry}
use Rattle.machine_state.specs.declared.state.Shared.{Shared}
use Rattle.race_places.specs.declared.run_actions.Action.{Action}
use Rattle.race_places.specs.declared.run_actions.Action.TheVariants as action
use Rattle.race_places.specs.named_actions.Names.{IsRight, named_action}
use Rattle.data_races.specs.Actions as named
use Rattle.data_races.specs.EventActions.{needed_class, found_class, finds_of, owned, besides, accesses_of, interrupts_of, started, clear_actions, finished_classes, end_actions, actions_to, actions_of, rule_of}
use Rattle.monitor_laws.specs.owners.Owners.{AreOwnersKept, meant_before}
use Rattle.event_laws.specs.entered_monitors.Entries.{DoEntriesTell}
use Rattle.event_laws.specs.event_changes.Changes.{AddsThread, AreClassesKept, AreThreadsAdded, DoEndsWake, class_on}
use Rattle.event_laws.specs.meant_monitors.Meant.{DoEntriesMeanNone}
use Rattle.table_actions.specs.tables.Owners.{OwnsTheRest}
use Rattle.table_actions.specs.tables.Told.{all_found, listed}
use Rattle.field_names.specs.named_fields.Fields.{names_of}
use Rattle.linked_code.specs.Numbers.{IsClassIf}
use Rattle.next_accesses.specs.next_access.Next.{IsReached}
use Rattle.state_actions.specs.changed_monitors.Changed.{OfEvent, IsChanged}
use Rattle.state_actions.specs.class_ends.Classes.{Shows, IsOfClass}
use Rattle.state_actions.specs.wait_ends.Ends.{EndsWaits, TellsEnd}
use Rattle.race_actions.specs.declared.event_actions.EventActions.{EventActions}
use Rattle.race_actions.specs.declared.looking.EventBefore.{EventBefore}
use Rattle.race_actions.specs.looking.Known.{IsKnown, AreAllRight, names_given}
use Rattle.race_actions.specs.event_actions.Told.{HasLooked, AreLocked, AreLeft, AreActions, TellsActions, found_in}
use Rattle.race_actions.proofs.looking.Events.{IsShownBy, shown_by, names_are, has_class}
use Rattle.race_actions.proofs.event_actions.Picks.{accesses_same}
use Rattle.race_actions.proofs.event_actions.Right.{ArePlain, right_none, right_more, right_both, plain_all_right, plain_mapped, plain_finds, plain_interrupted, plain_clear, plain_end}

-- ---- lists

pub mapped_at : {A B : Type 0} (f : A → B) (xs : List A) (k : ℕ) (x : A) → slice_get xs k ≡ Some x → slice_get (map f xs) k ≡ Some (f x)
mapped_at f [] k x e = absurd cc
mapped_at f (y ∷ ys) zero x e = ap (λ z. Some (f z)) (same_Some y x e)
mapped_at f (y ∷ ys) (suc k) x e = mapped_at f ys k x e

three_joined : {A : Type 0} (x c d e : List A) → x ++ (c ++ d ++ e) ≡ x ++ c ++ d ++ e
three_joined x c d e = sym (append_assoc x (c ++ d) e) ∙ ap (λ l. l ++ e) (sym (append_assoc x c d))

four_joined : {A : Type 0} (x f g h i : List A) → x ++ (f ++ g ++ h ++ i) ≡ x ++ f ++ g ++ h ++ i
four_joined x f g h i = sym (append_assoc x (f ++ g ++ h) i) ∙ ap (λ l. l ++ i) (three_joined x f g h)

-- ten parts, told in four groups
grouped : {A : Type 0} (a b c d e f g h i j : List A) → (a ++ b) ++ (c ++ d ++ e) ++ (f ++ g ++ h ++ i) ++ j ≡ a ++ b ++ c ++ d ++ e ++ f ++ g ++ h ++ i ++ j
grouped a b c d e f g h i j =
    ap (λ l. l ++ j)
    (ap (λ l. l ++ (f ++ g ++ h ++ i)) (three_joined (a ++ b) c d e) ∙ four_joined (a ++ b ++ c ++ d ++ e) f g h i)

-- ---- what is told, of one event

pub record Pieces (trees : Program) (bounds : Bounds) (state : State) (e : EventActions) (shared : Shared) (told : List Action) (t : ℕ) : Type 0 where
  pub looked : HasLooked trees bounds state t e
  pub before : EventBefore
  pub is : e.before ≡ Some before
  pub stack : List ShownEntry
  pub there : slice_get shared.stacks.items t ≡ Some stack
  pub locked : List Action
  pub are_locked : AreLocked t shared.heap.locks.monitors stack before e.accesses.items locked
  pub left : List Action
  pub are_left : AreLeft t shared before left
  pub front : List Action
  pub front_is : front ≡ (found_in before ++ locked) ++ left
  pub ends : TellsEnd t e.waiting.items shared.threads.threads front told

module _ (classes : AreClassesKept) (added : AreThreadsAdded) (wakes : DoEndsWake) (entries : DoEntriesTell) (mean_none : DoEntriesMeanNone) (kept : AreOwnersKept)
    (carried : IsStepCarried) (trees : Program) (bounds : Bounds) (state : State) (e : EventActions) (p : LinkedProgram) (shared : Shared) (event : Event)
    (cost : Cost) (next : State) (steps : stepped values trees bounds.frames state event ≡ Next cost next) (after : IsReached trees p bounds shared next)
    (told : List Action) (pieces : Pieces trees bounds state e shared told event.thread) where
  abbrev t : ℕ
  t = event.thread

  abbrev before : EventBefore
  before = pieces.before

  abbrev given : List Action → List named.Action
  given l = names_given trees l

  known : IsKnown trees bounds.frames state t before
  known = subst (λ (b : EventBefore). IsKnown trees bounds.frames state t b) (same_Some pieces.looked.before before (sym pieces.looked.is ∙ pieces.is)) pieces.looked.known

  abbrev own : StackOf Value
  own = known.own

  abbrev reached : IsReached trees pieces.looked.p bounds pieces.looked.shared state
  reached = pieces.looked.reached

  typed : IsWellTyped trees state
  typed = run_typed reached.files trees reached.accepted bounds.frames reached.events (opening values trees) state (opened reached.files trees reached.accepted bounds.frames) reached.reached

  -- ---- over words

  in_words : stepped words trees bounds.frames (words_of state) event ≡ Next cost (words_of next)
  in_words = carried reached.program.files trees reached.program.linkable bounds.frames state event typed ∙ ap (map_stepped words_of) steps

  own_words : slice_get (words_of state).stacks t ≡ Some (map_stack word_of own)
  own_words = mapped_at (map_stack word_of) state.stacks t own known.own_is

  by : IsShownBy trees p pieces.stack (words_of next).stacks t
  by = shown_by trees p shared.stacks.items (words_of next).stacks after.shown.stacks t pieces.stack pieces.there

  monitors_are : shared.heap.locks.monitors ≡ next.world.monitors
  monitors_are = after.shown.represents.world_is.monitors

  threads_are : shared.threads.threads ≡ next.world.threads
  threads_are = after.shown.represents.world_is.threads

  abbrev meant_now : Option ℕ
  meant_now = meant_before words trees event (map_world word_of state.world) (map_stack word_of own) (thread_at state.world t).status

  of_event : OfEvent t before.monitor.object meant_now (map_stack word_of own) by.own (map_world word_of state.world) (map_world word_of next.world)
  of_event =
      record {
        is_meant = known.meant event refl;
        alone = λ object h. mean_none.of_words trees bounds.frames (words_of state) event cost (words_of next) (map_stack word_of own) by.own in_words own_words by.at object h;
        owners = kept.of_words trees bounds.frames (words_of state) event cost (words_of next) (map_stack word_of own) by.own in_words own_words by.at;
        entries = entries.of_words trees bounds.frames (words_of state) event cost (words_of next) (map_stack word_of own) by.own in_words own_words by.at
            (is_inflated reached.inflated) reached.shown.counted;
      }

  changed : IsChanged t state.world.monitors next.world.monitors pieces.are_locked.monitor
  changed =
      pieces.are_locked.changes trees p t meant_now (map_stack word_of own) by.own (map_world word_of state.world) (map_world word_of next.world)
      monitors_are by.shows (known.depth ∙ sym (length-map own _)) of_event known.was_owner

  rest : OwnsTheRest t pieces.are_locked.monitor.object state.world.monitors shared.heap.locks.monitors
  rest = subst (λ (l : List Monitor). OwnsTheRest t pieces.are_locked.monitor.object state.world.monitors l) (sym monitors_are) changed.rest

  locks_are : given (listed pieces.are_locked.lock) ≡ map (λ r. named.Lock r) (besides (owned t next.world) (owned t state.world))
  locks_are =
      pieces.are_locked.locks state.world.monitors rest changed.was (names_of trees)
      ∙ ap (λ (l : List Monitor). map (λ r. named.Lock r) (besides (owned t (record next.world { monitors = l })) (owned t state.world))) monitors_are

  unlocks_are : given (listed pieces.are_locked.unlock) ≡ map (λ r. named.Unlock r) (besides (owned t state.world) (owned t next.world))
  unlocks_are =
      pieces.are_locked.unlocks state.world.monitors rest changed.was (names_of trees)
      ∙ ap (λ (l : List Monitor). map (λ r. named.Unlock r) (besides (owned t state.world) (owned t (record next.world { monitors = l })))) monitors_are

  -- ---- over values

  adds : AddsThread state.world next.world
  adds = added.of_values trees bounds.frames state event cost next own steps known.own_is

  starts_are : given (listed pieces.are_left.start) ≡ map (λ u. named.Start u) (started state.world next.world)
  starts_are = pieces.are_left.starts (names_of trees) state.world next.world known.threads threads_are (record { kept = adds.kept; one = adds.one })

  clears_are : given (listed pieces.are_left.clear) ≡ clear_actions t state.world next.world
  clears_are = pieces.are_left.clears (names_of trees) state.world next.world known.interrupted threads_are

  shows : Shows trees p bounds shared next.world
  shows = record { program = after.program; represents = after.shown.represents }

  finishes_are : given (listed pieces.are_left.finish) ≡ map (λ n. named.FinishInitialisation n) (finished_classes state.world next.world)
  finishes_are =
      pieces.are_left.finishes.1 trees p bounds state.world next.world (names_of trees) (class_on own) shows (names_are trees) known.initialises
      (classes.of_values trees bounds.frames state event cost next own steps known.own_is) known.was_finished

  waits : EndsWaits t e.waiting.items state.world next.world
  waits =
      record {
        listed = pieces.looked.waiting;
        wait_sets = typed.wait_sets;
        wakes = wakes.of_values trees bounds.frames state event cost next own steps known.own_is;
        kept = adds.kept;
      }

  ends_are : given pieces.ends.told ≡ end_actions t state.world next.world
  ends_are = pieces.ends.are (names_of trees) state.world next.world threads_are waits

  accesses_are : given e.accesses.items ≡ accesses_of trees event state.world (rule_of trees state t)
  accesses_are = pieces.looked.accesses.are ∙ accesses_same trees bounds.frames state event cost next steps

  -- ---- all together

  abbrev all : List named.Action
  all = actions_to trees event state.world (rule_of trees state t) next.world

  mapped_both : (xs ys : List Action) (as_xs as_ys : List named.Action) → given xs ≡ as_xs → given ys ≡ as_ys → given (xs ++ ys) ≡ as_xs ++ as_ys
  mapped_both xs ys as_xs as_ys e f = map-append (named_action (names_of trees)) xs ys ∙ ap (λ l. l ++ given ys) e ∙ ap (λ l. as_xs ++ l) f

  abbrev found_classes : List named.Action
  found_classes = found_class state.world (needed_class trees t (rule_of trees state t))

  abbrev finds_by : List named.Action
  finds_by = finds_of trees event state.world (rule_of trees state t)

  abbrev locks : List named.Action
  locks = map (λ r. named.Lock r) (besides (owned t next.world) (owned t state.world))

  abbrev accesses : List named.Action
  accesses = accesses_of trees event state.world (rule_of trees state t)

  abbrev unlocks : List named.Action
  unlocks = map (λ r. named.Unlock r) (besides (owned t state.world) (owned t next.world))

  abbrev starts : List named.Action
  starts = map (λ u. named.Start u) (started state.world next.world)

  abbrev interrupts : List named.Action
  interrupts = interrupts_of trees event state.world (rule_of trees state t)

  abbrev clears : List named.Action
  clears = clear_actions t state.world next.world

  abbrev finishes : List named.Action
  finishes = map (λ n. named.FinishInitialisation n) (finished_classes state.world next.world)

  found_are : given (found_in before) ≡ found_classes ++ finds_by
  found_are = mapped_both (listed before.found_class) (all_found before.finds) found_classes finds_by known.class (known.finds event refl)

  locked_are : given pieces.locked ≡ locks ++ accesses ++ unlocks
  locked_are =
      ap given pieces.are_locked.are
      ∙ mapped_both (listed pieces.are_locked.lock ++ e.accesses.items) (listed pieces.are_locked.unlock) (locks ++ accesses) unlocks
      (mapped_both (listed pieces.are_locked.lock) e.accesses.items locks accesses locks_are accesses_are) unlocks_are

  left_are : given pieces.left ≡ starts ++ interrupts ++ clears ++ finishes
  left_are =
      ap given pieces.are_left.are
      ∙ mapped_both (listed pieces.are_left.start ++ listed before.interrupt ++ listed pieces.are_left.clear) (listed pieces.are_left.finish) (starts ++ interrupts ++ clears) finishes
      (mapped_both (listed pieces.are_left.start ++ listed before.interrupt) (listed pieces.are_left.clear) (starts ++ interrupts) clears
      (mapped_both (listed pieces.are_left.start) (listed before.interrupt) starts interrupts starts_are (known.interrupt event refl)) clears_are) finishes_are

  told_is : told ≡ found_in before ++ pieces.locked ++ pieces.left ++ pieces.ends.told
  told_is = pieces.ends.behind ∙ ap (λ l. l ++ pieces.ends.told) pieces.front_is

  told_are : given told ≡ all
  told_are =
      ap given told_is
      ∙ mapped_both (found_in before ++ pieces.locked ++ pieces.left) pieces.ends.told
      ((found_classes ++ finds_by) ++ (locks ++ accesses ++ unlocks) ++ (starts ++ interrupts ++ clears ++ finishes)) (end_actions t state.world next.world)
      (mapped_both (found_in before ++ pieces.locked) pieces.left ((found_classes ++ finds_by) ++ (locks ++ accesses ++ unlocks)) (starts ++ interrupts ++ clears ++ finishes)
      (mapped_both (found_in before) pieces.locked (found_classes ++ finds_by) (locks ++ accesses ++ unlocks) found_are locked_are) left_are) ends_are
      ∙ grouped found_classes finds_by locks accesses unlocks starts interrupts clears finishes (end_actions t state.world next.world)

  actions_are : all ≡ actions_of trees bounds.frames state event
  actions_are = sym (ap (λ o. option_map_or (λ (n : State). actions_to trees event state.world (rule_of trees state t) n.world) (next_by o) []) steps)

  -- ---- and right

  finish_right : (number : Option ℕ) (class : Option Name) → IsClassIf trees number class → (o : Option Action) → IsOfClass action.FinishInitialisation number o → AreAllRight trees (listed o)
  finish_right number class of None is = right_none trees
  finish_right None class of (Some x) is = absurd is
  finish_right (Some number) None of (Some x) is = absurd of
  finish_right (Some number) (Some class) of (Some x) is =
      right_more trees x [] (subst (λ (a : Action). IsRight (names_of trees) trees a) (sym is) (has_class trees number class of)) (right_none trees)

  plain_list : (l : List Action) (xs : List named.Action) → given l ≡ xs → ArePlain xs → AreAllRight trees l
  plain_list l xs h plain = plain_all_right trees l xs h plain

  found_right : AreAllRight trees (found_in before)
  found_right =
      right_both trees (listed before.found_class) (all_found before.finds) known.class_right
      (plain_list (all_found before.finds) _ (known.finds event refl) (plain_finds trees event state.world (rule_of trees state t)))

  locked_right : AreAllRight trees pieces.locked
  locked_right =
      subst (AreAllRight trees) (sym pieces.are_locked.are)
      (right_both trees (listed pieces.are_locked.lock ++ e.accesses.items) (listed pieces.are_locked.unlock)
      (right_both trees (listed pieces.are_locked.lock) e.accesses.items
      (plain_list (listed pieces.are_locked.lock) _ locks_are (plain_mapped (λ r. named.Lock r) (besides (owned t next.world) (owned t state.world)) (λ r. refl))) pieces.looked.accesses.right)
      (plain_list (listed pieces.are_locked.unlock) _ unlocks_are (plain_mapped (λ r. named.Unlock r) (besides (owned t state.world) (owned t next.world)) (λ r. refl))))

  left_right : AreAllRight trees pieces.left
  left_right =
      subst (AreAllRight trees) (sym pieces.are_left.are)
      (right_both trees (listed pieces.are_left.start ++ listed before.interrupt ++ listed pieces.are_left.clear) (listed pieces.are_left.finish)
      (right_both trees (listed pieces.are_left.start ++ listed before.interrupt) (listed pieces.are_left.clear)
      (right_both trees (listed pieces.are_left.start) (listed before.interrupt)
      (plain_list (listed pieces.are_left.start) _ starts_are (plain_mapped (λ u. named.Start u) (started state.world next.world) (λ u. refl)))
      (plain_list (listed before.interrupt) _ (known.interrupt event refl) (plain_interrupted trees event state.world (rule_of trees state t))))
      (plain_list (listed pieces.are_left.clear) _ clears_are (plain_clear t state.world next.world)))
      (finish_right before.class (class_on own) known.initialises pieces.are_left.finish pieces.are_left.finishes.0))

  all_right : AreAllRight trees (found_in before ++ pieces.locked ++ pieces.left ++ pieces.ends.told)
  all_right =
      right_both trees (found_in before ++ pieces.locked ++ pieces.left) pieces.ends.told
      (right_both trees (found_in before ++ pieces.locked) pieces.left (right_both trees (found_in before) pieces.locked found_right locked_right) left_right)
      (plain_list pieces.ends.told _ ends_are (plain_end t state.world next.world))

  pub actions_told : AreActions trees bounds.frames state event told
  actions_told = record { are = told_are ∙ actions_are; right = subst (AreAllRight trees) (sym told_is) all_right }

-- of whatever state in which it was looked at the event
pub all_told : AreClassesKept → AreThreadsAdded → DoEndsWake → DoEntriesTell → DoEntriesMeanNone → AreOwnersKept → IsStepCarried → (e : EventActions) (shared : Shared) (t : ℕ)
    (told : List Action) → ((trees : Program) (bounds : Bounds) (state : State) → HasLooked trees bounds state t e → Pieces trees bounds state e shared told t) → TellsActions e shared t told
all_told classes added wakes entries mean_none kept carried e shared t told pieces trees bounds state looked p event same cost next steps after =
    actions_told classes added wakes entries mean_none kept carried trees bounds state e p shared event cost next steps after told
    (subst (λ (n : ℕ). Pieces trees bounds state e shared told n) (sym same) (pieces trees bounds state looked))
