-- What is known of an event before it is that of the definitions.
use Rattle.std.proofs.Common.{◌≡◌, ℕ, zero, suc, List, [], ◌∷◌, length, Bool, true, false, Option, Some, None, map, refl, sym, ap, subst, ◌∙◌}
use Rattle.std.specs.Prelude.{is_some, slice_get}
use Rattle.std.specs.Option.{option_map_or}
use Rattle.std.proofs.lemmas.Option.{same_Some, none-some}
use Rattle.model.specs.declared.event.Event.{Event}
use Rattle.model.specs.declared.value.Value.{Value}
use Rattle.model.specs.Classes.{Program, Body, body_of, name_of}
use Rattle.model.specs.Names.{Name, Member}
use Rattle.model.specs.LimitStands.{Bounds}
use Rattle.model.specs.Operands.{words, word_of}
use Rattle.model.specs.State as model
use Rattle.model.specs.State.{Frame, FrameOf, StackEntryOf, StackOf, Thread, World, State, StateOf}
use Rattle.model.specs.Sites.{Site, site_at}
use Rattle.model.specs.Words.{map_entry, map_frame, map_stack, map_world, words_of}
use Rattle.model.specs.Worlds as worlds
use Rattle.heap.specs.java_threads.Statuses.{cause_of}
use Rattle.heap.specs.java_threads.Table.{thread_at}
use Rattle.linked_code.specs.declared.program.LinkedProgram.{LinkedProgram}
use Rattle.linked_code.specs.Numbers.{IsClassAt, IsClassIf, IsMethodAt}
use Rattle.thread_stacks.specs.Stacks.{ShownEntry, Invocation, Initialisation}
use Rattle.machine_state.specs.declared.state.Shared.{Shared}
use Rattle.machine_state.specs.shown_stacks.Shown.{ShowsStack, phase_of}
use Rattle.machine_state.specs.state_events.Whole.{ShowsStacks}
use Rattle.race_places.specs.declared.run_actions.Action.{Action}
use Rattle.race_places.specs.declared.run_actions.Action.TheVariants as action
use Rattle.race_places.specs.named_actions.Names.{IsRight}
use Rattle.data_races.specs.Actions.{Action as NamedAction}
use Rattle.data_races.specs.EventActions.{Rule, Begins, Does, Initialises, Relocks, Other, rule_of, needed_class, finds_of, interrupts_of}
use Rattle.monitor_laws.specs.owners.Owners.{meant_before}
use Rattle.event_laws.specs.event_changes.Changes.{class_on}
use Rattle.table_actions.specs.tables.Owners.{WasOwner}
use Rattle.table_actions.specs.tables.Told.{AreOf, all_found, listed}
use Rattle.thread_rules.specs.declared.next_rules.NextRule.{NextRule}
use Rattle.thread_rules.specs.declared.next_rules.NextRule.TheVariants as rule
use Rattle.thread_rules.specs.needed_classes.Needed.{IsToldOf, NeedsBy}
use Rattle.thread_rules.specs.next_rules.Meant.{IsAtInstruction, MeansRule, AreRulesMeant}
use Rattle.thread_rules.specs.next_rules.Rules.{IsRule}
use Rattle.hierarchy.specs.Places.{class_at}
use Rattle.field_names.specs.named_fields.Fields.{names_of}
use Rattle.next_accesses.specs.next_access.Next.{IsReached}
use Rattle.state_actions.specs.class_ends.Classes.{Shows, NamesClasses, FindsClass, IsOfClass, WasFinished}
use Rattle.state_actions.specs.meant_before.Said.{IsSaid, IsNextInstruction, MeansBefore}
use Rattle.race_actions.specs.declared.looking.EventBefore.{EventBefore}
use Rattle.race_actions.specs.declared.looking.Standing.{Standing}
use Rattle.race_actions.specs.finds.Finds.{IsCalled, TellsFinds, InterruptsNamed, TellsInterrupt}
use Rattle.race_actions.specs.looking.Known.{IsStanding, KnowsBy, InitialisesOnTop, IsFinishedIf, AreAllRight, IsSiteOf, KnowsEvent, names_given}

-- ---- lists

record MappedFrom {A B : Type 0} (f : A → B) (xs : List A) (k : ℕ) (y : B) : Type 0 where
  item : A
  at : slice_get xs k ≡ Some item
  is : f item ≡ y

mapped_from : {A B : Type 0} (f : A → B) (xs : List A) (k : ℕ) (y : B) → slice_get (map f xs) k ≡ Some y → MappedFrom f xs k y
mapped_from f [] k y e = absurd cc
mapped_from f (x ∷ xs) zero y e = record { item = x; at = refl; is = same_Some _ _ e }
mapped_from f (x ∷ xs) (suc k) y e = let h = mapped_from f xs k y e in record { item = h.item; at = h.at; is = h.is }

map_length : {A B : Type 0} (f : A → B) (xs : List A) → length (map f xs) ≡ length xs
map_length f [] = refl
map_length f (x ∷ xs) = ap suc (map_length f xs)

-- ---- the stack of a thread

pub record IsShownBy (trees : Program) (p : LinkedProgram) (stack : List ShownEntry) (stacks : List (StackOf ℕ)) (t : ℕ) : Type 0 where
  pub own : StackOf ℕ
  pub at : slice_get stacks t ≡ Some own
  pub shows : ShowsStack trees p stack own

pub shown_by : (trees : Program) (p : LinkedProgram) (shown : List (List ShownEntry)) (stacks : List (StackOf ℕ)) → ShowsStacks trees p shown stacks → (t : ℕ) (stack : List ShownEntry)
    → slice_get shown t ≡ Some stack → IsShownBy trees p stack stacks t
shown_by trees p [] stacks h t stack e = absurd cc
shown_by trees p (x ∷ xs) [] h t stack e = absurd h
shown_by trees p (x ∷ xs) (own ∷ stacks) h zero stack e =
    record { own = own; at = refl; shows = subst (λ (l : List ShownEntry). ShowsStack trees p l own) (same_Some x stack e) h.0 }
shown_by trees p (x ∷ xs) (own ∷ stacks) h (suc t) stack e =
    let s = shown_by trees p xs stacks h.1 t stack e in record { own = s.own; at = s.at; shows = s.shows }

-- and each is shown by some
pub shown_of : (trees : Program) (p : LinkedProgram) (shown : List (List ShownEntry)) (stacks : List (StackOf ℕ)) → ShowsStacks trees p shown stacks → (t : ℕ) (own : StackOf ℕ)
    → slice_get stacks t ≡ Some own → (stack : List ShownEntry) × (slice_get shown t ≡ Some stack)
shown_of trees p shown [] h t own e = absurd cc
shown_of trees p [] (x ∷ xs) h t own e = absurd h
shown_of trees p (stack ∷ shown) (x ∷ xs) h zero own e = (stack, refl)
shown_of trees p (stack ∷ shown) (x ∷ xs) h (suc t) own e = shown_of trees p shown xs h.1 t own e

shown_length : (trees : Program) (p : LinkedProgram) (stack : List ShownEntry) (own : StackOf ℕ) → ShowsStack trees p stack own → length stack ≡ length own
shown_length trees p [] [] h = refl
shown_length trees p [] (entry ∷ own) h = absurd h
shown_length trees p (shown ∷ stack) [] h = absurd h
shown_length trees p (shown ∷ stack) (entry ∷ own) h = ap suc (shown_length trees p stack own h.1)

class_shown : (trees : Program) (p : LinkedProgram) (stack : List ShownEntry) (own : StackOf Value) → ShowsStack trees p stack (map_stack word_of own)
    → (told : Option ℕ) → InitialisesOnTop stack told → IsClassIf trees told (class_on own)
class_shown trees p [] [] h told e = subst (λ o. IsClassIf trees o None) (sym e) tt
class_shown trees p [] (entry ∷ own) h told e = absurd h
class_shown trees p (shown ∷ stack) [] h told e = absurd h
class_shown trees p (Invocation frame ∷ stack) (model.Invocation one ∷ own) h told e = subst (λ o. IsClassIf trees o None) (sym e) tt
class_shown trees p (Invocation frame ∷ stack) (model.Initialisation class phase ∷ own) h told e = absurd h.0
class_shown trees p (Initialisation number at ∷ stack) (model.Invocation one ∷ own) h told e = absurd h.0
class_shown trees p (Initialisation number at ∷ stack) (model.Initialisation class phase ∷ own) h told e =
    subst (λ o. IsClassIf trees o (Some class)) (sym e) h.0.0

finished_shown : (trees : Program) (p : LinkedProgram) (bounds : Bounds) (shared : Shared) (world : World) → Shows trees p bounds shared world → (number : Option ℕ) (class : Option Name)
    → IsClassIf trees number class → (told : Bool) → IsFinishedIf shared number told → WasFinished world class told
finished_shown trees p bounds shared world shows None None of told h = tt
finished_shown trees p bounds shared world shows None (Some class) of told h = absurd of
finished_shown trees p bounds shared world shows (Some number) None of told h = absurd of
finished_shown trees p bounds shared world shows (Some number) (Some class) of told h =
    h trees p bounds (map_world word_of world) shows.program shows.represents class of

-- ---- names of classes

pub names_are : (trees : Program) → NamesClasses (names_of trees) trees
names_are trees number class at = ap (λ o. option_map_or name_of o []) at.1 ∙ at.2

pub has_class : (trees : Program) (number : ℕ) (class : Name) → IsClassAt trees number class → is_some (class_at trees number) ≡ true
has_class trees number class at = ap is_some at.1

class_right : (trees : Program) (number : Option ℕ) (class : Option Name) → IsClassIf trees number class → (told : Option Action) → IsOfClass action.FindInitialised number told
    → AreAllRight trees (listed told)
class_right trees number class of None is = record { each = λ k a e. absurd (none-some a e) }
class_right trees None class of (Some x) is = absurd is
class_right trees (Some number) None of (Some x) is = absurd of
class_right trees (Some number) (Some class) of (Some x) is = record { each = each }
  where
    right : IsRight (names_of trees) trees x
    right = subst (λ (a : Action). IsRight (names_of trees) trees a) (sym is) (has_class trees number class of)

    each : (k : ℕ) (a : Action) → slice_get (x ∷ []) k ≡ Some a → IsRight (names_of trees) trees a
    each zero a e = subst (λ (y : Action). IsRight (names_of trees) trees y) (same_Some x a e) right
    each (suc k) a e = absurd (none-some a e)

-- ---- by the rule

module _ (trees : Program) (p : LinkedProgram) (bounds : Bounds) (shared : Shared) (t : ℕ) (stack : List ShownEntry) (state : State)
    (reached : IsReached trees p bounds shared state) (standing : Standing) where
  abbrev meant : Rule
  meant = rule_of trees state t

  abbrev Means : NextRule → Type 0
  Means r = MeansRule trees p bounds reached.inflated t shared stack state r

  abbrev Knows : NextRule → Type 0
  Knows r = KnowsBy trees p shared t stack r standing

  standing_at : (at : IsAtInstruction trees p bounds reached.inflated t shared stack state) → Knows rule.Bytecode
      → IsStanding trees p bounds reached.inflated t shared stack state at standing
  standing_at at knows = knows bounds state reached at

  told_of : (r : NextRule) → Means r → Knows r → IsToldOf trees standing.class r meant
  told_of rule.NoEvent means knows = means
  told_of (rule.Pending exception) means knows = means
  told_of (rule.Relock object count why) means knows = (cause_of why, means)
  told_of rule.Begin means knows = means
  told_of (rule.Initialisation number phase) means knows = means
  told_of rule.Bytecode means knows = (means.instruction, means.is_rule, (standing_at means knows).looks)

  tables : AreOf shared.heap shared.threads state.world
  tables = record { monitors = reached.shown.represents.world_is.monitors; threads = reached.shown.represents.world_is.threads }

  module _ (event : Event) (same : event.thread ≡ t) where
    abbrev finds : List NamedAction
    finds = finds_of trees event state.world meant

    called_of : (at : IsAtInstruction trees p bounds reached.inflated t shared stack state) → Knows rule.Bytecode → IsCalled trees event.thread state.world at.instruction standing.called
    called_of at knows = subst (λ n. IsCalled trees n state.world at.instruction standing.called) (sym same) (standing_at at knows).calls

    found : (r : NextRule) → Means r → Knows r → (told : _) → TellsFinds shared t r standing.called told → names_given trees (all_found told) ≡ finds
    found rule.NoEvent means knows told tells = tells (names_of trees) trees event state.world meant same means
    found (rule.Pending exception) means knows told tells = tells (names_of trees) trees event state.world meant same means
    found (rule.Relock object count why) means knows told tells = tells (names_of trees) trees event state.world meant same means
    found rule.Begin means knows told tells = tells (names_of trees) trees event state.world meant same means
    found (rule.Initialisation number phase) means knows told tells = tells (names_of trees) trees event state.world meant same (means.0, means.2)
    found rule.Bytecode means knows told tells =
        tells (names_of trees) trees event state.world means.instruction same tables (standing_at means knows).calls ∙ ap (finds_of trees event state.world) (sym means.is_rule)

    abbrev interrupts : List NamedAction
    interrupts = interrupts_of trees event state.world meant

    none_given : (told : Option Action) → told ≡ None → (r : Rule) → meant ≡ r → interrupts_of trees event state.world r ≡ [] → names_given trees (listed told) ≡ interrupts
    none_given told e r is none = ap (λ o. names_given trees (listed o)) e ∙ sym none ∙ ap (interrupts_of trees event state.world) (sym is)

    interrupted : (r : NextRule) → Means r → Knows r → (told : Option Action) → InterruptsNamed shared standing.called told → (standing.called.is_ready ≡ false → told ≡ None)
        → names_given trees (listed told) ≡ interrupts
    interrupted rule.NoEvent means knows told tells none = none_given told (none knows) Other means refl
    interrupted (rule.Pending exception) means knows told tells none = none_given told (none knows) Other means refl
    interrupted (rule.Relock object count why) means knows told tells none = none_given told (none knows) (Relocks (cause_of why)) means refl
    interrupted rule.Begin means knows told tells none = none_given told (none knows) Begins means refl
    interrupted (rule.Initialisation number phase) means knows told tells none = none_given told (none knows) (Initialises means.0 (phase_of phase)) means.2 refl
    interrupted rule.Bytecode means knows told tells none =
        tells (names_of trees) trees event state.world means.instruction tables (called_of means knows) ∙ ap (interrupts_of trees event state.world) (sym means.is_rule)

  -- ---- the instruction that is next, and where it stands

  module _ (own : StackOf Value) (own_is : slice_get state.stacks t ≡ Some own) where
    top_is : (at : IsAtInstruction trees p bounds reached.inflated t shared stack state) → own ≡ model.Invocation at.stands.frame ∷ at.stands.rest
    top_is at = same_Some own _ (sym own_is ∙ at.stands.stack)

    first_of : (frame other : FrameOf ℕ) (rest others : StackOf ℕ) → model.Invocation frame ∷ rest ≡ model.Invocation other ∷ others → frame ≡ other
    first_of frame other rest others e = cc

    value_first : (frame other : Frame) (rest others : StackOf Value) → model.Invocation frame ∷ rest ≡ model.Invocation other ∷ others → frame ≡ other
    value_first frame other rest others e = cc

    next_of : (r : NextRule) → Means r → Knows r → r ≡ rule.Bytecode → IsNextInstruction trees (map_stack word_of own) standing.instruction
    next_of r means knows e = by (subst Means e means) (subst Knows e knows)
      where
        by : (at : IsAtInstruction trees p bounds reached.inflated t shared stack state) → Knows rule.Bytecode → IsNextInstruction trees (map_stack word_of own) standing.instruction
        by at known frame rest code site is has stands =
            let same : map_frame word_of at.stands.frame ≡ frame =
            first_of (map_frame word_of at.stands.frame) frame (map_stack word_of at.stands.rest) rest (sym (ap (map_stack word_of) (top_is at)) ∙ is) in
            let method : at.stands.frame.method ≡ frame.method = ap (λ (f : FrameOf ℕ). f.method) same in
            let offset : at.stands.frame.place.offset ≡ frame.place.offset = ap (λ (f : FrameOf ℕ). f.place.offset) same in
            let body : at.stands.body ≡ code = same_Some at.stands.body code (sym at.stands.has_body ∙ ap (body_of trees) method ∙ has) in
            let there : Some at.instruction.site ≡ Some site =
            sym at.stands.at ∙ ap (λ (m : Member). site_at m at.stands.body at.stands.frame.place.offset) method
            ∙ ap (λ (b : Body). site_at frame.method b at.stands.frame.place.offset) body ∙ ap (λ n. site_at frame.method code n) offset ∙ stands in
            (standing_at at known).instruction ∙ ap (λ (s : Site). Some s.instr) (same_Some at.instruction.site site there)

    site_of : (r : NextRule) → Means r → Knows r → IsSiteOf trees state t own standing.site
    site_of rule.NoEvent means knows instruction frame rest is top = absurd (let bad : Other ≡ Does instruction = sym means ∙ is in cc)
    site_of (rule.Pending exception) means knows instruction frame rest is top = absurd (let bad : Other ≡ Does instruction = sym means ∙ is in cc)
    site_of (rule.Relock object count why) means knows instruction frame rest is top = absurd (let bad : Relocks (cause_of why) ≡ Does instruction = sym means ∙ is in cc)
    site_of rule.Begin means knows instruction frame rest is top = absurd (let bad : Begins ≡ Does instruction = sym means ∙ is in cc)
    site_of (rule.Initialisation number phase) means knows instruction frame rest is top =
        absurd (let bad : Initialises means.0 (phase_of phase) ≡ Does instruction = sym means.2 ∙ is in cc)
    site_of rule.Bytecode means knows instruction frame rest is top =
        let s = (standing_at means knows).site in
        let same : means.stands.frame ≡ frame = value_first means.stands.frame frame means.stands.rest rest (sym (top_is means) ∙ top) in
        (subst (λ (f : Frame). IsMethodAt trees standing.site.method f.method) same s.method, s.offset ∙ ap (λ (f : Frame). f.place.offset) same)

-- ---- the whole

pub event_known : AreRulesMeant → (trees : Program) (p : LinkedProgram) (shared : Shared) (t : ℕ) (stack : List ShownEntry) (r : NextRule)
    → IsRule (thread_at shared.threads.threads t) stack r → (standing : Standing) → KnowsBy trees p shared t stack r standing
    → (needed : Option ℕ) → NeedsBy p r t standing.class needed → (told : EventBefore)
    → FindsClass shared needed told.found_class
    → TellsFinds shared t r standing.called told.finds
    → TellsInterrupt shared standing.called told.interrupt
    → MeansBefore r stack standing.instruction told.monitor.object → WasOwner t told.monitor.object shared.heap.locks.monitors told.monitor.was_owner
    → told.depth ≡ length stack → told.threads ≡ length shared.threads.threads → told.was_interrupted ≡ (thread_at shared.threads.threads t).interrupted
    → InitialisesOnTop stack told.class → IsFinishedIf shared told.class told.was_finished → told.site ≡ standing.site → KnowsEvent trees p shared t stack told
event_known rules trees p shared t stack r is standing knows needed needs told finds_class finds interrupt means_monitor was_owner depth threads interrupted_is initialises
    was_finished site there bounds state reached =
    let program = reached.program in
    let represents = reached.shown.represents in
    let shows : Shows trees p bounds shared state.world = record { program = program; represents = represents } in
    let by = shown_by trees p shared.stacks.items (words_of state).stacks reached.shown.stacks t stack there in
    let from = mapped_from (map_stack word_of) state.stacks t by.own by.at in
    let own = from.item in
    let shows_own : ShowsStack trees p stack (map_stack word_of own) = subst (ShowsStack trees p stack) (sym from.is) by.shows in
    let means : MeansRule trees p bounds reached.inflated t shared stack state r = rules trees p bounds reached.inflated shared state program reached.shown t stack there r is in
    let threads_are : shared.threads.threads ≡ state.world.threads = represents.world_is.threads in
    let class_if = needs trees program (rule_of trees state t) (told_of trees p bounds shared t stack state reached standing r means knows) in
    let on = class_shown trees p stack own shows_own told.class initialises in
    record {
      own = own;
      own_is = from.at;
      class = finds_class.1 trees p bounds state.world (names_of trees) (needed_class trees t (rule_of trees state t)) shows (names_are trees) class_if;
      class_right = class_right trees needed (needed_class trees t (rule_of trees state t)) class_if told.found_class finds_class.0;
      finds = λ event same. found trees p bounds shared t stack state reached standing event same r means knows told.finds finds;
      interrupt = λ event same. interrupted trees p bounds shared t stack state reached standing event same r means knows told.interrupt interrupt.1 interrupt.0;
      meant = λ event same.
          let by_event : IsSaid told.monitor.object (meant_before words trees event (map_world word_of state.world) (map_stack word_of own) (worlds.thread_at state.world event.thread).status) =
          means_monitor trees p event (map_world word_of state.world) (map_stack word_of own) shows_own
          (subst (λ n. IsRule (worlds.thread_at (map_world word_of state.world) n) stack r) (sym same) (subst (λ (ts : List Thread). IsRule (thread_at ts t) stack r) threads_are is))
          (next_of trees p bounds shared t stack state reached standing own from.at r means knows) in
          subst (λ n. IsSaid told.monitor.object (meant_before words trees event (map_world word_of state.world) (map_stack word_of own) (worlds.thread_at state.world n).status)) same by_event;
      was_owner = subst (λ l. WasOwner t told.monitor.object l told.monitor.was_owner) represents.world_is.monitors was_owner;
      depth = depth ∙ shown_length trees p stack (map_stack word_of own) shows_own ∙ map_length (map_entry word_of) own;
      threads = threads ∙ ap (λ (ts : List Thread). length ts) threads_are;
      interrupted = interrupted_is ∙ ap (λ (ts : List Thread). (thread_at ts t).interrupted) threads_are;
      initialises = on;
      was_finished = finished_shown trees p bounds shared state.world shows told.class (class_on own) on told.was_finished was_finished;
      site = subst (λ s. IsSiteOf trees state t own s) (sym site) (site_of trees p bounds shared t stack state reached standing own from.at r means knows);
    }
