-- An access stands where the instruction of its event stands.
use Rattle.std.proofs.Common.{◌≡◌, ℕ, zero, suc, ◌<◌, List, [], ◌∷◌, ◌++◌, Bool, true, false, Option, Some, None, map, refl, sym, ap, subst, ◌∙◌}
use Rattle.std.specs.Prelude.{slice_get, ◌&&◌}
use Rattle.std.specs.Option.{option_map_or}
use Rattle.std.specs.List.{list_all}
use Rattle.std.proofs.lemmas.Bool.{false≢true, and_parts}
use Rattle.std.proofs.lemmas.Option.{same_Some, none-some}
use Rattle.model.specs.declared.event.Event.{Event}
use Rattle.model.specs.ClassInitialisation.{status_of}
use Rattle.model.specs.Names.{Name}
use Rattle.model.specs.Classes.{Program}
use Rattle.model.specs.State as model
use Rattle.model.specs.State.{StackOf, World, State}
use Rattle.model.specs.Step.{step}
use Rattle.data_races.specs.Actions as named
use Rattle.data_races.specs.EventActions.{Instruction, Rule, Begins, Does, Initialises, Relocks, Other, rule_of, needed_class, found_class, is_finished, only_if, finds_of, accesses_of, interrupts_of, clear_actions, end_actions, besides, owned, started, finished_classes, actions_to}
use Rattle.race_laws.proofs.racy_states.Stepping.{is_at}
use Rattle.race_places.specs.declared.run_actions.Variable.{Variable}
use Rattle.race_places.specs.declared.run_actions.Action.{Action}
use Rattle.race_places.specs.declared.run_actions.Action.TheVariants as action
use Rattle.race_places.specs.named_actions.Names.{named_action}
use Rattle.field_names.specs.named_fields.Fields.{names_of}
use Rattle.race_actions.specs.declared.looking.EventBefore.{EventBefore}
use Rattle.race_actions.specs.looking.Known.{IsKnown, names_given}
use Rattle.race_actions.specs.event_actions.Told.{AreActions}
use Rattle.race_actions.proofs.event_actions.Right.{is_plain, ArePlain, plain_finds, plain_interrupted, plain_clear, plain_end}
use Rattle.run_races.specs.declared.told_races.RaceAccess.{RaceAccess}
use Rattle.run_races.specs.labels.Labels.{label_of, access_of}
use Rattle.run_races.specs.race_finder.Found.{accessed}
use Rattle.run_races.specs.named_races.Named.{StandsAt, AreOfEvent}
use Rattle.run_races.proofs.labels.Reading.{read_back}
use Rattle.race_runs.specs.finder.Events.{label_at}

-- ---- actions that are no accesses

abbrev pub is_silent : named.Action → Bool
is_silent (named.Read variable) = false
is_silent (named.Write variable) = false
is_silent _ = true

abbrev pub AreSilent : List named.Action → Type 0
AreSilent xs = list_all is_silent xs ≡ true

both_silent : (xs ys : List named.Action) → AreSilent xs → AreSilent ys → AreSilent (xs ++ ys)
both_silent [] ys h g = g
both_silent (x ∷ xs) ys h g =
    let parts = and_parts (is_silent x) (list_all is_silent xs) h in
    ap (λ b. b && list_all is_silent (xs ++ ys)) parts.0 ∙ both_silent xs ys parts.1 g

mapped_silent : {A : Type 0} (f : A → named.Action) (xs : List A) → ((x : A) → is_silent (f x) ≡ true) → AreSilent (map f xs)
mapped_silent f [] h = refl
mapped_silent f (x ∷ xs) h = ap (λ b. b && list_all is_silent (map f xs)) (h x) ∙ mapped_silent f xs h

plain_silent : (a : named.Action) → is_plain a ≡ true → is_silent a ≡ true
plain_silent (named.Read variable) e = absurd (false≢true e)
plain_silent (named.Write variable) e = absurd (false≢true e)
plain_silent _ e = refl

all_silent : (xs : List named.Action) → ArePlain xs → AreSilent xs
all_silent [] h = refl
all_silent (x ∷ xs) h =
    let parts = and_parts (is_plain x) (list_all is_plain xs) h in
    ap (λ b. b && list_all is_silent xs) (plain_silent x parts.0) ∙ all_silent xs parts.1

class_silent : (world : World) (o : Option Name) → AreSilent (found_class world o)
class_silent world None = refl
class_silent world (Some class) = by (is_finished (status_of world class))
  where
    by : (b : Bool) → AreSilent (only_if b (named.FindInitialised class ∷ []))
    by true = refl
    by false = refl

abbrev pub Runs : Rule → Type 0
Runs rule = (instruction : Instruction) × (rule ≡ Does instruction)

-- an event whose thread runs no instruction accesses nothing
accesses_silent : (files : Program) (event : Event) (old : World) (rule : Rule) → (Runs rule → ⊥) → AreSilent (accesses_of files event old rule)
accesses_silent files event old (Does instruction) h = absurd (h (instruction, refl))
accesses_silent files event old _ h = refl

module _ (files : Program) (event : Event) (old new : World) (rule : Rule) where
  abbrev found : List named.Action
  found = found_class old (needed_class files event.thread rule)

  abbrev finds : List named.Action
  finds = finds_of files event old rule

  abbrev locks : List named.Action
  locks = map (λ r. named.Lock r) (besides (owned event.thread new) (owned event.thread old))

  abbrev accesses : List named.Action
  accesses = accesses_of files event old rule

  abbrev unlocks : List named.Action
  unlocks = map (λ r. named.Unlock r) (besides (owned event.thread old) (owned event.thread new))

  abbrev starts : List named.Action
  starts = map (λ u. named.Start u) (started old new)

  abbrev interrupts : List named.Action
  interrupts = interrupts_of files event old rule

  abbrev clears : List named.Action
  clears = clear_actions event.thread old new

  abbrev finishes : List named.Action
  finishes = map (λ n. named.FinishInitialisation n) (finished_classes old new)

  abbrev ends : List named.Action
  ends = end_actions event.thread old new

  abbrev to_accesses : List named.Action
  to_accesses = found ++ finds ++ locks ++ accesses

  accessed_silent : (Runs rule → ⊥) → AreSilent to_accesses
  accessed_silent h =
      both_silent (found ++ finds ++ locks) accesses
      (both_silent (found ++ finds) locks (both_silent found finds (class_silent old (needed_class files event.thread rule)) (all_silent finds (plain_finds files event old rule)))
      (mapped_silent (λ r. named.Lock r) (besides (owned event.thread new) (owned event.thread old)) (λ r. refl)))
      (accesses_silent files event old rule h)

  abbrev to_interrupts : List named.Action
  to_interrupts = to_accesses ++ unlocks ++ starts ++ interrupts

  interrupted_silent : (Runs rule → ⊥) → AreSilent to_interrupts
  interrupted_silent h =
      both_silent (to_accesses ++ unlocks ++ starts) interrupts
      (both_silent (to_accesses ++ unlocks) starts
      (both_silent to_accesses unlocks (accessed_silent h) (mapped_silent (λ r. named.Unlock r) (besides (owned event.thread old) (owned event.thread new)) (λ r. refl)))
      (mapped_silent (λ u. named.Start u) (started old new) (λ u. refl)))
      (all_silent interrupts (plain_interrupted files event old rule))

  pub event_silent : (Runs rule → ⊥) → AreSilent (actions_to files event old rule new)
  event_silent h =
      both_silent (to_interrupts ++ clears ++ finishes) ends
      (both_silent (to_interrupts ++ clears) finishes (both_silent to_interrupts clears (interrupted_silent h) (all_silent clears (plain_clear event.thread old new)))
      (mapped_silent (λ n. named.FinishInitialisation n) (finished_classes old new) (λ n. refl)))
      (all_silent ends (plain_end event.thread old new))

-- so no access is among them
no_access : (trees : Program) (told : List Action) → AreSilent (names_given trees told) → (k : ℕ) (a : Action) → slice_get told k ≡ Some a
    → (variable : Variable) (writes : Bool) → accessed a ≡ Some (variable, writes) → ⊥
no_access trees [] h k a e variable writes acc = none-some a e
no_access trees (x ∷ told) h zero a e variable writes acc =
    let parts = and_parts (is_silent (named_action (names_of trees) x)) (list_all is_silent (names_given trees told)) h in
    loud a (subst (λ (y : Action). is_silent (named_action (names_of trees) y) ≡ true) (same_Some x a e) parts.0) acc
  where
    loud : (y : Action) → is_silent (named_action (names_of trees) y) ≡ true → accessed y ≡ Some (variable, writes) → ⊥
    loud (action.Read v volatile) s g = false≢true s
    loud (action.Write v volatile) s g = false≢true s
    loud _ s g = none-some (variable, writes) g
no_access trees (x ∷ told) h (suc k) a e variable writes acc =
    let parts = and_parts (is_silent (named_action (names_of trees) x)) (list_all is_silent (names_given trees told)) h in
    no_access trees told parts.1 k a e variable writes acc

-- ---- where it stands

module _ (trees : Program) (frames : ℕ) (state : State) (event : Event) (next : State) (steps : step trees frames state event ≡ Some next) (before : EventBefore)
    (known : IsKnown trees frames state event.thread before) (short : before.site.offset < 65536) (told : List Action) (are : AreActions trees frames state event told) where
  abbrev t : ℕ
  t = event.thread

  abbrev rule : Rule
  rule = rule_of trees state t

  actions_are : names_given trees told ≡ actions_to trees event state.world rule next.world
  actions_are = are.are ∙ ap (λ (o : Option State). option_map_or (λ (n : State). actions_to trees event state.world rule n.world) o []) steps

  stands : (instruction : Instruction) → rule ≡ Does instruction → StandsAt trees state t before.site.method before.site.offset
  stands instruction does =
      let at = is_at trees state t instruction does in
      let own_is : known.own ≡ model.Invocation at.frame ∷ at.rest = same_Some known.own (model.Invocation at.frame ∷ at.rest) (sym known.own_is ∙ at.stack) in
      let site = known.site instruction at.frame at.rest does own_is in
      record { frame = at.frame; rest = at.rest; stack = at.stack; numbered = site.0; offset_is = site.1 }

  abbrev Labelled : Action → Bool → Type 0
  Labelled a writes =
      let access = access_of t (label_at (Some before.site) a) in
      (access.is_write ≡ writes) × StandsAt trees state t access.method access.offset

  none : (k : ℕ) (a : Action) → slice_get told k ≡ Some a → (variable : Variable) (writes : Bool) → accessed a ≡ Some (variable, writes) → (Runs rule → ⊥) → ⊥
  none k a at variable writes acc h =
      no_access trees told (ap (list_all is_silent) actions_are ∙ event_silent trees event state.world next.world rule h) k a at variable writes acc

  labelled_by : (r : Rule) → rule ≡ r → (k : ℕ) (a : Action) → slice_get told k ≡ Some a → (variable : Variable) (writes : Bool) → accessed a ≡ Some (variable, writes)
      → StandsAt trees state t before.site.method before.site.offset
  labelled_by (Does instruction) e k a at variable writes acc = stands instruction e
  labelled_by Begins e k a at variable writes acc = absurd (none k a at variable writes acc (λ r. let f : Begins ≡ Does r.0 = sym e ∙ r.1 in cc))
  labelled_by (Initialises class phase) e k a at variable writes acc = absurd (none k a at variable writes acc (λ r. let f : Initialises class phase ≡ Does r.0 = sym e ∙ r.1 in cc))
  labelled_by (Relocks cause) e k a at variable writes acc = absurd (none k a at variable writes acc (λ r. let f : Relocks cause ≡ Does r.0 = sym e ∙ r.1 in cc))
  labelled_by Other e k a at variable writes acc = absurd (none k a at variable writes acc (λ r. let f : Other ≡ Does r.0 = sym e ∙ r.1 in cc))

  labelled : (k : ℕ) (a : Action) → slice_get told k ≡ Some a → (variable : Variable) (writes : Bool) → accessed a ≡ Some (variable, writes) → Labelled a writes
  labelled k a at variable writes acc =
      let label_is : label_at (Some before.site) a ≡ label_of before.site.method before.site.offset writes =
      ap (λ (o : Option (Variable × Bool)). option_map_or (λ (x : Variable × Bool). label_of before.site.method before.site.offset x.1) o 0) acc in
      let access_is : access_of t (label_at (Some before.site) a) ≡ record { thread = t; is_write = writes; method = before.site.method; offset = before.site.offset } =
      ap (access_of t) label_is ∙ read_back t before.site.method before.site.offset writes short in (
        ap (λ (x : RaceAccess). x.is_write) access_is,
        subst (λ (x : RaceAccess). StandsAt trees state t x.method x.offset) (sym access_is) (labelled_by rule refl k a at variable writes acc),
      )

  pub of_event : AreOfEvent trees frames state event (label_at (Some before.site)) told
  of_event = record { are = are.are; right = are.right.each; labelled = labelled }
