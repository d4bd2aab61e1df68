-- What is told of threads is what the event finds.
use Rattle.std.proofs.Common.{◌≡◌, ℕ, List, [], ◌∷◌, ◌++◌, Bool, true, false, Option, Some, None, map, refl, sym, ap, subst, ◌∙◌}
use Rattle.std.specs.Option.{option_and_then, option_map_or}
use Rattle.std.proofs.lemmas.Option.{same_Some, none-some}
use Rattle.model.specs.declared.event.Event.{Event}
use Rattle.model.specs.Classes.{Program}
use Rattle.model.specs.Operands.{word_of}
use Rattle.model.specs.State.{World, Notified, Interrupted}
use Rattle.model.specs.BuiltInMethods.{BuiltInMethod, ObjectWait, ThreadStart, ThreadInterrupt, ThreadIsInterrupted, ThreadInterrupted, ThreadJoin, ThreadIsAlive}
use Rattle.model.specs.Words.{map_world}
use Rattle.heap.specs.declared.java_threads.status.WakeCause.{WakeCause as LinkedCause}
use Rattle.heap.specs.declared.java_threads.status.WakeCause.TheVariants as cause
use Rattle.machine_state.specs.declared.state.Shared.{Shared}
use Rattle.machine_state.specs.declared.class_initialisation.statuses.ClassLook.{ClassLook}
use Rattle.machine_state.specs.class_initialisation.Statuses.{IsLook, shown_look}
use Rattle.thread_stacks.specs.declared.entry.Phase.{Phase}
use Rattle.machine_state.specs.shown_stacks.Shown.{phase_of}
use Rattle.race_places.specs.declared.run_actions.Action.{Action}
use Rattle.race_places.specs.declared.run_actions.Action.TheVariants as action
use Rattle.race_places.specs.named_actions.Names.{Names, named_action}
use Rattle.data_races.specs.Actions as named
use Rattle.data_races.specs.Actions.{Action as NamedAction}
use Rattle.data_races.specs.EventActions.{Instruction, Rule, Begins, Initialises, Relocks, Other, only_if, is_ready, is_done, built_in_at, receiver_of, found_on, interrupts_on, finds_of}
use Rattle.table_actions.specs.tables.Told.{Tells, listed, all_found}
use Rattle.table_actions.specs.declared.findings.Findings.{Findings}
use Rattle.thread_rules.specs.declared.next_rules.NextRule.{NextRule}
use Rattle.thread_rules.specs.declared.next_rules.NextRule.TheVariants as rule
use Rattle.thread_calls.specs.declared.thread_methods.ThreadMethod.{ThreadMethod}
use Rattle.thread_calls.specs.declared.thread_methods.ThreadMethod.TheVariants as method
use Rattle.thread_calls.specs.thread_methods.Called.{as_thread_method, is_on_receiver}
use Rattle.race_actions.specs.declared.finds.Called.{Called}
use Rattle.race_actions.specs.finds.Finds.{built_in_method, IsReadyFor, IsCalled, FindsByRule, FindsByCall, TellsFinds, InterruptsNamed}

-- ---- classes

pub class_ready : (shared : Shared) (t number : ℕ) (found : ClassLook) → IsLook shared t number found → (told : Bool) → told ≡ is_ready (shown_look found)
    → IsReadyFor shared t (Some number) told
class_ready shared t number found looks told is trees p bounds world None shows of = absurd of
class_ready shared t number found looks told is trees p bounds world (Some class) shows of =
    is ∙ ap is_ready (looks trees p bounds (map_world word_of world) shows.program shows.represents class of)

pub none_ready : (shared : Shared) (t : ℕ) → IsReadyFor shared t None true
none_ready shared t trees p bounds world None shows of = refl
none_ready shared t trees p bounds world (Some class) shows of = absurd of

-- ---- what is found of an object on which a method is called

-- the built-in method that is told of
told_is : (b : BuiltInMethod) (m : ThreadMethod) → as_thread_method b ≡ Some m → b ≡ built_in_method m
told_is ObjectWait m e = ap built_in_method (same_Some method.Wait m e)
told_is ThreadStart m e = ap built_in_method (same_Some method.Start m e)
told_is ThreadInterrupt m e = ap built_in_method (same_Some method.Interrupt m e)
told_is ThreadIsInterrupted m e = ap built_in_method (same_Some method.IsInterrupted m e)
told_is ThreadInterrupted m e = ap built_in_method (same_Some method.Interrupted m e)
told_is ThreadJoin m e = ap built_in_method (same_Some method.Join m e)
told_is ThreadIsAlive m e = ap built_in_method (same_Some method.IsAlive m e)
told_is _ m e = absurd (none-some m e)

-- any other one finds nothing, and interrupts nobody
found_none : (world : World) (t r : ℕ) (b : BuiltInMethod) → as_thread_method b ≡ None → found_on world t r b ≡ []
found_none world t r ObjectWait e = absurd (none-some method.Wait (sym e))
found_none world t r ThreadStart e = absurd (none-some method.Start (sym e))
found_none world t r ThreadInterrupt e = absurd (none-some method.Interrupt (sym e))
found_none world t r ThreadIsInterrupted e = absurd (none-some method.IsInterrupted (sym e))
found_none world t r ThreadInterrupted e = absurd (none-some method.Interrupted (sym e))
found_none world t r ThreadJoin e = absurd (none-some method.Join (sym e))
found_none world t r ThreadIsAlive e = absurd (none-some method.IsAlive (sym e))
found_none world t r _ e = refl

interrupts_none : (world : World) (r : ℕ) (b : BuiltInMethod) → as_thread_method b ≡ None → interrupts_on world r b ≡ []
interrupts_none world r ThreadInterrupt e = absurd (none-some method.Interrupt (sym e))
interrupts_none world r _ e = refl

-- by the object
found_there : (world : World) (t a b : ℕ) (m : ThreadMethod) → (is_on_receiver m ≡ true → b ≡ a) → found_on world t a (built_in_method m) ≡ found_on world t b (built_in_method m)
found_there world t a b method.Interrupted same = refl
found_there world t a b method.Wait same = ap (λ n. found_on world t n ObjectWait) (sym (same refl))
found_there world t a b method.Start same = ap (λ n. found_on world t n ThreadStart) (sym (same refl))
found_there world t a b method.Interrupt same = ap (λ n. found_on world t n ThreadInterrupt) (sym (same refl))
found_there world t a b method.IsInterrupted same = ap (λ n. found_on world t n ThreadIsInterrupted) (sym (same refl))
found_there world t a b method.Join same = ap (λ n. found_on world t n ThreadJoin) (sym (same refl))
found_there world t a b method.IsAlive same = ap (λ n. found_on world t n ThreadIsAlive) (sym (same refl))

interrupts_there : (world : World) (a b : ℕ) (m : ThreadMethod) → (is_on_receiver m ≡ true → b ≡ a) → interrupts_on world a (built_in_method m) ≡ interrupts_on world b (built_in_method m)
interrupts_there world a b method.Interrupt same = ap (λ n. interrupts_on world n ThreadInterrupt) (sym (same refl))
interrupts_there world a b method.Interrupted same = refl
interrupts_there world a b method.Wait same = refl
interrupts_there world a b method.Start same = refl
interrupts_there world a b method.IsInterrupted same = refl
interrupts_there world a b method.Join same = refl
interrupts_there world a b method.IsAlive same = refl

module _ (files : Program) (t : ℕ) (world : World) (instruction : Instruction) (called : Called) (is : IsCalled files t world instruction called) where
  module _ (m : ThreadMethod) (runs : called.method ≡ Some m) where
    runs_by : (o : Option BuiltInMethod) → option_and_then as_thread_method o ≡ Some m → o ≡ Some (built_in_method m)
    runs_by None e = absurd (none-some m e)
    runs_by (Some b) e = ap (λ x. Some x) (told_is b m e)

    runs_so : built_in_at files world instruction ≡ Some (built_in_method m)
    runs_so = runs_by (built_in_at files world instruction) (sym is.method ∙ runs)

    finds_on : found_on world t called.object (built_in_method m) ≡ option_map_or (found_on world t (receiver_of instruction)) (built_in_at files world instruction) []
    finds_on =
        found_there world t called.object (receiver_of instruction) m (is.object m runs)
        ∙ sym (ap (λ o. option_map_or (found_on world t (receiver_of instruction)) o []) runs_so)

    interrupts_so : interrupts_on world called.object (built_in_method m) ≡ option_map_or (interrupts_on world (receiver_of instruction)) (built_in_at files world instruction) []
    interrupts_so =
        interrupts_there world called.object (receiver_of instruction) m (is.object m runs)
        ∙ sym (ap (λ o. option_map_or (interrupts_on world (receiver_of instruction)) o []) runs_so)

  module _ (none : called.method ≡ None) where
    finds_by : (o : Option BuiltInMethod) → option_and_then as_thread_method o ≡ None → option_map_or (found_on world t (receiver_of instruction)) o [] ≡ []
    finds_by None e = refl
    finds_by (Some b) e = found_none world t (receiver_of instruction) b e

    finds_nothing : option_map_or (found_on world t (receiver_of instruction)) (built_in_at files world instruction) [] ≡ []
    finds_nothing = finds_by (built_in_at files world instruction) (sym is.method ∙ none)

    interrupts_by : (o : Option BuiltInMethod) → option_and_then as_thread_method o ≡ None → option_map_or (interrupts_on world (receiver_of instruction)) o [] ≡ []
    interrupts_by None e = refl
    interrupts_by (Some b) e = interrupts_none world (receiver_of instruction) b e

    interrupts_nobody : option_map_or (interrupts_on world (receiver_of instruction)) (built_in_at files world instruction) [] ≡ []
    interrupts_nobody = interrupts_by (built_in_at files world instruction) (sym is.method ∙ none)

  done_is : (b : Bool) → called.is_ready ≡ b → is_done t world instruction ≡ b
  done_is b e = sym is.ready ∙ e

-- ---- by a call

pub call_unready : (shared : Shared) (t : ℕ) (called : Called) → called.is_ready ≡ false → FindsByCall shared t called (record { own = None; other = None })
call_unready shared t called e names files event world instruction at of is =
    sym (ap (λ n. only_if (is_done n world instruction) (option_map_or (found_on world n (receiver_of instruction)) (built_in_at files world instruction) [])) at
    ∙ ap (λ b. only_if b (option_map_or (found_on world t (receiver_of instruction)) (built_in_at files world instruction) [])) (done_is files t world instruction called is false e))

pub call_none : (shared : Shared) (t : ℕ) (called : Called) → called.is_ready ≡ true → called.method ≡ None → FindsByCall shared t called (record { own = None; other = None })
call_none shared t called e none names files event world instruction at of is =
    sym (ap (λ n. only_if (is_done n world instruction) (option_map_or (found_on world n (receiver_of instruction)) (built_in_at files world instruction) [])) at
    ∙ ap (λ b. only_if b (option_map_or (found_on world t (receiver_of instruction)) (built_in_at files world instruction) [])) (done_is files t world instruction called is true e)
    ∙ finds_nothing files t world instruction called is none)

pub call_told : (shared : Shared) (t : ℕ) (called : Called) → called.is_ready ≡ true → (m : ThreadMethod) → called.method ≡ Some m → (told : Findings)
    → Tells shared.heap shared.threads (all_found told) (λ world. found_on world t called.object (built_in_method m)) → FindsByCall shared t called told
call_told shared t called e m runs told tells names files event world instruction at of is =
    tells names world of
    ∙ finds_on files t world instruction called is m runs
    ∙ sym (ap (λ n. only_if (is_done n world instruction) (option_map_or (found_on world n (receiver_of instruction)) (built_in_at files world instruction) [])) at
    ∙ ap (λ b. only_if b (option_map_or (found_on world t (receiver_of instruction)) (built_in_at files world instruction) [])) (done_is files t world instruction called is true e))

-- ---- whom it interrupts

pub interrupt_unready : (shared : Shared) (called : Called) → called.is_ready ≡ false → InterruptsNamed shared called None
interrupt_unready shared called e names files event world instruction of is =
    sym (ap (λ b. only_if b (option_map_or (interrupts_on world (receiver_of instruction)) (built_in_at files world instruction) [])) (done_is files event.thread world instruction called is false e))

pub interrupt_none : (shared : Shared) (called : Called) → called.is_ready ≡ true → called.method ≡ None → InterruptsNamed shared called None
interrupt_none shared called e none names files event world instruction of is =
    sym (ap (λ b. only_if b (option_map_or (interrupts_on world (receiver_of instruction)) (built_in_at files world instruction) [])) (done_is files event.thread world instruction called is true e)
    ∙ interrupts_nobody files event.thread world instruction called is none)

pub interrupt_told : (shared : Shared) (called : Called) → called.is_ready ≡ true → (m : ThreadMethod) → called.method ≡ Some m → (told : Option Action)
    → Tells shared.heap shared.threads (listed told) (λ world. interrupts_on world called.object (built_in_method m)) → InterruptsNamed shared called told
interrupt_told shared called e m runs told tells names files event world instruction of is =
    tells names world of
    ∙ interrupts_so files event.thread world instruction called is m runs
    ∙ sym (ap (λ b. only_if b (option_map_or (interrupts_on world (receiver_of instruction)) (built_in_at files world instruction) [])) (done_is files event.thread world instruction called is true e))

-- ---- by the rule

append_none : {A : Type 0} (xs : List A) → xs ++ [] ≡ xs
append_none [] = refl
append_none (x ∷ xs) = ap (λ l. x ∷ l) (append_none xs)

module _ (names : Names) (files : Program) (event : Event) (world : World) (t : ℕ) (at : event.thread ≡ t) where
  as_meant : (meant is : Rule) (told : List NamedAction) → meant ≡ is → told ≡ finds_of files event world is → told ≡ finds_of files event world meant
  as_meant meant is told e h = h ∙ ap (finds_of files event world) (sym e)

module _ (r : NextRule) (t : ℕ) where
  pub begin_finds : r ≡ rule.Begin → FindsByRule r t (Some (action.Begin t))
  begin_finds e =
      subst (λ (x : NextRule). FindsByRule x t (Some (action.Begin t))) (sym e)
      (λ names files event world meant at is. as_meant names files event world t at meant Begins _ is (ap (λ n. named.Begin n ∷ []) (sym at)))

  pub notified_finds : (object count : ℕ) (why : LinkedCause) → r ≡ rule.Relock object count why → why ≡ cause.Notified → FindsByRule r t (Some (action.FindWoken t))
  notified_finds object count why e w =
      subst (λ (x : NextRule). FindsByRule x t (Some (action.FindWoken t))) (sym (e ∙ ap (rule.Relock object count) w))
      (λ names files event world meant at is. as_meant names files event world t at meant (Relocks Notified) _ is (ap (λ n. named.FindWoken n ∷ []) (sym at)))

  pub interrupted_finds : (object count : ℕ) (why : LinkedCause) → r ≡ rule.Relock object count why → why ≡ cause.Interrupted → FindsByRule r t (Some (action.FindInterrupted t))
  interrupted_finds object count why e w =
      subst (λ (x : NextRule). FindsByRule x t (Some (action.FindInterrupted t))) (sym (e ∙ ap (rule.Relock object count) w))
      (λ names files event world meant at is. as_meant names files event world t at meant (Relocks Interrupted) _ is (ap (λ n. named.FindInterrupted n ∷ []) (sym at)))

  pub no_event_finds : r ≡ rule.NoEvent → FindsByRule r t None
  no_event_finds e =
      subst (λ (x : NextRule). FindsByRule x t None) (sym e) (λ names files event world meant at is. as_meant names files event world t at meant Other _ is refl)

  pub pending_finds : (exception : ℕ) → r ≡ rule.Pending exception → FindsByRule r t None
  pending_finds exception e =
      subst (λ (x : NextRule). FindsByRule x t None) (sym e) (λ names files event world meant at is. as_meant names files event world t at meant Other _ is refl)

  pub initialisation_finds : (number : ℕ) (phase : Phase) → r ≡ rule.Initialisation number phase → FindsByRule r t None
  initialisation_finds number phase e =
      subst (λ (x : NextRule). FindsByRule x t None) (sym e)
      (λ names files event world meant at is. as_meant names files event world t at meant (Initialises is.0 (phase_of phase)) _ is.1 refl)

  pub instruction_finds : r ≡ rule.Bytecode → FindsByRule r t None
  instruction_finds e = subst (λ (x : NextRule). FindsByRule x t None) (sym e) refl

-- ---- the whole

pub told_by_call : (shared : Shared) (t : ℕ) (r : NextRule) (called : Called) (told : Findings) → r ≡ rule.Bytecode → FindsByCall shared t called told
    → TellsFinds shared t r called told
told_by_call shared t r called told e h = subst (λ (x : NextRule). TellsFinds shared t x called told) (sym e) h

pub told_by_rule : (shared : Shared) (t : ℕ) (r : NextRule) (called : Called) (own : Option Action) → (r ≡ rule.Bytecode → ⊥) → FindsByRule r t own
    → TellsFinds shared t r called (record { own = own; other = None })
told_by_rule shared t rule.Bytecode called own n h = absurd (n refl)
told_by_rule shared t rule.NoEvent called own n h = λ names files event world meant at is. ap (map (named_action names)) (append_none (listed own)) ∙ h names files event world meant at is
told_by_rule shared t rule.Begin called own n h = λ names files event world meant at is. ap (map (named_action names)) (append_none (listed own)) ∙ h names files event world meant at is
told_by_rule shared t (rule.Pending exception) called own n h = λ names files event world meant at is. ap (map (named_action names)) (append_none (listed own)) ∙ h names files event world meant at is
told_by_rule shared t (rule.Relock object count why) called own n h = λ names files event world meant at is. ap (map (named_action names)) (append_none (listed own)) ∙ h names files event world meant at is
told_by_rule shared t (rule.Initialisation number phase) called own n h = λ names files event world meant at is. ap (map (named_action names)) (append_none (listed own)) ∙ h names files event world meant at is
