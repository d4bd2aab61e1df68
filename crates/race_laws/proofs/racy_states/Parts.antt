-- The reads and writes among the actions of an event are its accesses.
use Rattle.std.proofs.Common.{◌≡◌, refl, sym, ◌∙◌, subst, ℕ, inl, inr, List, [], ◌∷◌, ◌++◌, map}
use Rattle.std.specs.Prelude.{Option, Some, None, Bool, true, false, if◌then◌else◌}
use Rattle.std.specs.Option.{option_map_or}
use Rattle.model.specs.declared.event.Event.{Event}
use Rattle.model.specs.Names.{Name}
use Rattle.model.specs.Classes.{Program}
use Rattle.model.specs.State.{Notified, Interrupted, World}
use Rattle.model.specs.Worlds.{is_owner, thread_at, thread_of}
use Rattle.model.specs.ClassInitialisation.{status_of}
use Rattle.model.specs.BuiltInMethods.{BuiltInMethod, ObjectWait, ThreadStart, ThreadInterrupt, ThreadIsInterrupted, ThreadInterrupted, ThreadJoin, ThreadIsAlive}
use Rattle.data_races.specs.Actions.{Action, Read, Write, Lock, Unlock, Begin, Finish, Start, Interrupt, ClearInterrupt, Wake, FinishInitialisation, FindStarted, FindFinished, FindInterrupted, FindNotInterrupted, FindWoken, FindInitialised}
use Rattle.data_races.specs.EventActions.{Rule, Begins, Does, Initialises, Relocks, Other, only_if, found_class, is_finished, needed_class, of_thread, found_own, found_alive, found_status, found_by_join, found_on, interrupts_on, is_over, is_done, built_in_at, receiver_of, finds_of, accesses_of, interrupts_of, owned, besides, started, clear_actions, finished_classes, end_actions, waiting, actions_to}
use Rattle.data_races.proofs.Decided.{In, from_map}
use Rattle.race_laws.proofs.racy_states.Upto.{to_finds, to_locks, to_accesses, to_unlocks, to_starts, to_interrupts, to_clears, to_finished}
use Rattle.race_laws.proofs.racy_states.Silent.{in_cases, in_only_if}

abbrev pub is_access : Action → Bool
is_access (Read variable) = true
is_access (Write variable) = true
is_access _ = false

-- none of the actions is a read or a write
abbrev AreOthers : List Action → Type 0
AreOthers xs = (c : Action) → In c xs → is_access c ≡ false

others_none : AreOthers []
others_none c h = absurd h

others_one : (x : Action) → is_access x ≡ false → AreOthers (x ∷ [])
others_one x e c h = elim h [ inl g ↦ subst (λ (y : Action). is_access y ≡ false) (sym g) e | inr g ↦ absurd g ]

others_both : (xs ys : List Action) → AreOthers xs → AreOthers ys → AreOthers (xs ++ ys)
others_both xs ys f g c h = elim (in_cases c xs ys h) [ inl p ↦ f c p | inr p ↦ g c p ]

others_if : (b : Bool) (xs : List Action) → AreOthers xs → AreOthers (only_if b xs)
others_if b xs f c h = f c (in_only_if c b xs h).1

others_either : (b : Bool) (xs ys : List Action) → AreOthers xs → AreOthers ys → AreOthers (if b then xs else ys)
others_either true xs ys f g = f
others_either false xs ys f g = g

others_map : {X : Type 0} (make : X → Action) (xs : List X) → ((x : X) → is_access (make x) ≡ false) → AreOthers (map make xs)
others_map make xs each c h = let g = from_map make c xs h in subst (λ (y : Action). is_access y ≡ false) g.2 (each g.0)

others_of : (o : Option ℕ) (actions : ℕ → List Action) → ((u : ℕ) → AreOthers (actions u)) → AreOthers (of_thread o actions)
others_of None actions each = others_none
others_of (Some u) actions each = each u

module _ (world : World) where
  own : (t : ℕ) → AreOthers (found_own world t)
  own t = others_if (thread_at world t).interrupted (FindInterrupted t ∷ []) (others_one (FindInterrupted t) refl)

  alive : (u : ℕ) → AreOthers (found_alive world u)
  alive u = others_either (is_over world u) (FindFinished u ∷ []) (FindStarted u ∷ []) (others_one (FindFinished u) refl) (others_one (FindStarted u) refl)

  status : (u : ℕ) → AreOthers (found_status world u)
  status u =
      others_either (thread_at world u).interrupted (FindInterrupted u ∷ []) (FindNotInterrupted u ∷ []) (others_one (FindInterrupted u) refl)
      (others_one (FindNotInterrupted u) refl)

  joined : (t u : ℕ) → AreOthers (found_by_join world t u)
  joined t u =
      others_either (is_over world u) (FindFinished u ∷ []) (found_own world t ++ FindStarted u ∷ []) (others_one (FindFinished u) refl)
      (others_both (found_own world t) (FindStarted u ∷ []) (own t) (others_one (FindStarted u) refl))

  found : (t object : ℕ) (method : BuiltInMethod) → AreOthers (found_on world t object method)
  found t object ObjectWait = others_if (is_owner world t object) (found_own world t) (own t)
  found t object ThreadStart = others_of (thread_of world object) (λ u. FindStarted u ∷ []) (λ u. others_one (FindStarted u) refl)
  found t object ThreadInterrupt = others_of (thread_of world object) (found_alive world) alive
  found t object ThreadIsInterrupted = others_of (thread_of world object) (found_status world) status
  found t object ThreadInterrupted = own t
  found t object ThreadJoin = others_of (thread_of world object) (found_by_join world t) (joined t)
  found t object ThreadIsAlive = others_of (thread_of world object) (found_alive world) alive
  found t object _ = others_none

  found_some : (t object : ℕ) (o : Option BuiltInMethod) → AreOthers (option_map_or (found_on world t object) o [])
  found_some t object None = others_none
  found_some t object (Some method) = found t object method

  class : (o : Option Name) → AreOthers (found_class world o)
  class None = others_none
  class (Some c) = others_if (is_finished (status_of world c)) (FindInitialised c ∷ []) (others_one (FindInitialised c) refl)

  finds : (files : Program) (event : Event) (rule : Rule) → AreOthers (finds_of files event world rule)
  finds files event Begins = others_one (Begin event.thread) refl
  finds files event (Does instruction) =
      others_if (is_done event.thread world instruction) _ (found_some event.thread (receiver_of instruction) (built_in_at files world instruction))
  finds files event (Initialises c phase) = others_none
  finds files event (Relocks Notified) = others_one (FindWoken event.thread) refl
  finds files event (Relocks Interrupted) = others_one (FindInterrupted event.thread) refl
  finds files event Other = others_none

  interrupts_by : (object : ℕ) (method : BuiltInMethod) → AreOthers (interrupts_on world object method)
  interrupts_by object ThreadInterrupt =
      others_of (thread_of world object) _ (λ u. others_if _ (Interrupt u ∷ []) (others_one (Interrupt u) refl))
  interrupts_by object _ = others_none

  interrupts_some : (object : ℕ) (o : Option BuiltInMethod) → AreOthers (option_map_or (interrupts_on world object) o [])
  interrupts_some object None = others_none
  interrupts_some object (Some method) = interrupts_by object method

  interrupts : (files : Program) (event : Event) (rule : Rule) → AreOthers (interrupts_of files event world rule)
  interrupts files event Begins = others_none
  interrupts files event (Does instruction) =
      others_if (is_done event.thread world instruction) _ (interrupts_some (receiver_of instruction) (built_in_at files world instruction))
  interrupts files event (Initialises c phase) = others_none
  interrupts files event (Relocks cause) = others_none
  interrupts files event Other = others_none

module _ (files : Program) (event : Event) (old new : World) (rule : Rule) (a : Action) (access : is_access a ≡ true) where
  not_other : (xs : List Action) → AreOthers xs → In a xs → ⊥
  not_other xs f h = let g : true ≡ false = sym access ∙ f a h in cc

  pub access_part : In a (actions_to files event old rule new) → In a (accesses_of files event old rule)
  access_part h =
      elim (in_cases a (to_finished files event old rule new) (end_actions event.thread old new) h) [
        | inr g ↦ absurd (not_other (end_actions event.thread old new) (others_if (is_over new event.thread) _ (others_both (map Wake (besides (waiting old) (waiting new))) (Finish event.thread ∷ []) (others_map (λ n. Wake n) (besides (waiting old) (waiting new)) (λ n. refl)) (others_one (Finish event.thread) refl))) g)
        | inl h9 ↦ elim (in_cases a (to_clears files event old rule new) (map FinishInitialisation (finished_classes old new)) h9) [
          | inr g ↦ absurd (not_other (map FinishInitialisation (finished_classes old new)) (others_map (λ c. FinishInitialisation c) (finished_classes old new) (λ c. refl)) g)
          | inl h8 ↦ elim (in_cases a (to_interrupts files event old rule new) (clear_actions event.thread old new) h8) [
            | inr g ↦ absurd (not_other (clear_actions event.thread old new) (others_if _ (ClearInterrupt event.thread ∷ []) (others_one (ClearInterrupt event.thread) refl)) g)
            | inl h7 ↦ elim (in_cases a (to_starts files event old rule new) (interrupts_of files event old rule) h7) [
              | inr g ↦ absurd (not_other (interrupts_of files event old rule) (interrupts old files event rule) g)
              | inl h6 ↦ elim (in_cases a (to_unlocks files event old rule new) (map Start (started old new)) h6) [
                | inr g ↦ absurd (not_other (map Start (started old new)) (others_map (λ n. Start n) (started old new) (λ n. refl)) g)
                | inl h5 ↦ elim (in_cases a (to_accesses files event old rule new) (map Unlock (besides (owned event.thread old) (owned event.thread new))) h5) [
                  | inr g ↦ absurd (not_other (map Unlock (besides (owned event.thread old) (owned event.thread new))) (others_map (λ n. Unlock n) (besides (owned event.thread old) (owned event.thread new)) (λ n. refl)) g)
                  | inl h4 ↦ elim (in_cases a (to_locks files event old rule new) (accesses_of files event old rule) h4) [
                    | inr g ↦ g
                    | inl h3 ↦ elim (in_cases a (to_finds files event old rule new) (map Lock (besides (owned event.thread new) (owned event.thread old))) h3) [
                      | inr g ↦ absurd (not_other (map Lock (besides (owned event.thread new) (owned event.thread old))) (others_map (λ n. Lock n) (besides (owned event.thread new) (owned event.thread old)) (λ n. refl)) g)
                      | inl h2 ↦ elim (in_cases a (found_class old (needed_class files event.thread rule)) (finds_of files event old rule) h2) [
                        | inl g ↦ absurd (not_other (found_class old (needed_class files event.thread rule)) (class old (needed_class files event.thread rule)) g)
                        | inr g ↦ absurd (not_other (finds_of files event old rule) (finds old files event rule) g)
                      ]
                    ]
                  ]
                ]
              ]
            ]
          ]
        ]
      ]
