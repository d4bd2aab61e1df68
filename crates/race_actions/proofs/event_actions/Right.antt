-- Actions that name no class and no field are right.
use Rattle.std.proofs.Common.{◌≡◌, ℕ, zero, suc, List, [], ◌∷◌, ◌++◌, Bool, true, false, Option, Some, None, map, refl, ap, subst, ◌∙◌}
use Rattle.std.specs.Prelude.{slice_get, not, ◌&&◌, if◌then◌else◌}
use Rattle.std.specs.Option.{option_map_or, option_to_list}
use Rattle.std.specs.List.{list_all}
use Rattle.std.proofs.lemmas.Bool.{false≢true, and_parts}
use Rattle.std.proofs.lemmas.Option.{same_Some, none-some}
use Rattle.model.specs.declared.event.Event.{Event}
use Rattle.model.specs.Classes.{Program}
use Rattle.model.specs.BuiltInMethods.{BuiltInMethod, ObjectWait, ThreadStart, ThreadInterrupt, ThreadIsInterrupted, ThreadInterrupted, ThreadJoin, ThreadIsAlive}
use Rattle.model.specs.State.{World, Notified, Interrupted}
use Rattle.model.specs.Worlds.{thread_at, thread_of, is_owner}
use Rattle.race_places.specs.declared.run_actions.Action.{Action}
use Rattle.race_places.specs.declared.run_actions.Action.TheVariants as action
use Rattle.race_places.specs.named_actions.Names.{Names, IsRight, named_action}
use Rattle.data_races.specs.Actions as named
use Rattle.data_races.specs.EventActions.{Rule, Begins, Does, Initialises, Relocks, Other, only_if, of_thread, is_over, found_alive, found_status, found_own, found_by_join, found_on, interrupts_on, is_done, built_in_at, receiver_of, finds_of, interrupts_of, end_actions, clear_actions, besides, waiting}
use Rattle.field_names.specs.named_fields.Fields.{names_of}
pub use Rattle.next_accesses.proofs.next_access.Right.{right_none, right_more, right_both}
use Rattle.race_actions.specs.looking.Known.{AreAllRight, names_given}

-- ---- actions that are plain

abbrev pub is_plain : named.Action → Bool
is_plain (named.Read variable) = false
is_plain (named.Write variable) = false
is_plain (named.FinishInitialisation class) = false
is_plain (named.FindInitialised class) = false
is_plain _ = true

abbrev pub ArePlain : List named.Action → Type 0
ArePlain xs = list_all is_plain xs ≡ true

plain_right : (names : Names) (trees : Program) (a : Action) → is_plain (named_action names a) ≡ true → IsRight names trees a
plain_right names trees (action.Read variable is_volatile) e = absurd (false≢true e)
plain_right names trees (action.Write variable is_volatile) e = absurd (false≢true e)
plain_right names trees (action.FinishInitialisation class) e = absurd (false≢true e)
plain_right names trees (action.FindInitialised class) e = absurd (false≢true e)
plain_right names trees _ e = tt

pub plain_all_right : (trees : Program) (told : List Action) (xs : List named.Action) → names_given trees told ≡ xs → ArePlain xs → AreAllRight trees told
plain_all_right trees told xs e h = by told (ap (list_all is_plain) e ∙ h)
  where
    by : (l : List Action) → ArePlain (names_given trees l) → AreAllRight trees l
    by [] h = right_none trees
    by (a ∷ rest) h =
        let parts = and_parts (is_plain (named_action (names_of trees) a)) (list_all is_plain (names_given trees rest)) h in
        right_more trees a rest (plain_right (names_of trees) trees a parts.0) (by rest parts.1)

plain_both : (xs ys : List named.Action) → ArePlain xs → ArePlain ys → ArePlain (xs ++ ys)
plain_both [] ys h g = g
plain_both (x ∷ xs) ys h g =
    let parts = and_parts (is_plain x) (list_all is_plain xs) h in
    ap (λ b. b && list_all is_plain (xs ++ ys)) parts.0 ∙ plain_both xs ys parts.1 g

plain_if : (b : Bool) (xs : List named.Action) → ArePlain xs → ArePlain (only_if b xs)
plain_if true xs h = h
plain_if false xs h = refl

plain_either : (b : Bool) (xs ys : List named.Action) → ArePlain xs → ArePlain ys → ArePlain (if b then xs else ys)
plain_either true xs ys h g = h
plain_either false xs ys h g = g

plain_thread : (o : Option ℕ) (f : ℕ → List named.Action) → ((u : ℕ) → ArePlain (f u)) → ArePlain (of_thread o f)
plain_thread None f h = refl
plain_thread (Some u) f h = h u

plain_option : {A : Type 0} (f : A → List named.Action) (o : Option A) → ((x : A) → ArePlain (f x)) → ArePlain (option_map_or f o [])
plain_option f None h = refl
plain_option f (Some x) h = h x

pub plain_mapped : {A : Type 0} (f : A → named.Action) (xs : List A) → ((x : A) → is_plain (f x) ≡ true) → ArePlain (map f xs)
plain_mapped f [] h = refl
plain_mapped f (x ∷ xs) h = ap (λ b. b && list_all is_plain (map f xs)) (h x) ∙ plain_mapped f xs h

-- ---- what is found of threads

module _ (world : World) (t : ℕ) where
  plain_alive : (u : ℕ) → ArePlain (found_alive world u)
  plain_alive u = plain_either (is_over world u) _ _ refl refl

  plain_status : (u : ℕ) → ArePlain (found_status world u)
  plain_status u = plain_either (thread_at world u).interrupted _ _ refl refl

  plain_own : ArePlain (found_own world t)
  plain_own = plain_if (thread_at world t).interrupted _ refl

  plain_join : (u : ℕ) → ArePlain (found_by_join world t u)
  plain_join u = plain_either (is_over world u) _ _ refl (plain_both (found_own world t) (named.FindStarted u ∷ []) plain_own refl)

  plain_found : (object : ℕ) (b : BuiltInMethod) → ArePlain (found_on world t object b)
  plain_found object ObjectWait = plain_if (is_owner world t object) _ plain_own
  plain_found object ThreadStart = plain_thread (thread_of world object) _ (λ u. refl)
  plain_found object ThreadInterrupt = plain_thread (thread_of world object) _ plain_alive
  plain_found object ThreadIsInterrupted = plain_thread (thread_of world object) _ plain_status
  plain_found object ThreadInterrupted = plain_own
  plain_found object ThreadJoin = plain_thread (thread_of world object) _ plain_join
  plain_found object ThreadIsAlive = plain_thread (thread_of world object) _ plain_alive
  plain_found object _ = refl

  plain_interrupts : (object : ℕ) (b : BuiltInMethod) → ArePlain (interrupts_on world object b)
  plain_interrupts object ThreadInterrupt = plain_thread (thread_of world object) _ (λ u. plain_if (not (is_over world u)) (named.Interrupt u ∷ []) refl)
  plain_interrupts object _ = refl

pub plain_finds : (files : Program) (event : Event) (world : World) (r : Rule) → ArePlain (finds_of files event world r)
plain_finds files event world Begins = refl
plain_finds files event world (Does instruction) =
    plain_if (is_done event.thread world instruction) _
    (plain_option (found_on world event.thread (receiver_of instruction)) (built_in_at files world instruction) (λ b. plain_found world event.thread (receiver_of instruction) b))
plain_finds files event world (Initialises class phase) = refl
plain_finds files event world (Relocks Notified) = refl
plain_finds files event world (Relocks Interrupted) = refl
plain_finds files event world Other = refl

pub plain_interrupted : (files : Program) (event : Event) (world : World) (r : Rule) → ArePlain (interrupts_of files event world r)
plain_interrupted files event world (Does instruction) =
    plain_if (is_done event.thread world instruction) _
    (plain_option (interrupts_on world (receiver_of instruction)) (built_in_at files world instruction) (λ b. plain_interrupts world event.thread (receiver_of instruction) b))
plain_interrupted files event world _ = refl

-- ---- what changes

pub plain_clear : (t : ℕ) (old new : World) → ArePlain (clear_actions t old new)
plain_clear t old new = plain_if ((thread_at old t).interrupted && not (thread_at new t).interrupted) (named.ClearInterrupt t ∷ []) refl

pub plain_end : (t : ℕ) (old new : World) → ArePlain (end_actions t old new)
plain_end t old new = plain_if (is_over new t) _ (plain_both (map (λ u. named.Wake u) (besides (waiting old) (waiting new))) (named.Finish t ∷ []) (plain_mapped (λ u. named.Wake u) (besides (waiting old) (waiting new)) (λ u. refl)) refl)
