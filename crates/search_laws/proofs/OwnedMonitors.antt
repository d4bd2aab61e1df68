-- Events on a monitor that the thread owns are alone.
use Rattle.std.proofs.Common.{◌≡◌, ℕ, ◌-◌, List, [], ◌∷◌, Bool, true, false, ◌==◌, ◌&&◌, if◌then◌else◌, Option, Some, None, refl, sym, ap, ◌∙◌, subst}
use Rattle.std.specs.Prelude.{◌+◌}
use Rattle.std.proofs.lemmas.Bool.{eq-eqb}
use Rattle.std.proofs.lemmas.Option.{same_Some}
use Rattle.model.specs.declared.instr.Instr.TheVariants as instr
use Rattle.model.specs.declared.instr.Returned.{Returned}
use Rattle.model.specs.declared.instr.Returned.TheVariants as returned
use Rattle.model.specs.declared.monitor_answer.MonitorAnswer.TheVariants.{Held, NotOwner}
use Rattle.model.specs.declared.value.Value.{Value}
use Rattle.model.specs.Accepted.{IsAccepted}
use Rattle.model.specs.Calls.{return_of}
use Rattle.model.specs.Classes.{Program}
use Rattle.model.specs.Frames.{at_offset}
use Rattle.model.specs.Meanings.{local_or, other_meaning, meaning_of}
use Rattle.model.specs.MonitorMeanings.{left, may_enter_object, monitor_enter_meaning, monitor_exit_meaning}
use Rattle.model.specs.Monitors as monitors
use Rattle.model.specs.Monitors.{Answered, owns, monitor_at, answers_done, as_owner, as_entrant, owned, released}
use Rattle.model.specs.Operands.{values, under}
use Rattle.model.specs.Outcomes.{Free, not_null}
use Rattle.model.specs.Outcomes.{Returns as ReturnsTo}
use Rattle.model.specs.Pool.{integers_of}
use Rattle.model.specs.Rows.{local_row}
use Rattle.model.specs.Sites.{MeaningOf, Site, referent, operand, pushing_at}
use Rattle.model.specs.State.{Monitor, Waiter, StackEntryOf, Invocation, Initialisation, StackOf, State}
use Rattle.model.specs.Step.{SteppedOf, Next, PartOf, part, on_to, enabled_if, raised, returned as returned_to, leaving, become, ops_of, step}
use Rattle.model.specs.Outcomes.{IllegalMonitorState}
use Rattle.model.specs.Worlds.{is_owner, is_done, with_entry, with_exit, entry_cost}
use Rattle.run_laws.specs.laws.Steps.{Rooted}
use Rattle.run_laws.proofs.laws.LinkedOf.{linked_of}
use Rattle.search_laws.specs.Alone.{passing, next_event, IsAlone, HaveSameWords}
use Rattle.search_laws.specs.OwnEvents.{IsFreeOf}
use Rattle.search_laws.specs.KeptStates.{IsReached}
use Rattle.search_laws.specs.OwnedMonitors.{IsAt, IsToUse, Exits, Enters, Returns, AreOwnedMonitorsAlone}
use Rattle.search_laws.proofs.Instructed.{none_ready, IsLeft, operands_at, put, done_at, step_at, put_left, only_zero}
use Rattle.search_laws.proofs.Locks.{IsChange}
use Rattle.search_laws.proofs.ClassesKept.{reached_held}
use Rattle.search_laws.proofs.Verdicts.{reached_typed}
use Rattle.search_laws.proofs.LockSteps.{moved, IsMoving, moving_alone}
use Rattle.search_laws.proofs.Owners.{owner_is, differs, not_owner}
use Rattle.search_laws.proofs.Waiting.{enter_means}

module _ (t : ℕ) where
  -- ---- what leaving and entering again make of a monitor

  abbrev exit_change : Monitor → Monitor
  exit_change m = (monitors.monitor_exit t m).after

  abbrev enter_change : Monitor → Monitor
  enter_change m = (monitors.monitor_enter t m).after

  abbrev with_waiters : Monitor → List Waiter → Monitor
  with_waiters m ws = record m { waiters = ws }

  released_waiters : (m : Monitor) (n : ℕ) → (released m n).waiters ≡ m.waiters
  released_waiters m n = by (n == 0)
    where
      by : (b : Bool) → (let k : Monitor = if b then record m { owner = None; count = 0 } else record m { count = n } in k).waiters ≡ m.waiters
      by true = refl
      by false = refl

  released_commutes : (m : Monitor) (n : ℕ) (ws : List Waiter) → released (with_waiters m ws) n ≡ with_waiters (released m n) ws
  released_commutes m n ws = by (n == 0)
    where
      by : (b : Bool)
          → (let k : Monitor = if b then record (with_waiters m ws) { owner = None; count = 0 } else record (with_waiters m ws) { count = n } in k)
          ≡ with_waiters (if b then record m { owner = None; count = 0 } else record m { count = n }) ws
      by true = refl
      by false = refl

  released_owner : (m : Monitor) (n v : ℕ) → owns v m.owner ≡ false → owns v (released m n).owner ≡ false
  released_owner m n v h = by (n == 0)
    where
      by : (b : Bool) → owns v (let k : Monitor = if b then record m { owner = None; count = 0 } else record m { count = n } in k).owner ≡ false
      by true = refl
      by false = h

  abbrev exit_by : Bool → Monitor → Monitor
  exit_by b m =
      (let a : Answered Monitor = if b then answers_done (released m (m.count - 1)) else record { answer = NotOwner; after = m } in a).after

  pub exits : IsChange t exit_change
  exits =
      record {
        waiters = λ m. waiters m (owns t m.owner);
        commutes = λ m ws. commutes m ws (owns t m.owner);
        others = λ m v ne own. ap (λ b. owns v (exit_by b m).owner) own ∙ released_owner m (m.count - 1) v (not_owner t v m.owner ne own);
      }
    where
      waiters : (m : Monitor) (b : Bool) → (exit_by b m).waiters ≡ m.waiters
      waiters m true = released_waiters m (m.count - 1)
      waiters m false = refl

      commutes : (m : Monitor) (ws : List Waiter) (b : Bool) → exit_by b (with_waiters m ws) ≡ with_waiters (exit_by b m) ws
      commutes m ws true = released_commutes m (m.count - 1) ws
      commutes m ws false = refl

  abbrev enter_by : Option ℕ → Monitor → Monitor
  enter_by o m = (as_entrant t o m (answers_done (owned m t 1)) (answers_done (owned m t (m.count + 1)))).after

  abbrev again_by : Bool → Monitor → Monitor
  again_by b m = (let a : Answered Monitor = if b then answers_done (owned m t (m.count + 1)) else record { answer = Held; after = m } in a).after

  pub enters : IsChange t enter_change
  enters =
      record {
        waiters = λ m. waiters m m.owner;
        commutes = λ m ws. commutes m ws m.owner;
        others = λ m v ne own.
            ap (λ o. owns v (enter_by o m).owner) (owner_is t m.owner own)
            ∙ (ap (λ b. owns v (again_by b m).owner) (eq-eqb t t refl) ∙ differs t v ne);
      }
    where
      again_waiters : (m : Monitor) (b : Bool) → (again_by b m).waiters ≡ m.waiters
      again_waiters m true = refl
      again_waiters m false = refl

      again_commutes : (m : Monitor) (ws : List Waiter) (b : Bool) → again_by b (with_waiters m ws) ≡ with_waiters (again_by b m) ws
      again_commutes m ws true = refl
      again_commutes m ws false = refl

      waiters : (m : Monitor) (o : Option ℕ) → (enter_by o m).waiters ≡ m.waiters
      waiters m None = refl
      waiters m (Some w) = again_waiters m (w == t)

      commutes : (m : Monitor) (ws : List Waiter) (o : Option ℕ) → enter_by o (with_waiters m ws) ≡ with_waiters (enter_by o m) ws
      commutes m ws None = refl
      commutes m ws (Some w) = again_commutes m ws (w == t)

  enters_again : (m : Monitor) → owns t m.owner ≡ true → is_done (monitors.monitor_enter t m).answer ≡ true
  enters_again m own =
      let free = answers_done (owned m t 1) in
      let again = answers_done (owned m t (m.count + 1)) in
      let held : Answered Monitor = record { answer = Held; after = m } in
      ap (λ o. is_done (as_entrant t o m free again).answer) (owner_is t m.owner own)
      ∙ ap (λ (b : Bool). is_done (if b then again else held).answer) (eq-eqb t t refl)

-- ---- what the instructions mean

exit_means : (files : Program) (site : Site) → site.instr ≡ instr.MonitorExit → meaning_of values files site ≡ Some (monitor_exit_meaning values site)
exit_means files site e =
    ap (λ i. local_or values files site (local_row (integers_of site.body.pool) site.body.code.code site.offset site.next i)) e
    ∙ ap (other_meaning values files site) e

return_means : (files : Program) (site : Site) (kind : Returned) → site.instr ≡ instr.Return kind
    → meaning_of values files site ≡ Some (return_of values files site.method.descriptor kind)
return_means files site kind e =
    ap (λ i. local_or values files site (local_row (integers_of site.body.pool) site.body.code.code site.offset site.next i)) e
    ∙ ap (other_meaning values files site) e

abbrev results_of : Returned → List Value → List Value
results_of returned.Nothing ops = []
results_of returned.Int ops = operand values ops 0 ∷ []
results_of returned.Reference ops = operand values ops 0 ∷ []

left_behind : (files : Program) (results : List Value) (entry : StackEntryOf Value) (rest : StackOf Value) → IsLeft (returned_to files results (entry ∷ rest))
left_behind files results (Invocation frame) rest = record { entry = _; rest = rest; is = refl }
left_behind files results (Initialisation class phase) rest = record { entry = Initialisation class phase; rest = rest; is = refl }

module _ (files : Program) (rooted : Rooted files) (frames : ℕ) (state : State) (t r : ℕ) where
  -- ---- monitorexit and monitorenter

  module _ (at : IsAt files state t) where
    abbrev own : StackOf Value
    own = Invocation (at_offset at.frame at.site.next (record { locals = at.frame.place.slots.locals; stack = under at.meaning.wants at.frame.place.slots })) ∷ at.stack

    own_left : IsLeft own
    own_left = record { entry = Invocation (at_offset at.frame at.site.next (record { locals = at.frame.place.slots.locals; stack = under at.meaning.wants at.frame.place.slots })); rest = at.stack; is = refl }

    module _ (of : referent values (operands_at files rooted frames state t at) 0 ≡ Some r) where
      exit_moves : at.meaning ≡ monitor_exit_meaning values at.site → IsMoving t r (exit_change t) (exits t) own files frames state
      exit_moves is =
          record {
            stack = Invocation at.frame ∷ at.stack;
            there = at.there;
            runs = at.status;
            goes = λ later g s owned.
                step_at files rooted frames state t at later g s.alone (none_ready t later.world at.meaning.looks (ap (λ (m : MeaningOf Value). m.looks) is)) 0
                ∙ (ap (λ b. put files rooted frames state t at later g s.alone (enabled_if b (done_at files rooted frames state t at later g s.alone 0))) (may_zero later 0)
                ∙ (ap (put files rooted frames state t at later g s.alone) (does later owned)
                ∙ put_left files rooted frames state t at later g s.alone Free (with_exit later.world t r) own refl own_left));
            only = λ later next pick g s owned e.
                only_zero files rooted frames state t at later g s.alone (none_ready t later.world at.meaning.looks (ap (λ (m : MeaningOf Value). m.looks) is)) (λ p q. may_zero later p ∙ q) next pick e;
          }
        where
          may_zero : (later : State) (pick : ℕ) → at.meaning.may (record { thread = t; pick = pick }) later.world (ops_of values at.meaning at.frame.place.slots) ≡ (pick == 0)
          may_zero later pick = ap (λ (m : MeaningOf Value). m.may (record { thread = t; pick = pick }) later.world (ops_of values at.meaning at.frame.place.slots)) is

          does : (later : State) → is_owner later.world t r ≡ true
              → become values files frames t later.world at.frame at.stack (at.meaning.does (record { thread = t; pick = 0 }) later.world at.frame.place.slots (ops_of values at.meaning at.frame.place.slots) (under at.meaning.wants at.frame.place.slots))
              ≡ Next Free (part (with_exit later.world t r) (Invocation (at_offset at.frame at.site.next (record { locals = at.frame.place.slots.locals; stack = under at.meaning.wants at.frame.place.slots })) ∷ at.stack))
          does later owned =
              let slots = at.frame.place.slots in
              let ops = ops_of values at.meaning slots in
              let rest = under at.meaning.wants slots in
              ap (λ (m : MeaningOf Value). become values files frames t later.world at.frame at.stack (m.does (record { thread = t; pick = 0 }) later.world slots ops rest)) is
              ∙ (ap (λ o. become values files frames t later.world at.frame at.stack (not_null o (λ x. left (is_owner later.world t x) at.site.next t x later.world slots rest))) of
              ∙ ap (λ b. become values files frames t later.world at.frame at.stack (left b at.site.next t r later.world slots rest)) owned)

      enter_moves : at.meaning ≡ monitor_enter_meaning values at.site → IsMoving t r (enter_change t) (enters t) own files frames state
      enter_moves is =
          record {
            stack = Invocation at.frame ∷ at.stack;
            there = at.there;
            runs = at.status;
            goes = λ later g s owned.
                step_at files rooted frames state t at later g s.alone (none_ready t later.world at.meaning.looks (ap (λ (m : MeaningOf Value). m.looks) is)) 0
                ∙ (ap (λ b. put files rooted frames state t at later g s.alone (enabled_if b (done_at files rooted frames state t at later g s.alone 0))) (may_zero later owned)
                ∙ (ap (put files rooted frames state t at later g s.alone) (does later)
                ∙ put_left files rooted frames state t at later g s.alone (entry_cost later.world r) (with_entry later.world t r) own refl own_left));
            only = λ later next pick g s owned e.
                only_zero files rooted frames state t at later g s.alone (none_ready t later.world at.meaning.looks (ap (λ (m : MeaningOf Value). m.looks) is)) (λ p q. may_picked later p ∙ ap (λ b. b && may_enter_object later.world t (referent values (ops_of values at.meaning at.frame.place.slots) 0)) q) next pick e;
          }
        where
          may_picked : (later : State) (pick : ℕ)
              → at.meaning.may (record { thread = t; pick = pick }) later.world (ops_of values at.meaning at.frame.place.slots)
              ≡ ((pick == 0) && may_enter_object later.world t (referent values (ops_of values at.meaning at.frame.place.slots) 0))
          may_picked later pick = ap (λ (m : MeaningOf Value). m.may (record { thread = t; pick = pick }) later.world (ops_of values at.meaning at.frame.place.slots)) is

          may_zero : (later : State) → is_owner later.world t r ≡ true → at.meaning.may (record { thread = t; pick = 0 }) later.world (ops_of values at.meaning at.frame.place.slots) ≡ true
          may_zero later owned =
              may_picked later 0 ∙ (ap (λ o. may_enter_object later.world t o) of ∙ enters_again t (monitor_at later.world.monitors r) owned)

          does : (later : State)
              → become values files frames t later.world at.frame at.stack (at.meaning.does (record { thread = t; pick = 0 }) later.world at.frame.place.slots (ops_of values at.meaning at.frame.place.slots) (under at.meaning.wants at.frame.place.slots))
              ≡ Next (entry_cost later.world r) (part (with_entry later.world t r) (Invocation (at_offset at.frame at.site.next (record { locals = at.frame.place.slots.locals; stack = under at.meaning.wants at.frame.place.slots })) ∷ at.stack))
          does later =
              let slots = at.frame.place.slots in
              let ops = ops_of values at.meaning slots in
              let rest = under at.meaning.wants slots in
              ap (λ (m : MeaningOf Value). become values files frames t later.world at.frame at.stack (m.does (record { thread = t; pick = 0 }) later.world slots ops rest)) is
              ∙ ap (λ o. become values files frames t later.world at.frame at.stack (not_null o (λ x. pushing_at (entry_cost later.world x) at.site.next [] (with_entry later.world t x) slots rest))) of

    -- ---- returns

    module _ (kind : Returned) (entered : at.frame.entered ≡ Some r) (entry : StackEntryOf Value) (rest : StackOf Value) (stack_is : at.stack ≡ entry ∷ rest) where
      abbrev results : List Value
      results = results_of kind (operands_at files rooted frames state t at)

      abbrev behind : StackOf Value
      behind = returned_to files results at.stack

      behind_left : IsLeft behind
      behind_left = subst (λ s. IsLeft (returned_to files results s)) (sym stack_is) (left_behind files results entry rest)

      return_moves : at.meaning ≡ return_of values files at.site.method.descriptor kind → IsMoving t r (exit_change t) (exits t) behind files frames state
      return_moves is =
          record {
            stack = Invocation at.frame ∷ at.stack;
            there = at.there;
            runs = at.status;
            goes = λ later g s owned.
                step_at files rooted frames state t at later g s.alone (none_ready t later.world at.meaning.looks (looks kind is)) 0
                ∙ (ap (λ b. put files rooted frames state t at later g s.alone (enabled_if b (done_at files rooted frames state t at later g s.alone 0))) (may_zero kind is later 0)
                ∙ (ap (put files rooted frames state t at later g s.alone) (does kind is later owned)
                ∙ put_left files rooted frames state t at later g s.alone Free (with_exit later.world t r) behind refl behind_left));
            only = λ later next pick g s owned e.
                only_zero files rooted frames state t at later g s.alone (none_ready t later.world at.meaning.looks (looks kind is)) (λ p q. may_zero kind is later p ∙ q) next pick e;
          }
        where
          looks : (k : Returned) → at.meaning ≡ return_of values files at.site.method.descriptor k → at.meaning.looks ≡ None
          looks returned.Nothing q = ap (λ (m : MeaningOf Value). m.looks) q
          looks returned.Int q = ap (λ (m : MeaningOf Value). m.looks) q
          looks returned.Reference q = ap (λ (m : MeaningOf Value). m.looks) q

          may_zero : (k : Returned) → at.meaning ≡ return_of values files at.site.method.descriptor k → (later : State) (pick : ℕ)
              → at.meaning.may (record { thread = t; pick = pick }) later.world (ops_of values at.meaning at.frame.place.slots) ≡ (pick == 0)
          may_zero returned.Nothing q later pick = ap (λ (m : MeaningOf Value). m.may (record { thread = t; pick = pick }) later.world (ops_of values at.meaning at.frame.place.slots)) q
          may_zero returned.Int q later pick = ap (λ (m : MeaningOf Value). m.may (record { thread = t; pick = pick }) later.world (ops_of values at.meaning at.frame.place.slots)) q
          may_zero returned.Reference q later pick = ap (λ (m : MeaningOf Value). m.may (record { thread = t; pick = pick }) later.world (ops_of values at.meaning at.frame.place.slots)) q

          outcome : (k : Returned) → at.meaning ≡ return_of values files at.site.method.descriptor k → (later : State)
              → at.meaning.does (record { thread = t; pick = 0 }) later.world at.frame.place.slots (ops_of values at.meaning at.frame.place.slots) (under at.meaning.wants at.frame.place.slots)
              ≡ ReturnsTo later.world (results_of k (ops_of values at.meaning at.frame.place.slots))
          outcome returned.Nothing q later = ap (λ (m : MeaningOf Value). m.does (record { thread = t; pick = 0 }) later.world at.frame.place.slots (ops_of values at.meaning at.frame.place.slots) (under at.meaning.wants at.frame.place.slots)) q
          outcome returned.Int q later = ap (λ (m : MeaningOf Value). m.does (record { thread = t; pick = 0 }) later.world at.frame.place.slots (ops_of values at.meaning at.frame.place.slots) (under at.meaning.wants at.frame.place.slots)) q
          outcome returned.Reference q later = ap (λ (m : MeaningOf Value). m.does (record { thread = t; pick = 0 }) later.world at.frame.place.slots (ops_of values at.meaning at.frame.place.slots) (under at.meaning.wants at.frame.place.slots)) q

          does : (k : Returned) → at.meaning ≡ return_of values files at.site.method.descriptor k → (later : State) → is_owner later.world t r ≡ true
              → become values files frames t later.world at.frame at.stack (at.meaning.does (record { thread = t; pick = 0 }) later.world at.frame.place.slots (ops_of values at.meaning at.frame.place.slots) (under at.meaning.wants at.frame.place.slots))
              ≡ Next Free (part (with_exit later.world t r) (returned_to files (results_of k (ops_of values at.meaning at.frame.place.slots)) at.stack))
          does k q later owned =
              let gone = returned_to files (results_of k (ops_of values at.meaning at.frame.place.slots)) at.stack in
              let all : StackOf Value = Invocation at.frame ∷ at.stack in
              let x : SteppedOf (PartOf Value) = raised values files t IllegalMonitorState later.world all in
              ap (become values files frames t later.world at.frame at.stack) (outcome k q later)
              ∙ (ap (λ o. leaving values files t o later.world gone all) entered
              ∙ ap (λ b. if b then on_to (with_exit later.world t r) gone else x) owned)

module _ (files : List (List ℕ)) (trees : Program) (accepted : IsAccepted files trees) (frames : ℕ) (conflict : State → ℕ → ℕ → Bool)
    (state next : State) (reached : IsReached trees frames state) (t r : ℕ) (owned : is_owner state.world t r ≡ true) (free : IsFreeOf trees frames conflict state t)
    (e : step trees frames state (next_event t) ≡ Some next) where
  rooted : Rooted trees
  rooted = (linked_of files trees accepted.linkable.spelled accepted.linkable.no_refusal).rooted

  abbrev Alone : State → Type 0
  Alone z = IsAlone trees frames (passing conflict) (HaveSameWords trees) state t z

  by_moving : (change : Monitor → Monitor) (c : IsChange t change) (own : StackOf Value) → IsMoving t r change c own trees frames state → Alone next
  by_moving change c own m =
      let a = moving_alone t r change c own files trees accepted frames state m conflict (reached_typed files trees accepted frames state reached) (reached_held trees frames state reached) owned free in
      subst Alone (same_Some (moved t r change c own state) next (sym a.goes ∙ e)) a

  by_use : IsToUse trees state t r → Alone next
  by_use (Exits at is of) =
      by_moving (exit_change t) (exits t) _
      (exit_moves trees rooted frames state t r at of (sym (same_Some (monitor_exit_meaning values at.site) at.meaning (sym (exit_means trees at.site is) ∙ at.means))))
  by_use (Enters at is of) =
      by_moving (enter_change t) (enters t) _
      (enter_moves trees rooted frames state t r at of (sym (same_Some (monitor_enter_meaning values at.site) at.meaning (sym (enter_means trees at.site is) ∙ at.means))))
  by_use (Returns at kind is entered entry rest stack_is) =
      by_moving (exit_change t) (exits t) _
      (return_moves trees rooted frames state t r at kind entered entry rest stack_is
      (sym (same_Some (return_of values trees at.site.method.descriptor kind) at.meaning (sym (return_means trees at.site kind is) ∙ at.means))))

pub owned_monitors_alone : AreOwnedMonitorsAlone
owned_monitors_alone files trees accepted frames conflict state next h t r owned uses free e =
    by_use files trees accepted frames conflict state next h t r owned free e uses
