-- Where a thread changes a monitor that it owns, and its stack, events of the others lead on as they did.
use Rattle.std.proofs.Common.{◌≡◌, ℕ, ◌-◌, List, [], ◌∷◌, ◌++◌, length, Bool, Some, refl, sym, ap, ◌∙◌, subst}
use Rattle.std.specs.Prelude.{slice_get, slice_set, replicate}
use Rattle.std.proofs.lemmas.List.{set_comm, length-set}
use Rattle.std.proofs.lemmas.Option.{same_Some}
use Rattle.model.specs.declared.event.Event.{Event}
use Rattle.model.specs.declared.value.Value.{Value}
use Rattle.model.specs.Accepted.{IsAccepted}
use Rattle.model.specs.Classes.{Program}
use Rattle.model.specs.Opening.{opening_count}
use Rattle.model.specs.Operands.{values}
use Rattle.model.specs.Run.{run_from}
use Rattle.model.specs.State.{Monitor, Running, StackOf, World, State}
use Rattle.model.specs.Step.{Next, part, end_of, settled, with_part, event_of, next_by, step}
use Rattle.model.specs.WellTyped.{IsWellTyped}
use Rattle.model.specs.Worlds.{thread_at}
use Rattle.run_laws.proofs.typed_runs.Threads.{get_set_other}
use Rattle.search_laws.specs.Alone.{passing, next_event, AreOfOthers, IsAlone, HaveSameWords}
use Rattle.search_laws.specs.OwnEvents.{StandsAs, IsFreeOf}
use Rattle.search_laws.proofs.ClassesHeld.{OnEffect, IsEffect, event_effect}
use Rattle.search_laws.proofs.ClassesKept.{all, AreClassesHeld, held_next}
use Rattle.search_laws.proofs.ClassesKept.{effect}
use Rattle.search_laws.proofs.Events.{does, IsDone, done_of}
use Rattle.search_laws.proofs.LockEvents.{f, event_follows, end_same}
use Rattle.search_laws.proofs.Locks.{IsChange, Owned}
use Rattle.search_laws.proofs.OwnEvents.{set_front, stands_on, left_alone_self}
use Rattle.search_laws.proofs.Runs.{first_of, begun}
use Rattle.search_laws.proofs.SameWords.{typed}

module _ (t r : ℕ) (change : Monitor → Monitor) (c : IsChange t change) (own : StackOf Value) where
  -- the state with the monitor changed, and that stack
  abbrev pub moved : State → State
  moved s = record { world = f t r change c s.world; stacks = slice_set s.stacks t own }

  module _ (trees : Program) (frames : ℕ) (s next : State) (event : Event) (ne : t ≡ event.thread → ⊥) (old : StackOf Value) (there : slice_get s.stacks t ≡ Some old) (owned : Owned t r change c s.world) (e : step trees frames s event ≡ Some next) where
    abbrev u : ℕ
    u = event.thread

    abbrev d : IsDone trees frames s event next
    d = done_of trees frames s event next e

    before_end : IsEffect (opening_count trees) all u s.world d.stack d.left
    before_end = subst (OnEffect (opening_count trees) all u s.world d.stack) d.did (event_effect all trees frames event s.world d.stack (thread_at s.world u).status (λ going variables q. refl))

    owned_left : Owned t r change c d.left.world
    owned_left = before_end.monitors t r ne owned

    -- the thread owns the monitor still
    pub owned_next : Owned t r change c next.world
    owned_next = subst (λ (z : State). Owned t r change c z.world) d.is_next ((effect trees frames s next event e).monitors t r ne owned)

    abbrev after : World
    after = end_of u d.left.world d.left.stack

    did_moved : does trees frames (moved s) event d.stack ≡ Next d.cost (part (f t r change c d.left.world) d.left.stack)
    did_moved = event_follows t r change c trees frames event ne s.world owned d.stack (thread_at s.world u).status d.cost d.left d.did

    pub moved_step : step trees frames (moved s) event ≡ Some (moved next)
    moved_step =
        let reads = get_set_other s.stacks t u own ne ∙ d.there in
        let set = slice_set s.stacks u d.left.stack in
        let more = replicate (length after.threads - length s.stacks) [] in
        let stays = get_set_other s.stacks u t d.left.stack (λ q. ne (sym q)) ∙ there in
        ap (λ o. next_by (event_of values trees frames (moved s) event o)) reads
        ∙ (ap (λ x. next_by (with_part (moved s) u (settled u x))) did_moved
        ∙ (ap (λ w. next_by (with_part (moved s) u (Next d.cost (part w d.left.stack)))) (end_same t r change c u ne d.left.world owned_left d.left.stack)
        ∙ (ap (λ n. Some (let z : State = record { world = f t r change c after; stacks = slice_set (slice_set s.stacks t own) u d.left.stack ++ replicate (length after.threads - n) [] } in z)) (length-set s.stacks t own)
        ∙ (ap (λ ss. Some (let z : State = record { world = f t r change c after; stacks = ss ++ more } in z)) (set_comm s.stacks t u own d.left.stack ne)
        ∙ (ap (λ ss. Some (let z : State = record { world = f t r change c after; stacks = ss } in z)) (sym (set_front set more t old own stays))
        ∙ ap (λ (z : State). Some (moved z)) d.is_next)))))

  -- ---- the event is alone

  -- wherever the thread stands so and owns the monitor, it has one event, which changes that and its stack
  pub record IsMoving (trees : Program) (frames : ℕ) (before : State) : Type 0 where
    pub stack : StackOf Value
    pub there : slice_get before.stacks t ≡ Some stack
    pub runs : (thread_at before.world t).status ≡ Running
    pub goes : (later : State) → IsWellTyped trees later → StandsAs all before t later → Owned t r change c later.world
        → step trees frames later (next_event t) ≡ Some (moved later)
    pub only : (later next : State) (pick : ℕ) → IsWellTyped trees later → StandsAs all before t later → Owned t r change c later.world
        → step trees frames later (record { thread = t; pick = pick }) ≡ Some next → pick ≡ 0

  module _ (files : List (List ℕ)) (trees : Program) (accepted : IsAccepted files trees) (frames : ℕ) (before : State) (m : IsMoving trees frames before) where
    record IsBeside (s : State) (others : List Event) (later : State) : Type 0 where
      typed_later : IsWellTyped trees later
      stands : StandsAs all before t later
      owned : Owned t r change c later.world
      runs : run_from trees frames (moved s) others ≡ Some (moved later)

    beside : (others : List Event) (s later : State) → IsWellTyped trees s → AreClassesHeld s → StandsAs all before t s → Owned t r change c s.world → AreOfOthers t others
        → run_from trees frames s others ≡ Some later → IsBeside s others later
    beside [] s later h held st own_s are run =
        let same = same_Some s later run in
        record {
          typed_later = subst (IsWellTyped trees) same h;
          stands = subst (StandsAs all before t) same st;
          owned = subst (λ (z : State). Owned t r change c z.world) same own_s;
          runs = ap (λ (z : State). Some (moved z)) same;
        }
    beside (event ∷ others) s later h held st own_s are run =
        let k = first_of trees frames s later event others run in
        let h2 = typed files trees accepted frames s k.0 event h k.1.0 in
        let s2 = stands_on files trees accepted frames all before t m.stack m.there m.runs s k.0 event h held st are.0 k.1.0 (λ stack there going variables q. refl) in
        let there_s = st.alone.stack ∙ m.there in
        let own2 = owned_next trees frames s k.0 event are.0 m.stack there_s own_s k.1.0 in
        let rest = beside others k.0 later h2 (held_next trees frames s k.0 event k.1.0 held) s2 own2 are.1 k.1.1 in
        record {
          typed_later = rest.typed_later;
          stands = rest.stands;
          owned = rest.owned;
          runs = begun trees frames (moved s) (moved k.0) (moved later) event others (moved_step trees frames s k.0 event are.0 m.stack there_s own_s k.1.0) rest.runs;
        }

    pub moving_alone : (conflict : State → ℕ → ℕ → Bool) → IsWellTyped trees before → AreClassesHeld before → Owned t r change c before.world → IsFreeOf trees frames conflict before t
        → IsAlone trees frames (passing conflict) (HaveSameWords trees) before t (moved before)
    moving_alone conflict h held owned free =
        let self = left_alone_self files trees accepted frames all before t in
        record {
          goes = m.goes before h self owned;
          behind = λ others later are run.
              let x = beside others before later h held self owned are run in
              let goes = m.goes later x.typed_later x.stands x.owned in
              let after = typed files trees accepted frames later (moved later) (next_event t) x.typed_later goes in
              record {
                last = moved later;
                goes = goes;
                only = λ pick next e. m.only later next pick x.typed_later x.stands x.owned e;
                after = moved later;
                runs = x.runs;
                like = record { one_typed = after; other_typed = after; same = refl };
                free = λ u k. free others later are run u k;
              };
        }
