-- A thread's own event commutes with each event of another thread, and leads to the same state.
use Rattle.std.proofs.Common.{◌≡◌, ℕ, zero, suc, ◌-◌, List, [], ◌∷◌, ◌++◌, length, Bool, true, false, ◌==◌, Option, Some, None, refl, sym, ap, ◌∙◌, subst}
use Rattle.std.specs.Prelude.{slice_get, slice_set, replicate}
use Rattle.std.specs.Option.{option_and_then}
use Rattle.std.proofs.lemmas.Bool.{false≢true, eqb-true}
use Rattle.std.proofs.lemmas.List.{set_comm, length-set}
use Rattle.std.proofs.lemmas.Option.{same_Some, none-some}
use Rattle.model.specs.declared.event.Event.{Event}
use Rattle.model.specs.declared.value.Value.{Value}
use Rattle.model.specs.Accepted.{IsAccepted}
use Rattle.model.specs.Classes.{Program}
use Rattle.model.specs.ClassInitialisation.{IsReady, IsNew, look_by, status_of}
use Rattle.model.specs.Opening.{opening}
use Rattle.model.specs.Operands.{values}
use Rattle.model.specs.Run.{run, run_from, may_step}
use Rattle.model.specs.State.{ClassStatus, NotInitialised, Running, StackOf, State}
use Rattle.model.specs.Step.{SteppedOf, NotEnabled, WrongKind, Next, PartOf, end_of, settled, with_part, event_of, is_enabled_by, next_by, stepped, step}
use Rattle.model.specs.WellTyped.{IsWellTyped}
use Rattle.model.specs.Worlds.{thread_at}
use Rattle.run_laws.specs.interleavings.Ends.{Outcome}
use Rattle.run_laws.specs.interleavings.Local.{next_local, with_stack}
use Rattle.run_laws.specs.searches.Searches.{AreLocal, IsFollowed, IsWhole}
use Rattle.run_laws.proofs.interleavings.Commuting.{local_is_own, left_alone}
use Rattle.run_laws.proofs.interleavings.Own.{next_of, of_next, own_unpicked}
use Rattle.run_laws.proofs.interleavings.Reduction.{opened, run_typed}
use Rattle.run_laws.proofs.typed_runs.Threads.{get_set_other}
use Rattle.search_laws.specs.Alone.{passing, next_event, AreOfOthers, IsAlone, HaveSameWords}
use Rattle.search_laws.specs.KeptStates.{Graph, IsReached, IsFollowed as IsKeptBehind}
use Rattle.search_laws.specs.OwnEvents.{StandsAs, IsOwnEvent, IsFreeOf, AreOwnEventsAlone, AreLocalEventsOwn, no_conflict, graph_of, AreSearchesWhole}
use Rattle.search_laws.specs.Preemptions.{LeavesEnabled}
use Rattle.search_laws.specs.Schedules.{ArePassed, AreLocalFree}
use Rattle.search_laws.specs.Verdicts.{IsWholeSearch, AreListed}
use Rattle.search_laws.specs.Writes.{Variables, WritesAtMost, AreWritesOfOthers}
use Rattle.search_laws.proofs.Events.{does, done_of, changed}
use Rattle.search_laws.proofs.ClassesKept.{all, variables_next, statics_next, AreClassesHeld, ready_next, held_next, reached_held}
use Rattle.search_laws.proofs.Variables.{keeps_same, keeps_on}
use Rattle.search_laws.proofs.Runs.{made_of, first_of, begun}
use Rattle.search_laws.proofs.SameWords.{answer_of, typed}
use Rattle.search_laws.proofs.Verdicts.{outcome_met, reached_next, reached_typed}

-- ---- a stack beside that of the thread that moves

pub set_front : {A : Type 0} (xs ys : List A) (k : ℕ) (x y : A) → slice_get xs k ≡ Some x → slice_set (xs ++ ys) k y ≡ slice_set xs k y ++ ys
set_front [] ys k x y e = absurd cc
set_front (z ∷ zs) ys zero x y e = refl
set_front (z ∷ zs) ys (suc k) x y e = ap (λ l. z ∷ l) (set_front zs ys k x y e)

enabled_with : (state : State) (t : ℕ) (x : SteppedOf (PartOf Value)) → is_enabled_by (with_part state t (settled t x)) ≡ is_enabled_by x
enabled_with state t NotEnabled = refl
enabled_with state t WrongKind = refl
enabled_with state t (Next cost p) = refl

module _ (trees : Program) (frames : ℕ) (state : State) (t : ℕ) (old own : StackOf Value) (there : slice_get state.stacks t ≡ Some old) where
  -- what an event of another thread does, it does so too with another stack of the thread
  pub stack_beside : (event : Event) (next : State) → (t ≡ event.thread → ⊥) → step trees frames state event ≡ Some next
      → step trees frames (with_stack state t own) event ≡ Some (with_stack next t own)
  stack_beside event next ne e =
      let d = done_of trees frames state event next e in
      let u = event.thread in
      let after = end_of u d.left.world d.left.stack in
      let reads = get_set_other state.stacks t u own ne ∙ d.there in
      let set = slice_set state.stacks u d.left.stack in
      let more = replicate (length after.threads - length state.stacks) [] in
      let stays = get_set_other state.stacks u t d.left.stack (λ q. ne (sym q)) ∙ there in
      ap (λ o. next_by (event_of values trees frames (with_stack state t own) event o)) reads
      ∙ (ap (λ x. next_by (with_part (with_stack state t own) u (settled u x))) d.did
      ∙ (ap (λ n. Some (let s : State = record { world = after; stacks = slice_set (slice_set state.stacks t own) u d.left.stack ++ replicate (length after.threads - n) [] } in s)) (length-set state.stacks t own)
      ∙ (ap (λ ss. Some (let s : State = record { world = after; stacks = ss ++ more } in s)) (set_comm state.stacks t u own d.left.stack ne)
      ∙ (ap (λ ss. Some (let s : State = record { world = after; stacks = ss } in s)) (sym (set_front set more t old own stays))
      ∙ ap (λ (z : State). Some (with_stack z t own)) d.is_next))))

  -- nor does it change whether another thread may step
  pub may_beside : (u : ℕ) → (u ≡ t → ⊥) → may_step trees frames (with_stack state t own) u ≡ may_step trees frames state u
  may_beside u ne =
      ap (λ o. is_enabled_by (event_of values trees frames (with_stack state t own) (next_event u) o)) (get_set_other state.stacks t u own (λ q. ne (sym q)))
      ∙ by (slice_get state.stacks u)
    where
      by : (o : Option (StackOf Value)) → is_enabled_by (event_of values trees frames (with_stack state t own) (next_event u) o)
          ≡ is_enabled_by (event_of values trees frames state (next_event u) o)
      by None = refl
      by (Some stack) =
          let x = does trees frames state (next_event u) stack in
          enabled_with (with_stack state t own) u x ∙ sym (enabled_with state u x)

-- ---- own events

-- a class that a thread may use is begun
ready_begun : (t : ℕ) (s : ClassStatus) → look_by t s ≡ IsReady → s ≡ NotInitialised → ⊥
ready_begun t s k e = let z : IsNew ≡ IsReady = sym (ap (look_by t) e) ∙ k in absurd cc

-- whatever the others write is among all
pub all_written : (trees : Program) (frames : ℕ) (state : State) (t : ℕ) → AreWritesOfOthers trees frames all state t
all_written trees frames state t others later are r event next ne e stack there going variables q = refl

module _ (files : List (List ℕ)) (trees : Program) (accepted : IsAccepted files trees) (frames : ℕ) where
  pub left_alone_self : (writes : Variables → Bool) (state : State) (t : ℕ) → StandsAs writes state t state
  left_alone_self writes state t =
      record {
        alone = record { stack = refl; status = refl; pending = refl };
        ready = λ class q. q;
        statics = λ field first n q. refl;
        types = record { keeps = λ r type e. e };
        variables = keeps_same writes state.world.heap;
      }

  module _ (writes : Variables → Bool) (before : State) (t : ℕ) (old : StackOf Value) (there : slice_get before.stacks t ≡ Some old) (runs : (thread_at before.world t).status ≡ Running) where
    pub stands_on : (state next : State) (event : Event) → IsWellTyped trees state → AreClassesHeld state → StandsAs writes before t state → (t ≡ event.thread → ⊥)
        → step trees frames state event ≡ Some next
        → ((stack : StackOf Value) → slice_get state.stacks event.thread ≡ Some stack
        → WritesAtMost trees writes (thread_at state.world event.thread) stack)
        → StandsAs writes before t next
    stands_on state next event h held s ne e at_most =
        let x = answer_of (stepped values trees frames state event) next e in
        let k = left_alone files trees accepted frames state h t old (s.alone.stack ∙ there) (s.alone.status ∙ runs) event ne x.0 next x.1 in
        let c = changed files trees accepted frames state h event next e in
        record {
          alone = record { stack = k.stack ∙ s.alone.stack; status = k.status ∙ s.alone.status; pending = k.pending ∙ s.alone.pending };
          ready = λ class q. ready_next trees frames state next event e held t ne class (s.ready class q);
          types = record { keeps = λ r type q. c.extends.keeps r type (s.types.keeps r type q) };
          statics = λ field first n q.
              let x = done_of trees frames state event next e in
              statics_next trees frames state next event e writes (at_most x.stack x.there) field first n (ready_begun t (status_of state.world field.class) (s.ready (Some field.class) q))
              ∙ s.statics field first n q;
          variables =
              let x = done_of trees frames state event next e in
              keeps_on writes before.world.heap state.world.heap next.world.heap s.variables (variables_next trees frames state next event e writes (at_most x.stack x.there));
        }

  module _ (writes : Variables → Bool) (before : State) (t : ℕ) (own : StackOf Value) (o : IsOwnEvent trees frames writes before t own) where
    -- where others led, and the same with the thread's own event before
    record IsBeside (state : State) (others : List Event) (later : State) : Type 0 where
      typed_later : IsWellTyped trees later
      stands : StandsAs writes before t later
      runs : run_from trees frames (with_stack state t own) others ≡ Some (with_stack later t own)

    beside : (others : List Event) (state later : State) → IsWellTyped trees state → AreClassesHeld state → StandsAs writes before t state
        → AreWritesOfOthers trees frames writes state t → AreOfOthers t others → run_from trees frames state others ≡ Some later → IsBeside state others later
    beside [] state later h held s w are r =
        let same = same_Some state later r in
        record {
          typed_later = subst (IsWellTyped trees) same h;
          stands = subst (StandsAs writes before t) same s;
          runs = ap (λ (z : State). Some (with_stack z t own)) same;
        }
    beside (event ∷ others) state later h held s w are r =
        let f = first_of trees frames state later event others r in
        let h2 = typed files trees accepted frames state f.0 event h f.1.0 in
        let s2 = stands_on writes before t o.stack o.there o.runs state f.0 event h held s are.0 f.1.0 (w [] state tt refl event f.0 are.0 f.1.0) in
        let w2 : AreWritesOfOthers trees frames writes f.0 t =
        λ more last a run. w (event ∷ more) last (are.0, a) (begun trees frames state f.0 last event more f.1.0 run)
        in
        let rest = beside others f.0 later h2 (held_next trees frames state f.0 event f.1.0 held) s2 w2 are.1 f.1.1 in
        let goes = stack_beside trees frames state t o.stack own (s.alone.stack ∙ o.there) event f.0 are.0 f.1.0 in
        record {
          typed_later = rest.typed_later;
          stands = rest.stands;
          runs = begun trees frames (with_stack state t own) (with_stack f.0 t own) (with_stack later t own) event others goes rest.runs;
        }

    module _ (conflict : State → ℕ → ℕ → Bool) (h : IsWellTyped trees before) (held : AreClassesHeld before) (w : AreWritesOfOthers trees frames writes before t) where
      pub own_alone : IsFreeOf trees frames conflict before t → IsAlone trees frames (passing conflict) (HaveSameWords trees) before t (with_stack before t own)
      own_alone free =
          record {
            goes = o.goes before h (left_alone_self writes before t);
            behind = λ others later are r.
                let x = beside others before later h held (left_alone_self writes before t) w are r in
                let goes = o.goes later x.typed_later x.stands in
                let after = typed files trees accepted frames later (with_stack later t own) (next_event t) x.typed_later goes in
                record {
                  last = with_stack later t own;
                  goes = goes;
                  only = λ pick next e. o.only later next pick x.typed_later x.stands e;
                  after = with_stack later t own;
                  runs = x.runs;
                  like = record { one_typed = after; other_typed = after; same = refl };
                  free = λ u c. free others later are r u c;
                };
          }

      pub own_leaves : LeavesEnabled trees frames (passing conflict) (HaveSameWords trees) before t
      own_leaves others later last are r goes u ne =
          let x = beside others before later h held (left_alone_self writes before t) w are r in
          let same = same_Some (with_stack later t own) last (sym (o.goes later x.typed_later x.stands) ∙ goes) in
          subst (λ z. may_step trees frames z u ≡ may_step trees frames later u) same
          (may_beside trees frames later t o.stack own (x.stands.alone.stack ∙ o.there) u ne)

  -- ---- local events

  module _ (writes : Variables → Bool) (state : State) (h : IsWellTyped trees state) (t : ℕ) (own : StackOf Value) (e : next_local trees state t ≡ Some own) where
    local_later : (later : State) → StandsAs writes state t later → next_local trees later t ≡ Some own
    local_later later s =
        let n = next_of trees state t own e in
        of_next trees later t own
        (record { stack = n.stack; status = s.alone.status ∙ n.status; pending = s.alone.pending ∙ n.pending; there = s.alone.stack ∙ n.there; does = n.does })

    pub local_own : IsOwnEvent trees frames writes state t own
    local_own =
        let n = next_of trees state t own e in
        record {
          stack = n.stack;
          there = n.there;
          runs = n.status;
          goes = λ later g s. ap next_by (local_is_own files trees accepted frames later g (next_event t) own (local_later later s) refl);
          only = λ later next pick g s q. by later next pick g s q (pick == 0) refl;
        }
      where
        by : (later next : State) (pick : ℕ) → IsWellTyped trees later → StandsAs writes state t later
            → step trees frames later (record { thread = t; pick = pick }) ≡ Some next → (k : Bool) → (pick == 0) ≡ k → pick ≡ 0
        by later next pick g s q true k = eqb-true pick 0 k
        by later next pick g s q false k =
            absurd (none-some next (sym (own_unpicked trees frames later g (record { thread = t; pick = pick }) own (next_of trees later t own (local_later later s)) k) ∙ q))

  -- ---- a search past local events

  module _ (conflict : State → ℕ → ℕ → Bool) (free : AreLocalFree trees frames conflict) where
    pub record LocalChain (threads : List ℕ) (state last : State) : Type 0 where
      pub are_alone : ArePassed trees frames conflict threads state last
      pub typed_last : IsWellTyped trees last

    pub local_chain : (threads : List ℕ) (state last : State) → IsReached trees frames state → AreLocal trees threads state last
        → LocalChain threads state last
    local_chain [] state last r l = record { are_alone = l; typed_last = subst (IsWellTyped trees) l (reached_typed files trees accepted frames state r) }
    local_chain (t ∷ threads) state last r l =
        let h = reached_typed files trees accepted frames state r in
        let held = reached_held trees frames state r in
        let o = local_own all state h t l.0 l.1 in
        let first = with_stack state t l.0 in
        let goes = o.goes state h (left_alone_self all state t) in
        let rest = local_chain threads first last (reached_next files trees accepted frames state first (next_event t) r goes) l.2 in
        record {
          are_alone = (first, (own_alone all state t l.0 o conflict h held (all_written trees frames state t) (free state r t l.0 l.1), rest.are_alone));
          typed_last = rest.typed_last;
        }

  none_free : AreLocalFree trees frames no_conflict
  none_free state r t own e others later are q u c = absurd (false≢true c)

  module _ (schedules : List (List Event)) (outcomes : List Outcome) (w : IsWhole trees frames schedules outcomes) where
    abbrev graph : Graph
    graph = graph_of trees frames schedules

    abbrev Followed : State → ℕ → Type 0
    Followed = IsKeptBehind trees frames (passing no_conflict) (HaveSameWords trees) graph

    followed : (state : State) → IsReached trees frames state → IsFollowed trees frames schedules state → (node : ℕ) × Followed state node
    followed state r f =
        let c = local_chain no_conflict none_free f.threads state f.last r f.are_local in
        let m = f.is_met in
        let met_typed = run_typed files trees accepted frames m.schedule (opening values trees) m.met (opened files trees accepted frames) m.leads in (
          m.has.0,
          record {
            threads = f.threads;
            last = f.last;
            are_alone = c.are_alone;
            kept = m.met;
            is_kept = ap (option_and_then (run trees frames)) m.has.1 ∙ m.leads;
            like = record { one_typed = c.typed_last; other_typed = met_typed; same = m.same };
          },
        )

    -- the schedule of a kept state
    schedule_of : (node : ℕ) (state : State) → graph.kept node ≡ Some state
        → (schedule : List Event) × ((slice_get schedules node ≡ Some schedule) × (run trees frames schedule ≡ Some state))
    schedule_of node state e = made_of (slice_get schedules node) (run trees frames) state e

    whole : IsWholeSearch files trees frames no_conflict graph
    whole =
        let start = followed (opening values trees) ([], refl) w.opened in
        record {
          search = record {
            accepted = accepted;
            told = λ one other t u l. refl;
            explored = record {
              reached = λ node state is. let s = schedule_of node state is in (s.0, s.1.1);
              start = start.0;
              opened = start.1;
            };
          };
          expanded = λ node state next event is e.
              let s = schedule_of node state is in
              let r = reached_next files trees accepted frames state next event (s.0, s.1.1) e in
              let f = followed next r (w.closed s.0 state next event (node, s.1.0) s.1.1 e) in
              (f.0, (refl, f.1));
        }

    listed : AreListed trees frames graph outcomes
    listed =
        record {
          listed = λ node state is q. let s = schedule_of node state is in w.listed s.0 state (node, s.1.0) s.1.1 q;
          only = λ outcome has.
              let e = w.only outcome has in
              outcome_met files trees accepted frames (passing no_conflict) (λ one other t u l c. c) graph whole.search.explored whole.expanded e.0 outcome e.1;
        }

pub own_events_alone : AreOwnEventsAlone
own_events_alone files trees accepted frames conflict state reached t own writes w o free = (
  own_alone files trees accepted frames writes state t own o conflict (reached_typed files trees accepted frames state reached) (reached_held trees frames state reached) w free,
  own_leaves files trees accepted frames writes state t own o conflict (reached_typed files trees accepted frames state reached) (reached_held trees frames state reached) w,
)

pub local_events_own : AreLocalEventsOwn
local_events_own files trees accepted frames state h t own writes e = local_own files trees accepted frames writes state h t own e

pub searches_whole : AreSearchesWhole
searches_whole files trees accepted frames schedules outcomes w =
    (whole files trees accepted frames schedules outcomes w, listed files trees accepted frames schedules outcomes w)
