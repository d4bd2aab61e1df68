-- A thread that has ended by an exception stays so; and one that is stuck.
use Rattle.std.proofs.Common.{◌≡◌, ℕ, zero, suc, ◌+◌, List, [], ◌∷◌, Bool, true, false, ◌==◌, if◌then◌else◌, Option, Some, None, option_map, refl, sym, ap, ◌∙◌, subst, arith}
use Rattle.std.specs.Prelude.{slice_get, slice_index_or}
use Rattle.std.specs.Option.{option_map_or}
use Rattle.std.proofs.lemmas.Bool.{false≢true, eqb-true}
use Rattle.std.proofs.lemmas.Option.{same_Some, get_or_from_slice_get, slice_get-map}
use Rattle.model.specs.declared.event.Event.{Event}
use Rattle.model.specs.declared.instr.Instr.{Instr}
use Rattle.model.specs.declared.instr.Instr.TheVariants as instr
use Rattle.model.specs.declared.value.Value.{Value}
use Rattle.model.specs.Accepted.{IsAccepted}
use Rattle.model.specs.Classes.{Program, Body, body_of}
use Rattle.model.specs.ClassInitialisation.{look_at, is_held}
use Rattle.model.specs.Meaning.{class_name_in, waiting_at, instruction_end, site_end, frame_end, begin_class, held_end, thread_end, ends_from}
use Rattle.model.specs.Meanings.{MeaningOf, Site, site_at, meaning_of}
use Rattle.model.specs.Names.{Name, java_lang_throwable}
use Rattle.model.specs.Opening.{opening}
use Rattle.model.specs.Operands.{values}
use Rattle.model.specs.ReferenceTypes.{ReferenceType, ClassType}
use Rattle.model.specs.Outcomes.{Cost}
use Rattle.model.specs.Report.{ThreadEnd, Threw, Blocked, Waiting, Joining, Initialising, Runnable}
use Rattle.model.specs.Report as report
use Rattle.model.specs.Run.{run_from, may_step}
use Rattle.model.specs.State as state
use Rattle.model.specs.State.{ObjectOf, Instance, Primitives, References, type_of, types_of, Frame, Invocation, Initialisation, StackOf, Thread, ThreadStatus, World, State, StateOf, Characters}
use Rattle.model.specs.Step.{NotEnabled, Next, PartOf, stepped, step, ops_of, thread_event}
use Rattle.model.specs.Types.{is_object_below}
use Rattle.model.specs.WellTyped.{IsWellTyped}
use Rattle.model.specs.Worlds.{thread_at, no_thread, has_ended}
use Rattle.run_laws.specs.interleavings.Ends.{Outcome}
use Rattle.run_laws.proofs.interleavings.Reduction.{opened}
use Rattle.run_laws.proofs.soundness.Sound.{links, instructs}
use Rattle.run_laws.proofs.typed_runs.Changes.{Moved, Same, Wakes}
use Rattle.run_laws.proofs.typed_threads.Ends.{EndsBy, Ending, step_ends}
use Rattle.search_laws.specs.Alone.{HaveSameWords, passing}
use Rattle.search_laws.specs.Ends.{HasThrown, AreExceptionsMet, IsStuck, AreStuckMet}
use Rattle.search_laws.specs.KeptStates.{IsReached}
use Rattle.search_laws.proofs.Events.{done_of, changed, still}
use Rattle.search_laws.proofs.Runs.{first_of, begun, matched}
use Rattle.search_laws.proofs.SameWords.{answer_of, typed, bisimilar}
use Rattle.search_laws.proofs.Verdicts.{reached_typed, alike, lasting_met}

-- ---- how threads stand

abbrev is_threw : ThreadEnd → Bool
is_threw report.Ended = false
is_threw (Threw class) = true
is_threw Blocked = false
is_threw Waiting = false
is_threw Joining = false
is_threw Initialising = false
is_threw Runnable = false

either : (b : Bool) (x y : ThreadEnd) → is_threw x ≡ false → is_threw y ≡ false → is_threw (if b then x else y) ≡ false
either true x y p q = p
either false x y p q = q

waiting_not : (i : Instr) → is_threw (waiting_at i) ≡ false
waiting_not instr.MonitorEnter = refl
waiting_not other = refl

module _ (files : Program) (world : World) (t : ℕ) where
  site_not : (frame : Frame) (o : Option Site) → is_threw (site_end files world t frame o) ≡ false
  site_not frame None = refl
  site_not frame (Some site) = by (meaning_of values files site)
    where
      by : (o : Option (MeaningOf Value)) → is_threw (option_map_or (instruction_end world t frame site) o Blocked) ≡ false
      by None = refl
      by (Some meaning) =
          let may = meaning.may (record { thread = t; pick = 0 }) world (ops_of values meaning frame.place.slots) in
          either (is_held (look_at t world meaning.looks)) Initialising (if may then Blocked else waiting_at site.instr) refl
          (either may Blocked (waiting_at site.instr) refl (waiting_not site.instr))

  frame_not : (frame : Frame) (o : Option Body) → is_threw (frame_end files world t frame o) ≡ false
  frame_not frame None = refl
  frame_not frame (Some body) = site_not frame (site_at frame.method body frame.place.offset)

  held_not : (stack : StackOf Value) → is_threw (held_end files world t stack) ≡ false
  held_not [] = either (is_held (look_at t world (begin_class files t))) Initialising Blocked refl refl
  held_not (Invocation frame ∷ stack) = frame_not frame (body_of files frame.method)
  held_not (Initialisation class phase ∷ stack) = refl

not_thrown : (x : ThreadEnd) (class : Name) → is_threw x ≡ false → x ≡ Threw class → ⊥
not_thrown x class n e = false≢true (sym n ∙ ap is_threw e)

threw_inv : (a b : Name) → Threw a ≡ Threw b → a ≡ b
threw_inv a b e = cc

-- the class of the object with which a thread ended
abbrev pub class_at : World → ℕ → Name
class_at world exception = option_map_or class_name_in (slice_get world.heap exception) []

-- a thread that has thrown
pub record Thrown (status : ThreadStatus) (world : World) (class : Name) : Type 0 where
  pub exception : ℕ
  pub status_is : status ≡ state.Ended (Some exception)
  pub class_is : class_at world exception ≡ class

module _ (files : Program) (frames : ℕ) (s : State) where
  pub thrown_of : (t : ℕ) (status : ThreadStatus) (class : Name) → thread_end files frames s t status ≡ Threw class
      → Thrown status s.world class
  thrown_of t state.Running class e =
      let held = held_end files s.world t (slice_index_or s.stacks t []) in
      absurd (not_thrown (if may_step files frames s t then Runnable else held) class (either (may_step files frames s t) Runnable held refl (held_not files s.world t (slice_index_or s.stacks t []))) e)
  thrown_of t (state.Waiting object count) class e = absurd (not_thrown Waiting class refl e)
  thrown_of t (state.Relock object count cause) class e =
      absurd (not_thrown (if may_step files frames s t then Runnable else Blocked) class (either (may_step files frames s t) Runnable Blocked refl refl) e)
  thrown_of t (state.Ended None) class e = absurd (not_thrown report.Ended class refl e)
  thrown_of t (state.Ended (Some exception)) class e =
      record { exception = exception; status_is = refl; class_is = threw_inv (class_at s.world exception) class e }

  pub end_at : (k : ℕ) (threads : List Thread) (i : ℕ) (x : ThreadEnd) → slice_get (ends_from files frames s k threads) i ≡ Some x
      → (thread : Thread) × ((slice_get threads i ≡ Some thread) × (thread_end files frames s (k + i) thread.status ≡ x))
  end_at k [] i x e = absurd cc
  end_at k (thread ∷ threads) zero x e =
      let zeros : k ≡ k + 0 = omega arith in
      (thread, (refl, subst (λ n. thread_end files frames s n thread.status ≡ x) zeros (same_Some (thread_end files frames s k thread.status) x e)))
  end_at k (thread ∷ threads) (suc i) x e =
      let r = end_at (suc k) threads i x e in
      let more : suc k + i ≡ k + suc i = omega arith in
      (r.0, (r.1.0, subst (λ n. thread_end files frames s n (r.0).status ≡ x) more r.1.1))

  pub at_end : (k : ℕ) (threads : List Thread) (i : ℕ) (thread : Thread) → slice_get threads i ≡ Some thread
      → slice_get (ends_from files frames s k threads) i ≡ Some (thread_end files frames s (k + i) thread.status)
  at_end k [] i thread e = absurd cc
  at_end k (first ∷ threads) zero thread e =
      let zeros : k ≡ k + 0 = omega arith in
      let same = same_Some first thread e in
      ap (λ n. Some (thread_end files frames s n first.status)) zeros ∙ ap (λ (th : Thread). Some (thread_end files frames s (k + 0) th.status)) same
  at_end k (first ∷ threads) (suc i) thread e =
      let more : suc k + i ≡ k + suc i = omega arith in
      at_end (suc k) threads i thread e ∙ ap (λ n. Some (thread_end files frames s n thread.status)) more

-- ---- the object stays

abbrev type_name : ReferenceType → Name
type_name (ClassType class) = class
type_name other = []

name_by_type : (o : Option (ObjectOf Value)) → option_map_or class_name_in o [] ≡ option_map_or type_name (option_map type_of o) []
name_by_type None = refl
name_by_type (Some (Instance class fields)) = refl
name_by_type (Some (Primitives of elements)) = refl
name_by_type (Some (References of elements)) = refl
name_by_type (Some (Characters text)) = refl

class_by_type : (world : World) (r : ℕ) (type : ReferenceType) → slice_get (types_of world.heap) r ≡ Some type → class_at world r ≡ type_name type
class_by_type world r type e =
    name_by_type (slice_get world.heap r) ∙ (ap (λ o. option_map_or type_name o []) (sym (slice_get-map type_of world.heap r)) ∙ ap (λ o. option_map_or type_name o []) e)

type_there : (files : Program) (class : Name) (o : Option ReferenceType) → is_object_below files (ClassType class) o ≡ true
    → (type : ReferenceType) × (o ≡ Some type)
type_there files class None e = absurd (false≢true e)
type_there files class (Some type) e = (type, refl)

no_wait : (x : Option ℕ) (object count : ℕ) → state.Ended x ≡ state.Waiting object count → ⊥
no_wait x object count e = absurd cc

moved_end : (before after : ThreadStatus) (x : Option ℕ) → Moved before after → before ≡ state.Ended x → after ≡ state.Ended x
moved_end before after x (Same e) is = e ∙ is
moved_end before after x (Wakes o n k c was now) is = absurd (no_wait x o n (sym is ∙ was))

moved_alive : (before after : ThreadStatus) → Moved before after → has_ended before ≡ false → has_ended after ≡ false
moved_alive before after (Same e) is = ap has_ended e ∙ is
moved_alive before after (Wakes o n k c was now) is = ap has_ended now

none_ended : (t : ℕ) (thread first : Thread) (exception : ℕ) → first.status ≡ state.Running → slice_get (first ∷ []) t ≡ Some thread
    → thread.status ≡ state.Ended (Some exception) → ⊥
none_ended zero thread first exception runs e is = absurd cc
none_ended (suc t) thread first exception runs e is = absurd cc

not_next : (cost : Cost) (left : PartOf Value) → NotEnabled ≡ Next cost left → ⊥
not_next cost left e = absurd cc

module _ (files : List (List ℕ)) (trees : Program) (accepted : IsAccepted files trees) (frames : ℕ) where
  -- the exceptions with which threads have ended are there
  abbrev Ends : State → Type 0
  Ends s = (u : ℕ) → EndsBy trees s.world u

  ends_run : (events : List Event) (s last : State) → IsWellTyped trees s → Ends s → run_from trees frames s events ≡ Some last → Ends last
  ends_run [] s last h ends r = subst Ends (same_Some s last r) ends
  ends_run (event ∷ events) s last h ends r =
      let f = first_of trees frames s last event events r in
      let x = answer_of (stepped values trees frames s event) f.0 f.1.0 in
      let kept = subst (Ending trees) x.1 (step_ends trees (links files trees accepted) accepted.typed (instructs files trees accepted) frames s h ends event) in
      ends_run events f.0 last (typed files trees accepted frames s f.0 event h f.1.0) kept f.1.1

  reached_ends : (s : State) → IsReached trees frames s → Ends s
  reached_ends s r =
      ends_run r.0 (opening values trees) s (opened files trees accepted frames)
      (λ u thread exception there ended. absurd (none_ended u thread (thread_at (opening values trees).world 0) exception refl there ended)) r.1

  module _ (s next : State) (event : Event) (r : IsReached trees frames s) (e : step trees frames s event ≡ Some next) where
    h : IsWellTyped trees s
    h = reached_typed files trees accepted frames s r

    -- a thread that has ended has no event
    no_event : (thread : Thread) (x : Option ℕ) → slice_get s.world.threads event.thread ≡ Some thread → thread.status ≡ state.Ended x → ⊥
    no_event thread x there is =
        let d = done_of trees frames s event next e in
        let status = ap (λ (th : Thread). th.status) (get_or_from_slice_get s.world.threads event.thread thread no_thread there) ∙ is in
        let none = sym (ap (λ k. thread_event values trees frames event s.world d.stack k) status) ∙ d.did in
        absurd (not_next d.cost d.left none)

    thrown_after : (t : ℕ) (class : Name) (thread : Thread) → slice_get s.world.threads t ≡ Some thread → Thrown thread.status s.world class
        → (b : Bool) → (t == event.thread) ≡ b → HasThrown trees frames t class next
    thrown_after t class thread there x true q =
        let same = eqb-true t event.thread q in
        absurd (no_event thread (Some x.exception) (subst (λ u. slice_get s.world.threads u ≡ Some thread) same there) x.status_is)
    thrown_after t class thread there x false q =
        let k = still files trees accepted frames s h event next e t thread there in
        let is = moved_end thread.status (k.thread).status (Some x.exception) (k.kept q).status x.status_is in
        let throwable = reached_ends s r t thread x.exception there x.status_is in
        let type = type_there trees java_lang_throwable (slice_get (types_of s.world.heap) x.exception) throwable in
        let c = changed files trees accepted frames s h event next e in
        let same_class = class_by_type next.world x.exception type.0 (c.extends.keeps x.exception type.0 type.1) ∙ (sym (class_by_type s.world x.exception type.0 type.1) ∙ x.class_is) in
        at_end trees frames next 0 next.world.threads t k.thread k.there
        ∙ (ap (λ z. Some (thread_end trees frames next (0 + t) z)) is
        ∙ ap (λ z. Some (Threw z)) same_class)

    thrown_lasts : (t : ℕ) (class : Name) → HasThrown trees frames t class s → HasThrown trees frames t class next
    thrown_lasts t class thrown =
        let x = end_at trees frames s 0 s.world.threads t (Threw class) thrown in
        thrown_after t class x.0 x.1.0 (thrown_of trees frames s (0 + t) (x.0).status class x.1.1) (t == event.thread) refl

    stuck_after : (t : ℕ) → (x : IsStuck trees frames t s) → (b : Bool) → (t == event.thread) ≡ b → IsStuck trees frames t next
    stuck_after t x true q =
        let same = eqb-true t event.thread q in
        absurd (x.stays [] s next event.pick refl (subst (λ u. step trees frames s (record { thread = u; pick = event.pick }) ≡ Some next) (sym same) e))
    stuck_after t x false q =
        let k = still files trees accepted frames s h event next e t x.thread x.there in
        record {
          thread = k.thread;
          there = k.there;
          lives = moved_alive x.thread.status (k.thread).status (k.kept q).status x.lives;
          stays = λ events later after pick run goes.
              x.stays (event ∷ events) later after pick (begun trees frames s next later event events e run) goes;
        }

  stuck_alike : (one other : State) (t : ℕ) → HaveSameWords trees one other → IsStuck trees frames t one → IsStuck trees frames t other
  stuck_alike one other t l x =
      let b = bisimilar files trees accepted frames (λ s u v. false) (λ p q u v k. refl) in
      let none = passing (λ s u v. false) in
      record {
        thread = x.thread;
        there = ap (λ (w : StateOf ℕ). slice_get w.world.threads t) l.same ∙ x.there;
        lives = x.lives;
        stays = λ events later after pick run goes.
            let m = matched trees frames none (HaveSameWords trees) b events other one later (b.symmetric one other l) run in
            let s = b.steps later m.0 after (record { thread = t; pick = pick }) m.1.1 goes in
            x.stays events m.0 s.0 pick m.1.0 s.1.0;
      }

pub exceptions_met : AreExceptionsMet
exceptions_met files trees frames conflict graph w s t class r thrown =
    let accepted = w.search.accepted in
    let b = bisimilar files trees accepted frames conflict w.search.told in
    lasting_met files trees accepted frames (passing conflict) (alike files trees frames conflict graph w.search) graph w.search.explored w.expanded
    (HasThrown trees frames t class)
    (λ one other l x. ap (λ (o : Outcome). slice_get o.ends t) (b.outcome one other l) ∙ x)
    (λ z first v reached free goes x. thrown_lasts files trees accepted frames z first (record { thread = v; pick = 0 }) reached goes t class x)
    s r thrown

pub stuck_met : AreStuckMet
stuck_met files trees frames conflict graph w s t r stuck =
    let accepted = w.search.accepted in
    lasting_met files trees accepted frames (passing conflict) (alike files trees frames conflict graph w.search) graph w.search.explored w.expanded
    (IsStuck trees frames t)
    (λ one other l x. stuck_alike files trees accepted frames one other t l x)
    (λ z first v reached free goes x. stuck_after files trees accepted frames z first (record { thread = v; pick = 0 }) reached goes t x (t == v) refl)
    s r stuck
