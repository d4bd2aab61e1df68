-- How each thread stands, and whether a state is quiet, by its words.
use Rattle.std.proofs.Common.{◌≡◌, ℕ, zero, suc, ◌+◌, List, [], ◌∷◌, map, length, Bool, true, false, not, ◌&&◌, if◌then◌else◌, Option, Some, None, option_map, refl, sym, ap, ◌∙◌, subst, arith}
use Rattle.std.specs.Prelude.{slice_get, slice_index_or}
use Rattle.std.specs.Option.{option_and_then, option_map_or}
use Rattle.std.specs.List.{list_all}
use Rattle.std.proofs.lemmas.Bool.{true≢false}
use Rattle.std.proofs.lemmas.Option.{get_or_from_slice_get, slice_get-map}
use Rattle.model.specs.declared.event.Event.{Event}
use Rattle.model.specs.declared.end.End.{End}
use Rattle.model.specs.declared.class_file.ExceptionEntry.{ExceptionEntry}
use Rattle.model.specs.declared.value.Value.{Value}
use Rattle.model.specs.Classes.{Program, Body, body_of}
use Rattle.model.specs.ReferenceTypes.{ReferenceType}
use Rattle.model.specs.Operands.{words, values}
use Rattle.model.specs.Rows.{counting}
use Rattle.model.specs.State as state
use Rattle.model.specs.State.{ObjectOf, Instance, Primitives, References, types_of, Frame, Invocation, Initialisation, StackOf, Thread, ThreadStatus, World, State, StateOf, Characters}
use Rattle.model.specs.Worlds.{no_thread, thread_at, is_owner, with_exit}
use Rattle.model.specs.Sites.{Site, site_at}
use Rattle.model.specs.Step.{SteppedOf, NotEnabled, WrongKind, Next, PartOf, on_to, raised, settled, leaving, handler_in, unwound, going_event, thread_event, with_part, event_of, stepped, is_enabled_by, is_enabled}
use Rattle.model.specs.Outcomes.{IllegalMonitorState}
use Rattle.model.specs.Report.{ThreadEnd, Threw, Blocked, Runnable, report_text}
use Rattle.model.specs.Run.{run, may_step, is_quiet}
use Rattle.model.specs.Meaning.{class_name_in, ended_by, site_end, frame_end, held_end, thread_end, ends_from, thread_ends, meaning}
use Rattle.model.specs.WellTyped.{IsStackTyped, IsThreadTyped, IsRunning, IsWellTyped}
use Rattle.model.specs.Words.{words_of, AreWordsOf}
use Rattle.run_laws.specs.word_runs.Words.{map_stepped, IsCarried}
use Rattle.run_laws.specs.laws.Steps.{Rooted}
use Rattle.run_laws.proofs.laws.Answered.{thread_of_stack}
use Rattle.run_laws.proofs.laws.WordLists.{map_index}
use Rattle.run_laws.proofs.word_runs.WordWorlds.{object_words, world_words}
use Rattle.run_laws.proofs.word_runs.WordEvents.{stack_words}
use Rattle.run_laws.specs.word_reports.Reports.{is_enabled_of, may_step_of, is_quiet_of, site_end_of, frame_end_of, held_end_of, thread_end_of, ends_from_of, thread_ends_of, IsReportedAs, AreReportsOfValues}
use Rattle.run_laws.proofs.word_reports.Held.{held_words}

-- ---- over values

report_at : (files : Program) (frames : ℕ) (s : State) (events : List Event) (end : End) → run files frames events ≡ Some s
    → meaning files frames events end ≡ Some (report_text s.world.printed (thread_ends files frames s) (length events) end)
report_at files frames s events end e = ap (option_map (λ (x : State). report_text x.world.printed (thread_ends files frames x) (length events) end)) e

module _ (files : Program) (frames : ℕ) (s : State) where
  thread_end_same : (t : ℕ) (status : ThreadStatus) → thread_end_of values files frames s t status ≡ thread_end files frames s t status
  thread_end_same t state.Running = ap (λ x. if may_step files frames s t then Runnable else x) (held_same (slice_index_or s.stacks t []))
    where
      held_same : (stack : StackOf Value) → held_end_of values files s.world t stack ≡ held_end files s.world t stack
      held_same [] = refl
      held_same (Invocation frame ∷ stack) = frame_same (body_of files frame.method)
        where
          site_same : (o : Option Site) → site_end_of values files s.world t frame o ≡ site_end files s.world t frame o
          site_same None = refl
          site_same (Some site) = refl

          frame_same : (o : Option Body) → frame_end_of values files s.world t frame o ≡ frame_end files s.world t frame o
          frame_same None = refl
          frame_same (Some body) = site_same (site_at frame.method body frame.place.offset)
      held_same (Initialisation class phase ∷ stack) = refl
  thread_end_same t (state.Waiting object count) = refl
  thread_end_same t (state.Relock object count cause) = refl
  thread_end_same t (state.Ended exception) = refl

  ends_same : (t : ℕ) (threads : List Thread) → ends_from_of values files frames s t threads ≡ ends_from files frames s t threads
  ends_same t [] = refl
  ends_same t (thread ∷ threads) = λ i. thread_end_same t thread.status i ∷ ends_same (suc t) threads i

  values_ends : thread_ends_of values files frames s ≡ thread_ends files frames s
  values_ends = ends_same 0 s.world.threads

pub values_reported : AreReportsOfValues
values_reported files frames s =
    record {
      enabled = λ event. refl;
      may = λ t. refl;
      quiet = refl;
      ends = values_ends files frames s;
      report = λ events end e. report_at files frames s events end e ∙ ap (λ l. Some (report_text s.world.printed l (length events) end)) (sym (values_ends files frames s));
    }

-- ---- an exception over a frame

back_enabled : (s : State) (t : ℕ) (x : SteppedOf (PartOf Value)) → is_enabled_by (with_part s t x) ≡ is_enabled_by x
back_enabled s t NotEnabled = refl
back_enabled s t WrongKind = refl
back_enabled s t (Next cost p) = refl

settled_enabled : (t : ℕ) (x : SteppedOf (PartOf Value)) → is_enabled_by (settled t x) ≡ is_enabled_by x
settled_enabled t NotEnabled = refl
settled_enabled t WrongKind = refl
settled_enabled t (Next cost p) = refl

leaving_enabled : (files : Program) (t : ℕ) (o : Option ℕ) (world : World) (rest stack : StackOf Value) → is_enabled_by (leaving values files t o world rest stack) ≡ true
leaving_enabled files t None world rest stack = refl
leaving_enabled files t (Some object) world rest stack = by (is_owner world t object)
  where
    by : (b : Bool) → is_enabled_by (if b then on_to (with_exit world t object) rest else raised values files t IllegalMonitorState world stack) ≡ true
    by true = refl
    by false = refl

unwound_enabled : (files : Program) (t exception : ℕ) (world : World) (frame : Frame) (stack : StackOf Value) (o : Option ExceptionEntry)
    → is_enabled_by (unwound values files t exception world frame stack o) ≡ true
unwound_enabled files t exception world frame stack None = leaving_enabled files t frame.entered world stack stack
unwound_enabled files t exception world frame stack (Some entry) = refl

stepped_enabled : (x : SteppedOf State) → is_enabled_by (map_stepped words_of x) ≡ is_enabled_by x
stepped_enabled NotEnabled = refl
stepped_enabled WrongKind = refl
stepped_enabled (Next cost next) = refl

module _ (files : Program) (frames : ℕ) (s : State) (t : ℕ) where
  -- a thread with an exception over a frame may step
  throws_on : (exception : ℕ) (frame : Frame) (rest : StackOf Value) → slice_get s.stacks t ≡ Some (Invocation frame ∷ rest)
      → (thread_at s.world t).status ≡ state.Running → (thread_at s.world t).pending ≡ Some exception → may_step files frames s t ≡ true
  throws_on exception frame rest q runs pending =
      let event : Event = record { thread = t; pick = 0 } in
      let stack : StackOf Value = Invocation frame ∷ rest in
      let thrown : Option ReferenceType = slice_get (types_of s.world.heap) exception in
      ap (λ o. is_enabled_by (event_of values files frames s event o)) q
      ∙ (back_enabled s t (settled t (thread_event values files frames event s.world stack (thread_at s.world t).status))
      ∙ (settled_enabled t (thread_event values files frames event s.world stack (thread_at s.world t).status)
      ∙ (ap (λ x. is_enabled_by (thread_event values files frames event s.world stack x)) runs
      ∙ (ap (λ o. is_enabled_by (going_event values files frames event s.world stack o)) pending
      ∙ unwound_enabled files t exception s.world frame rest (option_and_then (handler_in files frame.place.offset thrown) (body_of files frame.method))))))

-- ---- lists

none_there : {A : Type 0} (xs : List A) (k : ℕ) (d : A) → slice_get xs k ≡ None → slice_index_or xs k d ≡ d
none_there [] k d e = refl
none_there (x ∷ xs) zero d e = absurd cc
none_there (x ∷ xs) (suc k) d e = none_there xs k d e

either_end : (b : Bool) (x y : ThreadEnd) → (b ≡ false → x ≡ y) → (if b then Runnable else x) ≡ (if b then Runnable else y)
either_end true x y h = refl
either_end false x y h = h refl

-- ---- over words

module _ (files : Program) (rooted : Rooted files) (carries : IsCarried files) (frames : ℕ) (s : State) (typed : IsWellTyped files s) where
  enabled_words : (event : Event) → is_enabled_of words files frames (words_of s) event ≡ is_enabled files frames s event
  enabled_words event = ap is_enabled_by (carries frames s event typed) ∙ stepped_enabled (stepped values files frames s event)

  may_words : (t : ℕ) → may_step_of words files frames (words_of s) t ≡ may_step files frames s t
  may_words t = enabled_words (record { thread = t; pick = 0 })

  quiet_words : is_quiet_of words files frames (words_of s) ≡ is_quiet files frames s
  quiet_words = all_same (counting 0 (length s.world.threads))
    where
      all_same : (ts : List ℕ) → list_all (λ t. not (may_step_of words files frames (words_of s) t)) ts
          ≡ list_all (λ t. not (may_step files frames s t)) ts
      all_same [] = refl
      all_same (t ∷ ts) = λ i. not (may_words t i) && all_same ts i

  -- ---- a thread

  module _ (t : ℕ) (thread : Thread) (there : slice_get s.world.threads t ≡ Some thread) where
    is_there : thread_at s.world t ≡ thread
    is_there = get_or_from_slice_get s.world.threads t thread no_thread there

    abbrev HeldSame : StackOf Value → Type 0
    HeldSame stack = held_end_of words files (world_words s.world) t (stack_words stack) ≡ held_end_of values files s.world t stack

    held_on : thread.status ≡ state.Running → may_step files frames s t ≡ false → (stack : StackOf Value)
        → slice_get s.stacks t ≡ Some stack → HeldSame stack
    held_on runs held stack q =
        let os = types_of s.world.heap in
        let on = subst (λ (x : Thread). IsThreadTyped files os x stack) is_there (thread_of_stack files os s.world.threads s.stacks t stack typed.threads q) in
        let runs_on : IsRunning files os thread.pending stack = subst (λ x. IsStackTyped files os thread.pending stack x) runs on.stack_typed in
        held_words files s.world t rooted stack thread.pending runs_on
        (λ exception frame rest p is.
        true≢false
        (sym (throws_on files frames s t exception frame rest (q ∙ ap (λ x. Some x) is) (ap (λ (x : Thread). x.status) is_there ∙ runs) (ap (λ (x : Thread). x.pending) is_there ∙ p)) ∙ held))

    held_at : thread.status ≡ state.Running → may_step files frames s t ≡ false → (o : Option (StackOf Value)) → slice_get s.stacks t ≡ o
        → HeldSame (slice_index_or s.stacks t [])
    held_at runs held None q = subst HeldSame (sym (none_there s.stacks t [] q)) refl
    held_at runs held (Some stack) q = subst HeldSame (sym (get_or_from_slice_get s.stacks t stack [] q)) (held_on runs held stack q)

    ended_words : (o : Option ℕ) → ended_by (world_words s.world) o ≡ ended_by s.world o
    ended_words None = refl
    ended_words (Some exception) =
        ap (λ o. Threw (option_map_or class_name_in o [])) (slice_get-map object_words s.world.heap exception) ∙ by (slice_get s.world.heap exception)
      where
        class_same : (object : ObjectOf Value) → class_name_in (object_words object) ≡ class_name_in object
        class_same (Instance class fields) = refl
        class_same (Primitives of elements) = refl
        class_same (References of elements) = refl
        class_same (Characters text) = refl

        by : (o : Option (ObjectOf Value)) → Threw (option_map_or class_name_in (option_map object_words o) [])
            ≡ Threw (option_map_or class_name_in o [])
        by None = refl
        by (Some object) = ap Threw (class_same object)

    end_words : (status : ThreadStatus) → thread.status ≡ status
        → thread_end_of words files frames (words_of s) t status ≡ thread_end_of values files frames s t status
    end_words state.Running e =
        ap (λ b. if b then Runnable else held_end_of words files (world_words s.world) t (slice_index_or (map stack_words s.stacks) t [])) (may_words t)
        ∙ (ap (λ l. if may_step files frames s t then Runnable else held_end_of words files (world_words s.world) t l) (map_index stack_words s.stacks t [])
        ∙ either_end (may_step files frames s t) _ _ (λ held. held_at e held (slice_get s.stacks t) refl))
    end_words (state.Waiting object count) e = refl
    end_words (state.Relock object count cause) e = ap (λ b. if b then Runnable else Blocked) (may_words t)
    end_words (state.Ended exception) e = ended_words exception

  -- ---- all threads

  ends_words : (t : ℕ) (threads : List Thread)
      → ((k : ℕ) (thread : Thread) → slice_get threads k ≡ Some thread
      → thread_end_of words files frames (words_of s) (t + k) thread.status ≡ thread_end_of values files frames s (t + k) thread.status)
      → ends_from_of words files frames (words_of s) t threads ≡ ends_from_of values files frames s t threads
  ends_words t [] h = refl
  ends_words t (thread ∷ threads) h =
      let first : thread_end_of words files frames (words_of s) t thread.status ≡ thread_end_of values files frames s t thread.status =
      subst (λ n. thread_end_of words files frames (words_of s) n thread.status ≡ thread_end_of values files frames s n thread.status) (omega arith) (h 0 thread refl)
      in
      let others = ends_words (suc t) threads (λ k x e. subst (λ n. thread_end_of words files frames (words_of s) n x.status ≡ thread_end_of values files frames s n x.status) (omega arith) (h (suc k) x e)) in
      λ i. first i ∷ others i

  all_ends : thread_ends_of words files frames (words_of s) ≡ thread_ends files frames s
  all_ends =
      ends_words 0 s.world.threads (λ k thread e. subst (λ n. thread_end_of words files frames (words_of s) n thread.status ≡ thread_end_of values files frames s n thread.status) (omega arith) (end_words k thread e thread.status refl))
      ∙ values_ends files frames s

  words_reported : IsReportedAs words files frames (words_of s) s
  words_reported =
      record {
        enabled = enabled_words;
        may = may_words;
        quiet = quiet_words;
        ends = all_ends;
        report = λ events end e. report_at files frames s events end e ∙ ap (λ l. Some (report_text s.world.printed l (length events) end)) (sym all_ends);
      }

pub reported : (files : Program) → Rooted files → IsCarried files → (frames : ℕ) (s : StateOf ℕ) (of : State) → AreWordsOf files s of
    → IsReportedAs words files frames s of
reported files rooted carries frames s of h =
    subst (λ (x : StateOf ℕ). IsReportedAs words files frames x of) (sym h.are) (words_reported files rooted carries frames of h.typed)
