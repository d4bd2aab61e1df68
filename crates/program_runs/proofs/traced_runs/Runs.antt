-- Runs of local events of a thread, one after another.
use Rattle.std.proofs.Common.{◌≡◌, ◌≤◌, ◌<◌, ◌+◌, ◌⊎◌, inl, inr, ℕ, zero, suc, List, [], ◌∷◌, ◌++◌, length, length-append, replicate, take, true, Option, Some, None, refl, sym, ap, subst, ◌∙◌, append_assoc, arith}
use Rattle.std.proofs.Math.Seq.{take-append_seam}
use Rattle.std.proofs.lemmas.List.{append-nil, length-replicate, replicate-append-replicate, take-replicate}
use Rattle.std.proofs.lemmas.Option.{same_Some}
use Rattle.model.specs.declared.event.Event.{Event}
use Rattle.model.specs.Classes.{Program}
use Rattle.model.specs.Names.{Member}
use Rattle.model.specs.Operands.{word_of}
use Rattle.model.specs.State as model
use Rattle.model.specs.State.{StackOf, StateOf}
use Rattle.model.specs.Words.{map_stack}
use Rattle.run_laws.specs.interleavings.Local.{is_local}
use Rattle.linked_code.specs.Numbers.{IsMethodAt}
use Rattle.machine.specs.declared.machine.Stopped.{Stopped}
use Rattle.machine.specs.declared.machine.Stopped.TheVariants as stopped
use Rattle.machine.specs.Machines.{MachineOf}
use Rattle.machine.specs.schedule_runs.Done.{GoesThrough, HasDone}
use Rattle.machine.proofs.schedule_runs.Joined.{IsPassed, all_done, begins, goes_on, stops}
use Rattle.traces.specs.declared.traced_events.frames.FrameBefore.{FrameBefore}
use Rattle.traces.specs.traced_events.Places.{IsSeenOf, Sees}
use Rattle.traces.specs.Lines.{fold_words}
use Rattle.program_runs.specs.traced_runs.Locals.{IsNextIn, IsNextLocal}
use Rattle.program_runs.specs.traced_runs.Telling.{AddsOne, AfterRun, AreTold, EndsAt, HasRunOn, HasTold, RunsOn, times, tried}
use Rattle.program_runs.specs.traced_runs.Traces.{AreLocal, IsFolded, IsLocalAt, StandsIn, stack_at}
use Rattle.program_runs.specs.traced_runs.Windows.{is_told}
use Rattle.program_runs.specs.declared.traced_runs.window.Window.{Window}
use Rattle.program_runs.proofs.traced_runs.Gathering.{Held, group_told, line_gathered}
use Rattle.program_runs.proofs.traced_runs.Passing.{no_times}
use Rattle.program_runs.proofs.traced_runs.Seen.{seen_at, stack_of_words}

-- ---- where a thread stands

-- words and values stand at the same places
stands_in_values : {A B : Type 0} (f : A → B) (stack : StackOf A) (method : Member) (offset : ℕ) → StandsIn (map_stack f stack) method offset → StandsIn stack method offset
stands_in_values f [] method offset s = s
stands_in_values f (model.Invocation frame ∷ stack) method offset s = s
stands_in_values f (model.Initialisation class phase ∷ stack) method offset s = s

-- a stack stands in the method of the frame that is seen
seen_in : (trees : Program) (frame : FrameBefore) (found : Option FrameBefore) (class : Option ℕ) → found ≡ Some frame → (stack : StackOf ℕ) → Sees trees found class stack
    → (own : Member) × IsMethodAt trees frame.method own × StandsIn stack own frame.offset
seen_in trees frame found class is [] s = let bad : None ≡ Some frame = sym s.0 ∙ is in cc
seen_in trees frame found class is (model.Initialisation on_top phase ∷ stack) s = let bad : None ≡ Some frame = sym s.1 ∙ is in cc
seen_in trees frame found class is (model.Invocation on_top ∷ stack) s =
    let same : s.0 ≡ frame = same_Some s.0 frame (sym s.1 ∙ is) in
    let offset : frame.offset ≡ on_top.place.offset = ap (λ (f : FrameBefore). f.offset) (sym same) ∙ s.4 in
    (on_top.method, subst (λ (f : FrameBefore). IsMethodAt trees f.method on_top.method) same s.3, (refl, sym offset))

-- before a local event
pub local_at : (trees : Program) (m : MachineOf) (files : List (List ℕ)) (done : List Event) (has : HasDone m files trees done) (t : ℕ) (frame : FrameBefore) (found : Option FrameBefore) (class : Option ℕ)
    → found ≡ Some frame → IsSeenOf m.program m.shared t found class → is_local trees has.run.lead.state t ≡ true
    → (own : Member) × IsMethodAt trees frame.method own × IsLocalAt trees m.limits.frames done t own frame.offset
local_at trees m files done has t frame found class is seen local =
    let lead = has.run.lead in
    let at = has.run.at in
    let there = seen_in trees frame found class is (stack_at at t) (seen_at trees m.program m.shared.stacks.items at.stacks t found class has.run.shown.stacks seen) in
    let words : stack_at at t ≡ map_stack word_of (stack_at lead.state t) = ap (λ (s : StateOf ℕ). stack_at s t) lead.are.are ∙ stack_of_words lead.state t in (
      there.0,
      there.1,
      record {
        state = lead.state;
        reached = lead.reached;
        local = local;
        stands = stands_in_values word_of (stack_at lead.state t) there.0 frame.offset (subst (λ (s : StackOf ℕ). StandsIn s there.0 frame.offset) words there.2);
      },
    )

-- ---- one more event of a run

module _ (trees : Program) (frames : ℕ) (window : Window) (method : Member) (event : Event) where
  local_more : (k : ℕ) (done : List Event) → AreLocal trees frames window event.thread method done (replicate k event)
      → (n : ℕ) → n ≡ length done + k → is_told window n event.thread ≡ true
      → (offset : ℕ) → IsLocalAt trees frames (done ++ replicate k event) event.thread method offset
      → AreLocal trees frames window event.thread method done (replicate (k + 1) event)
  local_more zero done so_far n is told offset here =
      let first : n ≡ length done = omega (arith, is) in
      (refl, ap (λ j. is_told window j event.thread) (sym first) ∙ told, (offset, subst (λ (d : List Event). IsLocalAt trees frames d event.thread method offset) (append-nil done) here), tt)
  local_more (suc k) done so_far n is told offset here =
      let longer : length (done ++ event ∷ []) ≡ length done + 1 = length-append done (event ∷ []) in
      let place : done ++ replicate (suc k) event ≡ (done ++ event ∷ []) ++ replicate k event = sym (append_assoc done (event ∷ []) (replicate k event)) in
      let again = local_more k (done ++ event ∷ []) so_far.3 n (omega (arith, is, longer)) told offset (subst (λ (d : List Event). IsLocalAt trees frames d event.thread method offset) place here) in
      let count : suc (k + 1) ≡ suc k + 1 = omega arith in
      subst (λ j. AreLocal trees frames window event.thread method done (replicate j event)) count (so_far.0, so_far.1, so_far.2, again)

  run_more : (k : ℕ) (done : List Event) (from to : ℕ) → HasRunOn trees frames window method done event k from to
      → (n : ℕ) → n ≡ length done + k → is_told window n event.thread ≡ true
      → (offset : ℕ) → IsLocalAt trees frames (done ++ replicate k event) event.thread method offset
      → HasRunOn trees frames window method done event (k + 1) from offset
  run_more k done from to so_far n is told offset here =
      let count : suc k ≡ k + 1 = omega arith in
      record { local = local_more k done so_far.local n is told offset here; ends = subst (λ j. EndsAt trees frames event.thread method done event j from offset) count here }

pub runs_none : (window : Window) (m : MachineOf) (number method : ℕ) (event : Event) (from : ℕ) (trees : Program) → RunsOn trees window m number method event 0 from from
runs_none window m number method event from trees own numbered files done has at = record { local = tt; ends = refl }

module _ (window : Window) (m between : MachineOf) (number method : ℕ) (event : Event) (k from to : ℕ) (passed : IsPassed (replicate k event) k m between)
    (runs : (trees : Program) → RunsOn trees window m number method event k from to) where
  pub runs_more : (n : ℕ) → n ≡ number + k → (frame : FrameBefore) → IsNextIn window between n event.thread method frame
      → (trees : Program) → RunsOn trees window m number method event (k + 1) from frame.offset
  runs_more n is frame next trees own numbered files done has at =
      let d = done ++ replicate k event in
      let then = (passed.done files trees done has).1 in
      let here = local_at trees between files d then event.thread frame (Some frame) next.class refl next.seen (next.local files trees d then) in
      let owner : here.0 ≡ own = same_Some here.0 own (sym (subst (λ j. IsMethodAt trees j here.0) next.same here.1) ∙ numbered) in
      let frames_are : between.limits.frames ≡ m.limits.frames = ap (λ (x : MachineOf). x.limits.frames) passed.same in
      let placed : IsLocalAt trees m.limits.frames d event.thread own frame.offset = subst (λ f. IsLocalAt trees f d event.thread own frame.offset) frames_are
      (subst (λ o. IsLocalAt trees between.limits.frames d event.thread o frame.offset) owner here.2)
      in
      run_more trees m.limits.frames window own event k done from to (runs trees own numbered files done has at) n (omega (arith, is, at)) next.told frame.offset placed

  -- one more is done
  pub passed_on : (why : Stopped) → why ≡ stopped.Most → (after : MachineOf) → GoesThrough (times why, why) (event ∷ []) between after
      → IsPassed (replicate (k + 1) event) (k + 1) m after
  passed_on why most after once =
      let done : GoesThrough (1, stopped.Most) (event ∷ []) between after = subst (λ w. GoesThrough (times w, w) (event ∷ []) between after) most once in
      subst (λ es. IsPassed es (k + 1) m after) (replicate-append-replicate k 1 event) (goes_on (replicate k event) k m between after passed (event ∷ []) 1 done)

  -- there are no more
  pub run_ends : GoesThrough (k, stopped.Most) (replicate (tried k stopped.Most) event) m between
  run_ends =
      let count : k ≡ tried k stopped.Most = omega arith in
      subst (λ j. GoesThrough (k, stopped.Most) (replicate j event) m between) count (all_done (replicate k event) k m between passed)

  -- or the next one is not done
  pub run_stops : (why : Stopped) → (why ≡ stopped.Most → ⊥) → (after : MachineOf) → GoesThrough (times why, why) (event ∷ []) between after
      → GoesThrough (k, why) (replicate (tried k why) event) m after
  run_stops why not_most after once =
      let count : tried k why ≡ k + 1 = omega (arith, no_times why not_most) in
      let all : replicate (tried k why) event ≡ replicate k event ++ (event ∷ [] ++ []) = ap (λ j. replicate j event) count ∙ sym (replicate-append-replicate k 1 event) in
      let none : k + times why ≡ k = omega (arith, no_times why not_most) in
      subst (λ j. GoesThrough (j, why) (replicate (tried k why) event) m after) none
      (stops (replicate k event) k m between after passed (event ∷ []) (times why) why not_most once (replicate (tried k why) event) [] all)

-- ---- a run in one line

is_folded : (trees : Program) (frames : ℕ) (window : Window) (done : List Event) (event : Event) (own : Member) (j from to : ℕ) → IsLocalAt trees frames done event.thread own from
    → is_told window (length done) event.thread ≡ true → HasRunOn trees frames window own (done ++ event ∷ []) event (suc j) from to
    → (line : List ℕ) → line ≡ fold_words window.form (length done) (suc (suc j)) event.thread own from to → IsFolded trees frames window done (replicate (suc (suc j)) event) line
is_folded trees frames window done event own j from to first told runs line is =
    let count : suc (suc j) ≡ suc j + 1 = omega arith in
    record {
      t = event.thread;
      method = own;
      local = (refl, told, (from, first), runs.local);
      from = from;
      first = first;
      front = replicate (suc j) event;
      last = event;
      events_are = ap (λ n. replicate n event) count ∙ sym (replicate-append-replicate (suc j) 1 event);
      to = to;
      ends = subst (λ (d : List Event). IsLocalAt trees frames d event.thread own to) (append_assoc done (event ∷ []) (replicate j event)) runs.ends;
      line_is = is ∙ ap (λ n. fold_words window.form (length done) n event.thread own from to) (sym (length-replicate (suc (suc j)) event));
    }

is_most : (why : Stopped) → (why ≡ stopped.Most) ⊎ (why ≡ stopped.Most → ⊥)
is_most stopped.Most = inl refl
is_most stopped.NotEnabled = inr (λ e. cc)
is_most (stopped.Refused told) = inr (λ e. cc)

-- the line of the first one is taken back
pub line_taken_back : (trees : Program) (window : Window) (m : MachineOf) (number : ℕ) (event : Event) (before between now : List ℕ) (words : Member → List ℕ) (method : ℕ)
    → AfterRun trees m number (λ done. AddsOne stopped.Most window.form trees m.limits.frames before between done event)
    → ((own : Member) → IsMethodAt trees method own → now ≡ take (length before) between ++ words own)
    → AfterRun trees m number (λ done. (own : Member) → IsMethodAt trees method own → now ≡ before ++ words own)
line_taken_back trees window m number event before between now words method adds is files done has at own numbered =
    let added = adds files done has at in
    is own numbered ∙ ap (λ (l : List ℕ). l ++ words own) (ap (take (length before)) added.1 ∙ take-append_seam before added.0)

-- behind a first event, which was done
module _ (trees : Program) (window : Window) (m mid after : MachineOf) (number : ℕ) (event : Event) (once : GoesThrough (1, stopped.Most) (event ∷ []) m mid) (k : ℕ) (why : Stopped)
    (rest : GoesThrough (k, why) (replicate (tried k why) event) mid after) where
  passed : IsPassed (event ∷ []) 1 m mid
  passed = goes_on [] 0 m m mid (begins m) (event ∷ []) 1 once

  both : replicate (tried (k + 1) why) event ≡ event ∷ [] ++ (replicate (tried k why) event ++ [])
  both =
      let count : tried (k + 1) why ≡ suc (tried k why) = omega arith in
      ap (λ j. replicate j event) count ∙ ap (λ (l : List Event). event ∷ l) (sym (append-nil (replicate (tried k why) event)))

  whole : GoesThrough (k + 1, why) (replicate (tried (k + 1) why) event) m after
  whole = by (is_most why)
    where
      by : (why ≡ stopped.Most) ⊎ (why ≡ stopped.Most → ⊥) → GoesThrough (k + 1, why) (replicate (tried (k + 1) why) event) m after
      by (inl most) =
          let all = goes_on (event ∷ []) 1 m mid after passed (replicate (tried k why) event) k (subst (λ w. GoesThrough (k, w) (replicate (tried k why) event) mid after) most rest) in
          let done : GoesThrough (1 + k, stopped.Most) (event ∷ replicate (tried k why) event) m after = all_done (event ∷ replicate (tried k why) event) (1 + k) m after all in
          let events : event ∷ replicate (tried k why) event ≡ replicate (tried (k + 1) why) event = ap (λ (l : List Event). event ∷ l) (sym (append-nil (replicate (tried k why) event))) ∙ sym both in
          let sum : 1 + k ≡ k + 1 = omega arith in
          subst (λ w. GoesThrough (k + 1, w) (replicate (tried (k + 1) why) event) m after) (sym most)
          (subst (λ n. GoesThrough (n, stopped.Most) (replicate (tried (k + 1) why) event) m after) sum (subst (λ es. GoesThrough (1 + k, stopped.Most) es m after) events done))
      by (inr not_most) =
          let sum : 1 + k ≡ k + 1 = omega arith in
          subst (λ n. GoesThrough (n, why) (replicate (tried (k + 1) why) event) m after) sum
          (stops (event ∷ []) 1 m mid after passed (replicate (tried k why) event) k why not_most rest (replicate (tried (k + 1) why) event) [] both)

  -- those that were done
  those : take (k + 1) (replicate (tried (k + 1) why) event) ≡ event ∷ replicate k event
  those =
      let within : k + 1 ≤ tried (k + 1) why = omega arith in
      let count : k + 1 ≡ suc k = omega arith in
      take-replicate (k + 1) (tried (k + 1) why) event within ∙ ap (λ j. replicate j event) count

  -- ---- there are no more: its own line is gathered

  pub alone : k ≡ 0 → (held : Held) (before now : List ℕ) → HasTold trees window m number (event ∷ []) 1 stopped.Most mid held held before now
      → HasTold trees window m number (replicate (tried (k + 1) why) event) (k + 1) why after held held before now
  alone none held before now told =
      record {
        goes = whole;
        told = λ files done has at.
            let one : event ∷ replicate k event ≡ event ∷ [] = ap (λ j. event ∷ replicate j event) none in
            subst (λ es. AreTold trees m.limits.frames window done es held held before now) (sym (those ∙ one)) (told.told files done has at);
      }

  -- ---- there are: one line is gathered for them all

  module _ (summary : window.summary ≡ true) (to_tell : is_told window number event.thread ≡ true) (local : IsNextLocal m event.thread) (from : FrameBefore) (found : Option FrameBefore) (class : Option ℕ)
      (is_found : found ≡ Some from) (seen : IsSeenOf m.program m.shared event.thread found class) (to : ℕ) (runs : RunsOn trees window mid (number + 1) from.method event k from.offset to) where
    pub together : 0 < k → (held : Held) (before now : List ℕ)
        → AfterRun trees m number (λ done. (own : Member) → IsMethodAt trees from.method own → now ≡ before ++ fold_words window.form number (k + 1) event.thread own from.offset to)
        → HasTold trees window m number (replicate (tried (k + 1) why) event) (k + 1) why after held held before now
    together some held before now line_is =
        record {
          goes = whole;
          told = λ files done has at.
              let first = local_at trees m files done has event.thread from found class is_found seen (local files trees done has) in
              let then : HasDone mid files trees (done ++ event ∷ []) = (passed.done files trees done has).1 in
              let longer : length (done ++ event ∷ []) ≡ number + 1 = length-append done (event ∷ []) ∙ ap (λ n. n + 1) at in
              let frames_are : mid.limits.frames ≡ m.limits.frames = ap (λ (x : MachineOf). x.limits.frames) passed.same in
              let run : HasRunOn trees m.limits.frames window first.0 (done ++ event ∷ []) event k from.offset to =
              subst (λ f. HasRunOn trees f window first.0 (done ++ event ∷ []) event k from.offset to) frames_are (runs first.0 first.1 files (done ++ event ∷ []) then longer)
              in
              let line = fold_words window.form number (k + 1) event.thread first.0 from.offset to in
              let folded = fold_at m.limits.frames done first.0 (ap (λ n. is_told window n event.thread) at ∙ to_tell) at first.2 k some run in
              subst (λ es. AreTold trees m.limits.frames window done es held held before now) (sym those)
              (line, group_told trees m.limits.frames window done (event ∷ replicate k event) line (inr (summary, folded)), line_gathered held before now line (line_is files done has at first.0 first.1));
        }
      where
        fold_at : (frames : ℕ) (done : List Event) (own : Member) → is_told window (length done) event.thread ≡ true → length done ≡ number → IsLocalAt trees frames done event.thread own from.offset
            → (j : ℕ) → 0 < j → HasRunOn trees frames window own (done ++ event ∷ []) event j from.offset to
            → IsFolded trees frames window done (event ∷ replicate j event) (fold_words window.form number (j + 1) event.thread own from.offset to)
        fold_at frames done own told at first zero positive run = absurd (omega arith)
        fold_at frames done own told at first (suc j) positive run =
            let count : suc j + 1 ≡ suc (suc j) = omega arith in
            is_folded trees frames window done event own j from.offset to first told run (fold_words window.form number (suc j + 1) event.thread own from.offset to)
            (ap (λ n. fold_words window.form n (suc j + 1) event.thread own from.offset to) (sym at) ∙ ap (λ n. fold_words window.form (length done) n event.thread own from.offset to) count)
