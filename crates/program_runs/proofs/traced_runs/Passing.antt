-- Events that were done and told, some after others.
use Rattle.std.proofs.Common.{◌≡◌, ◌≤◌, ◌<◌, ◌+◌, ◌-◌, ℕ, List, [], ◌∷◌, ◌++◌, length, length-append, take, replicate, true, false, Some, refl, sym, ap, subst, ◌∙◌, append_assoc, arith}
use Rattle.std.specs.Prelude.{OnErr, Result, Ok, Err}
use Rattle.std.specs.Io.KnownBytes.{Appends}
use Rattle.std.proofs.Math.Seq.{take-append-add, take-append_seam}
use Rattle.std.proofs.lemmas.List.{append-nil, replicate-append-replicate, take_all, take-append-le, take-replicate}
use Rattle.model.specs.declared.event.Event.{Event}
use Rattle.model.specs.Classes.{Program}
use Rattle.model.specs.Devices.{AppendsFront}
use Rattle.model.specs.LimitStands.{Bounds, bounds_of}
use Rattle.model.specs.Run.{run}
use Rattle.model.specs.State.{State}
use Rattle.machine.specs.declared.machine.Stopped.{Stopped}
use Rattle.machine.specs.declared.machine.Stopped.TheVariants as stopped
use Rattle.machine.specs.Machines.{MachineOf}
use Rattle.machine.specs.schedule_runs.Done.{EndsBy, GoesThrough, HasDone, HasGone, OfNext}
use Rattle.machine.proofs.schedule_runs.Joined.{IsPassed, begins, goes_on, stops, all_done}
use Rattle.listings.proofs.disasm.Writing.{none_written}
use Rattle.traces.specs.declared.form.Form.{Form}
use Rattle.program_runs.specs.traced_runs.Telling.{AddsOne, AfterRun, AreTold, Gathers, HasTold, StopsShort, times, tried}
use Rattle.program_runs.specs.traced_runs.Traces.{Tells, TellsIf}
use Rattle.program_runs.specs.traced_runs.Windows.{is_told}
use Rattle.program_runs.specs.declared.traced_runs.window.Window.{Window}
use Rattle.program_runs.proofs.traced_runs.Gathering.{Held, gathers_front, gathers_on, line_gathered, more_told, none_gathered, none_told, nothing_told, one_told}

-- ---- one event

some_left : (P : Event → Type 0) (left : List Event) → OfNext left P → 0 < length left
some_left P [] next = absurd next
some_left P (event ∷ left) next = omega arith

module _ (trees : Program) (bounds : Bounds) (state : State) (done front left : List Event) (n : ℕ) (one : length front + length left ≡ 1)
    (count : n ≡ length front) where
  counted : (why : Stopped) → EndsBy why trees bounds state done left → n ≡ times why
  counted stopped.Most ends =
      let none : length left ≡ 0 = ap length ends in
      omega arith
  counted stopped.NotEnabled ends = omega (arith, some_left _ left ends)
  counted (stopped.Refused told) ends = omega (arith, some_left _ left ends)

-- how often it was done, by why it was not done again
pub done_once : (event : Event) (n : ℕ) (why : Stopped) (old new : MachineOf) → GoesThrough (n, why) (event ∷ []) old new
    → GoesThrough (times why, why) (event ∷ []) old new
done_once event n why old new goes = (
  goes.0,
  λ files trees done has.
      let gone = goes.1 files trees done has in
      let all : 1 ≡ length gone.front + length gone.left = ap length gone.schedule_is ∙ length-append gone.front gone.left in
      subst (λ k. HasGone new files trees done (event ∷ []) k why)
      (counted trees (bounds_of new.limits) gone.done.run.lead.state (done ++ gone.front) gone.front gone.left n (sym all) gone.count why gone.ends) gone,
)

module _ (trees : Program) (window : Window) (old : MachineOf) (count : ℕ) (event : Event) where
  -- its line, where it was done and is told
  line_of : (frames : ℕ) (done : List Event) → length done ≡ count → is_told window count event.thread ≡ true → (why : Stopped)
      (held : Held) (before now : List ℕ)
      → AddsOne why window.form trees frames before now done event
      → AreTold trees frames window done (take (times why) (event ∷ [])) held held before now
  line_of frames done at told stopped.Most held before now adds =
      let here : is_told window (length done) event.thread ≡ true = ap (λ k. is_told window k event.thread) at ∙ told in (
        adds.0,
        one_told trees frames window done event adds.0 (subst (λ b. TellsIf b window.form trees frames done event adds.0) (sym here) adds.2),
        line_gathered held before now adds.0 adds.1,
      )
  line_of frames done at told stopped.NotEnabled held before now adds = ([], nothing_told trees frames window done, line_gathered held before now [] (adds ∙ sym (append-nil before)))
  line_of frames done at told (stopped.Refused refusal) held before now adds = ([], nothing_told trees frames window done, line_gathered held before now [] (adds ∙ sym (append-nil before)))

  pub line_told : (why : Stopped) (new : MachineOf) (held : Held) (before now : List ℕ) → is_told window count event.thread ≡ true
      → GoesThrough (times why, why) (event ∷ []) old new
      → (form : Form) → form ≡ window.form
      → AfterRun trees old count (λ done. AddsOne why form trees old.limits.frames before now done event)
      → HasTold trees window old count (event ∷ []) (times why) why new held held before now
  line_told why new held before now told goes form same adds =
      let here = subst (λ (f : Form). AfterRun trees old count (λ done. AddsOne why f trees old.limits.frames before now done event)) same adds in
      record { goes = goes; told = λ files done has at. line_of old.limits.frames done at told why held before now (here files done has at) }

-- ---- an event again and again that is not told

pub none_of_entry : (trees : Program) (window : Window) (event : Event) (most count n : ℕ) (why : Stopped) (old new : MachineOf) → n ≤ most
    → GoesThrough (n, why) (replicate most event) old new
    → ((k : ℕ) → count ≤ k → k < count + most → is_told window k event.thread ≡ false)
    → (held : Held) (before : List ℕ) → HasTold trees window old count (replicate most event) n why new held held before before
none_of_entry trees window event most count n why old new within goes untold held before =
    record {
      goes = goes;
      told = λ files done has at.
          let none : Tells trees old.limits.frames window done (replicate n event) [] = none_told trees old.limits.frames window n event done (λ k from to. untold k (omega arith) (omega arith)) in
          ([], subst (λ es. Tells trees old.limits.frames window done es []) (sym (take-replicate n most event within)) none, none_gathered held before);
    }

at_most_once : (why : Stopped) → times why ≤ 1
at_most_once stopped.Most = omega arith
at_most_once stopped.NotEnabled = omega arith
at_most_once (stopped.Refused told) = omega arith

-- and once
pub none_of_event : (trees : Program) (window : Window) (event : Event) (count : ℕ) (why : Stopped) (old new : MachineOf)
    → is_told window count event.thread ≡ false
    → GoesThrough (times why, why) (event ∷ []) old new → (held : Held) (before : List ℕ)
    → HasTold trees window old count (event ∷ []) (times why) why new held held before before
none_of_event trees window event count why old new untold goes held before =
    none_of_entry trees window event 1 count (times why) why old new (at_most_once why) goes (λ k from to. let same : k ≡ count = omega arith in ap (λ j. is_told window j event.thread) same ∙ untold) held before

-- ---- more of what was gathered is written

pub eased : (trees : Program) (window : Window) (m : MachineOf) (count : ℕ) (schedule : List Event) (n : ℕ) (why : Stopped)
    (after : MachineOf) (old mid new : Held) (before between now : List ℕ)
    → HasTold trees window m count schedule n why after old mid before between → Gathers mid new between now []
    → HasTold trees window m count schedule n why after old new before now
eased trees window m count schedule n why after old mid new before between now has_told more =
    record {
      goes = has_told.goes;
      told = λ files done has at.
          let told = has_told.told files done has at in
          (told.0, told.1, subst (Gathers old new before now) (append-nil told.0) (gathers_on old mid new before between now told.0 [] told.2 more));
    }

-- all of it is
pub flushed : (trees : Program) (window : Window) (m : MachineOf) (count : ℕ) (schedule : List Event) (n : ℕ) (why : Stopped)
    (after : MachineOf) (old mid new : Held) (before between : List ℕ)
    → HasTold trees window m count schedule n why after old mid before between → Appends mid new between
    → HasTold trees window m count schedule n why after old new before []
flushed trees window m count schedule n why after old mid new before between has_told written =
    eased trees window m count schedule n why after old mid new before between [] has_told (between, written, refl)

-- ---- some events after others

-- all of them were done, and their lines are gathered
pub record HasPassed (trees : Program) (window : Window) (m : MachineOf) (count : ℕ) (schedule : List Event) (n : ℕ) (after : MachineOf)
    (old new : Held) (before now : List ℕ) : Type 0 where
  pub passed : IsPassed schedule n m after
  pub told : AfterRun trees m count (λ done. AreTold trees m.limits.frames window done schedule old new before now)

pub none_yet : (trees : Program) (window : Window) (m : MachineOf) (count : ℕ) (held : Held) (before : List ℕ)
    → HasPassed trees window m count [] 0 m held held before before
none_yet trees window m count held before =
    record { passed = begins m; told = λ files done has at. ([], nothing_told trees m.limits.frames window done, none_gathered held before) }

module _ (trees : Program) (window : Window) (m : MachineOf) (count : ℕ) (schedule : List Event) (n : ℕ) (between : MachineOf)
    (old mid : Held) (before gathered : List ℕ)
    (so_far : HasPassed trees window m count schedule n between old mid before gathered) (number : ℕ) (here : number ≡ count + n) where
  same_frames : between.limits.frames ≡ m.limits.frames
  same_frames = ap (λ (x : MachineOf). x.limits.frames) so_far.passed.same

  -- the events behind them
  module _ (files : List (List ℕ)) (done : List Event) (has : HasDone m files trees done) (at : length done ≡ count) where
    passed_is : (n ≡ length schedule) × HasDone between files trees (done ++ schedule)
    passed_is = so_far.passed.done files trees done has

    behind : length (done ++ schedule) ≡ number
    behind = omega (arith, passed_is.0, at, here, length-append done schedule)

    both_told : (more : List Event) (new : Held) (now : List ℕ)
        → AreTold trees between.limits.frames window (done ++ schedule) more mid new gathered now
        → AreTold trees m.limits.frames window done (schedule ++ more) old new before now
    both_told more new now then =
        let first = so_far.told files done has at in
        let here : Tells trees m.limits.frames window (done ++ schedule) more then.0 = subst (λ frames. Tells trees frames window (done ++ schedule) more then.0) same_frames then.1 in (
          first.0 ++ then.0,
          more_told trees m.limits.frames window done schedule more first.0 then.0 first.1 here,
          gathers_on old mid new before gathered now first.0 then.0 first.2 then.2,
        )

  module _ (more : List Event) (k : ℕ) (why : Stopped) (after : MachineOf) (new : Held) (now : List ℕ) (next : HasTold trees window between number more k why after mid new gathered now) where
    within : (files : List (List ℕ)) (done : List Event) → HasDone m files trees done → k ≤ length more
    within files done has =
        let gone = next.goes.1 files trees (done ++ schedule) (so_far.passed.done files trees done has).1 in
        omega (arith, gone.count, ap length gone.schedule_is, length-append gone.front gone.left)

    -- some of them were done, and no more of all
    pub told_until : (why ≡ stopped.Most → ⊥) → (all rest : List Event) → all ≡ schedule ++ (more ++ rest)
        → HasTold trees window m count all (n + k) why after old new before now
    told_until not_most all rest is =
        record {
          goes = stops schedule n m between after so_far.passed more k why not_most next.goes all rest is;
          told = λ files done has at.
              let is_passed = passed_is files done has at in
              let those : take (n + k) all ≡ schedule ++ take k more =
              ap (take (n + k)) is
              ∙ ap (λ j. take (j + k) (schedule ++ (more ++ rest))) is_passed.0
              ∙ take-append-add schedule (more ++ rest) k
              ∙ ap (λ l. schedule ++ l) (take-append-le k more rest (within files done has))
              in
              subst (λ es. AreTold trees m.limits.frames window done es old new before now) (sym those)
              (both_told files done has at (take k more) new now (next.told files (done ++ schedule) is_passed.1 (behind files done has at)));
        }

  -- all of them were done
  pub told_on : (more : List Event) (k : ℕ) (why : Stopped) → why ≡ stopped.Most → (after : MachineOf) (new : Held) (now : List ℕ)
      → HasTold trees window between number more k why after mid new gathered now
      → HasPassed trees window m count (schedule ++ more) (n + k) after old new before now
  told_on more k why most after new now next =
      let goes = subst (λ w. GoesThrough (k, w) more between after) most next.goes in
      record {
        passed = goes_on schedule n m between after so_far.passed more k goes;
        told = λ files done has at.
            let is_passed = passed_is files done has at in
            let gone = goes.1 files trees (done ++ schedule) is_passed.1 in
            let none : length gone.left ≡ 0 = ap length gone.ends in
            let all : take k more ≡ more = take_all k more (omega (arith, gone.count, ap length gone.schedule_is, length-append gone.front gone.left, none)) in
            both_told files done has at more new now
            (subst (λ es. AreTold trees between.limits.frames window (done ++ schedule) es mid new gathered now) all (next.told files (done ++ schedule) is_passed.1 (behind files done has at)));
      }

  -- then something failed
  pub told_short : (more : List Event) (new : Held) → StopsShort trees window between number more mid new gathered
      → (all rest : List Event) → all ≡ schedule ++ (more ++ rest)
      → StopsShort trees window m count all old new before
  told_short more new next all rest is files done has at =
      let is_passed = passed_is files done has at in
      let first = so_far.told files done has at in
      let cut = next files (done ++ schedule) is_passed.1 (behind files done has at) in
      let here : Tells trees m.limits.frames window (done ++ schedule) cut.front cut.text = subst (λ frames. Tells trees frames window (done ++ schedule) cut.front cut.text) same_frames cut.told in
      record {
        front = schedule ++ cut.front;
        left = cut.left ++ rest;
        events_are = is ∙ ap (λ l. schedule ++ (l ++ rest)) cut.events_are ∙ ap (λ l. schedule ++ l) (append_assoc cut.front cut.left rest) ∙ sym (append_assoc schedule cut.front (cut.left ++ rest));
        state = cut.state;
        reached = subst (λ es. run trees m.limits.frames es ≡ Some cut.state) (append_assoc done schedule cut.front) (subst (λ frames. run trees frames ((done ++ schedule) ++ cut.front) ≡ Some cut.state) same_frames cut.reached);
        text = first.0 ++ cut.text;
        told = more_told trees m.limits.frames window done schedule cut.front first.0 cut.text first.1 here;
        written = gathers_front old mid new before gathered first.0 cut.text first.2 cut.written;
      }

-- where there are no more
pub all_told : (trees : Program) (window : Window) (m : MachineOf) (count : ℕ) (schedule : List Event) (n : ℕ) (after : MachineOf)
    (old new : Held) (before now : List ℕ)
    → HasPassed trees window m count schedule n after old new before now
    → HasTold trees window m count schedule n stopped.Most after old new before now
all_told trees window m count schedule n after old new before now so_far =
    record {
      goes = all_done schedule n m after so_far.passed;
      told = λ files done has at.
          let is_passed = so_far.passed.done files trees done has in
          let all : take n schedule ≡ schedule = take_all n schedule (omega (arith, is_passed.0)) in
          subst (λ es. AreTold trees m.limits.frames window done es old new before now) (sym all) (so_far.told files done has at);
    }

-- ---- before an error

-- what is so in any case
pub on_err : {T E P : Type 0} (r : Result T E) → P → OnErr r P
on_err (Ok value) p = tt
on_err (Err fault) p = p

-- nothing was done, and nothing is written
pub none_done : (trees : Program) (window : Window) (m : MachineOf) (count : ℕ) (schedule : List Event) (held : Held) (before : List ℕ)
    → StopsShort trees window m count schedule held held before
none_done trees window m count schedule held before files done has at =
    record {
      front = [];
      left = schedule;
      events_are = refl;
      state = has.run.lead.state;
      reached = subst (λ es. run trees m.limits.frames es ≡ Some has.run.lead.state) (sym (append-nil done)) has.run.lead.reached;
      text = [];
      told = nothing_told trees m.limits.frames window done;
      written = none_written held (before ++ []);
    }

-- all that was done is told, and the writing of what was gathered stops
pub writing_stops : (trees : Program) (window : Window) (m : MachineOf) (count : ℕ) (schedule : List Event) (n : ℕ) (why : Stopped)
    (after : MachineOf) (old mid new : Held) (before now : List ℕ)
    → HasTold trees window m count schedule n why after old mid before now → AppendsFront mid new now
    → StopsShort trees window m count schedule old new before
writing_stops trees window m count schedule n why after old mid new before now has_told front files done has at =
    let told = has_told.told files done has at in
    let gone = has_told.goes.1 files trees done has in
    let those : take n schedule ≡ gone.front =
    ap (λ k. take k schedule) gone.count ∙ ap (take (length gone.front)) gone.schedule_is ∙ take-append_seam gone.front gone.left
    in
    let frames : after.limits.frames ≡ m.limits.frames = ap (λ (x : MachineOf). x.limits.frames) has_told.goes.0 in
    let state = gone.done.run.lead.state in
    let nothing : AppendsFront mid new (now ++ []) = subst (AppendsFront mid new) (sym (append-nil now)) front in
    record {
      front = gone.front;
      left = gone.left;
      events_are = gone.schedule_is;
      state = state;
      reached = subst (λ k. run trees k (done ++ gone.front) ≡ Some state) frames gone.done.run.lead.reached;
      text = told.0;
      told = subst (λ es. Tells trees m.limits.frames window done es told.0) those told.1;
      written = subst (λ l. AppendsFront old new (before ++ l)) (append-nil told.0) (gathers_front old mid new before now told.0 [] told.2 nothing);
    }

-- ---- an event again and again

pub no_times : (why : Stopped) → (why ≡ stopped.Most → ⊥) → times why ≡ 0
no_times stopped.Most not_most = absurd (not_most refl)
no_times stopped.NotEnabled not_most = refl
no_times (stopped.Refused told) not_most = refl

-- once, as often as it was tried
pub once_tried : (trees : Program) (window : Window) (m : MachineOf) (count : ℕ) (event : Event) (why : Stopped) (after : MachineOf)
    (old new : Held) (before now : List ℕ) → HasTold trees window m count (event ∷ []) (times why) why after old new before now
    → HasTold trees window m count (replicate (tried (times why) why) event) (times why) why after old new before now
once_tried trees window m count event stopped.Most after old new before now told = told
once_tried trees window m count event stopped.NotEnabled after old new before now told = told
once_tried trees window m count event (stopped.Refused refusal) after old new before now told = told

-- and not once
pub never_done : (trees : Program) (window : Window) (m : MachineOf) (count : ℕ) (event : Event) (why : Stopped) → (why ≡ stopped.Most → ⊥)
    → (after : MachineOf) (old new : Held) (before now : List ℕ) → HasTold trees window m count (event ∷ []) (times why) why after old new before now
    → HasTold trees window m count (replicate (tried 0 why) event) 0 why after old new before now
never_done trees window m count event why not_most after old new before now told =
    subst (λ k. HasTold trees window m count (replicate (tried k why) event) k why after old new before now) (no_times why not_most)
    (once_tried trees window m count event why after old new before now told)

-- more may be left behind those that were told
pub short_of_more : (trees : Program) (window : Window) (m : MachineOf) (count : ℕ) (schedule rest all : List Event) (old new : Held) (before : List ℕ)
    → all ≡ schedule ++ rest → StopsShort trees window m count schedule old new before → StopsShort trees window m count all old new before
short_of_more trees window m count schedule rest all old new before is short files done has at =
    let cut = short files done has at in
    record {
      front = cut.front;
      left = cut.left ++ rest;
      events_are = is ∙ ap (λ l. l ++ rest) cut.events_are ∙ append_assoc cut.front cut.left rest;
      state = cut.state;
      reached = cut.reached;
      text = cut.text;
      told = cut.told;
      written = cut.written;
    }

-- of an event again and again
pub short_of_most : (trees : Program) (window : Window) (m : MachineOf) (count : ℕ) (event : Event) (k most : ℕ) → k ≤ most → (old new : Held)
    (before : List ℕ) → StopsShort trees window m count (replicate k event) old new before → StopsShort trees window m count (replicate most event) old new before
short_of_most trees window m count event k most within old new before short =
    let sum : k + (most - k) ≡ most = omega arith in
    short_of_more trees window m count (replicate k event) (replicate (most - k) event) (replicate most event) old new before
    (sym (replicate-append-replicate k (most - k) event ∙ ap (λ j. replicate j event) sum)) short

module _ (trees : Program) (window : Window) (m : MachineOf) (count : ℕ) (event : Event) (k : ℕ) (between : MachineOf)
    (old mid : Held) (before gathered : List ℕ)
    (so_far : HasPassed trees window m count (replicate k event) k between old mid before gathered) (number : ℕ) (here : number ≡ count + k) where
  split : (most n : ℕ) → k + n ≤ most → replicate most event ≡ replicate k event ++ (replicate n event ++ replicate (most - (k + n)) event)
  split most n within =
      let sum : k + (n + (most - (k + n))) ≡ most = omega arith in
      sym (ap (λ l. replicate k event ++ l) (replicate-append-replicate n (most - (k + n)) event) ∙ replicate-append-replicate k (n + (most - (k + n))) event ∙ ap (λ j. replicate j event) sum)

  pub again_on : (n : ℕ) (why : Stopped) → why ≡ stopped.Most → (after : MachineOf) (new : Held) (now : List ℕ) → HasTold trees window between number (replicate (tried n why) event) n why after mid new gathered now
      → HasPassed trees window m count (replicate (k + n) event) (k + n) after old new before now
  again_on n why most after new now next =
      let as_often : tried n stopped.Most ≡ n = omega arith in
      let more : replicate (tried n why) event ≡ replicate n event = ap (λ j. replicate j event) (ap (tried n) most ∙ as_often) in
      subst (λ es. HasPassed trees window m count es (k + n) after old new before now) (ap (λ l. replicate k event ++ l) more ∙ replicate-append-replicate k n event)
      (told_on trees window m count (replicate k event) k between old mid before gathered so_far number here (replicate (tried n why) event) n why most after new now next)

  pub again_until : (most n : ℕ) (why : Stopped) → k + tried n why ≤ most → (why ≡ stopped.Most → ⊥) → (after : MachineOf) (new : Held) (now : List ℕ)
      → HasTold trees window between number (replicate (tried n why) event) n why after mid new gathered now
      → HasTold trees window m count (replicate most event) (k + n) why after old new before now
  again_until most n why within not_most after new now next =
      told_until trees window m count (replicate k event) k between old mid before gathered so_far number here (replicate (tried n why) event) n why after new now next not_most (replicate most event)
      (replicate (most - (k + tried n why)) event) (split most (tried n why) within)

  pub again_short : (most left : ℕ) → k + left ≤ most → (new : Held) → StopsShort trees window between number (replicate left event) mid new gathered → StopsShort trees window m count (replicate most event) old new before
  again_short most left within new next =
      told_short trees window m count (replicate k event) k between old mid before gathered so_far number here (replicate left event) new next (replicate most event) (replicate (most - (k + left)) event) (split most left within)
