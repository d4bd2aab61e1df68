-- States that have grown in number.
use Rattle.std.proofs.Common.{◌≡◌, ◌⊎◌, inl, inr, ℕ, zero, suc, ◌<◌, ◌≤◌, List, [], ◌∷◌, ◌++◌, length, get_or, replicate, true, false, Some, refl, sym, ap, subst, ◌∙◌, arith}
use Rattle.std.proofs.lemmas.Bool.{false≢true, true≢false}
use Rattle.std.proofs.lemmas.Option.{same_Some, none-some, slice_get-get_or, slice_get_within}
use Rattle.model.specs.declared.event.Event.{Event}
use Rattle.model.specs.declared.event.ScheduleEntry.{ScheduleEntry}
use Rattle.model.specs.declared.limits.Limits.{Limits}
use Rattle.model.specs.Accepted.{IsAccepted}
use Rattle.model.specs.Classes.{Program}
use Rattle.model.specs.Run.{run}
use Rattle.model.specs.Step.{step}
use Rattle.run_laws.specs.interleavings.Ends.{Has}
use Rattle.word_table.specs.Lists.{Grows as TableGrows}
use Rattle.kept_states.specs.declared.numbered.Numbered.{Numbered}
use Rattle.kept_states.proofs.Written.{grows_not, grows_on, numbered_stays}
use Rattle.machine_state.specs.Shown.{IsProgram}
use Rattle.machine.specs.Machines.{MachineOf}
use Rattle.alone_events.specs.Alone.{AreAloneAfter}
use Rattle.search.specs.declared.edges.Edge.{Edge}
use Rattle.search.specs.Edges.{edge_from}
use Rattle.search.specs.met_states.Met.{IsLed, IsMetBy, AreListed, AreNewStatesMet, AreMetStatesKept}
use Rattle.search.specs.Machines.{IsAt}
use Rattle.search.specs.States.{StatesOf, IsSchedule, IsInState, IsMetFrom, LeadsOnFrom, CantGoOn, Grows, GrowsTo, IsStateOf, machine_of, with_entry, IsAloneFrom, IsAfter, IsPushed}
use Rattle.search.proofs.Shown.{run_of}
use Rattle.search.proofs.Schedules.{IsMetAt, met_from, led_by, get_front, get_last}

pub stays : (s : StatesOf) → Grows s s
stays s = record { program = refl; limits_are = refl; parts = grows_not s.parts; kept = λ number events is. is; edges = λ edge has. has; led = λ led. led }

pub further : (old mid new : StatesOf) → Grows old mid → Grows mid new → Grows old new
further old mid new first second =
    record {
      program = second.program ∙ first.program;
      limits_are = second.limits_are ∙ first.limits_are;
      parts = grows_on old.parts mid.parts new.parts first.parts second.parts;
      kept = λ number events is. second.kept number events (first.kept number events is);
      edges = λ edge has. second.edges edge (first.edges edge has);
      led = λ led. second.led (first.led led);
    }

-- each schedule keeps its number
abbrev pub AreKeptNumbers : (old new : StatesOf) → Type 0
AreKeptNumbers old new = (number : ℕ) (events : List Event) → IsSchedule old number events → IsSchedule new number events

-- so what its schedule is, it was
pub earlier_by : (old new : StatesOf) → AreKeptNumbers old new → (number : ℕ) → number < length old.schedules → (events : List Event) → IsSchedule new number events
    → IsSchedule old number events
earlier_by old new kept number lt events is =
    let there : IsSchedule old number (get_or old.schedules number []) = slice_get-get_or old.schedules number [] lt in
    there ∙ ap Some (same_Some (get_or old.schedules number []) events (sym (kept number _ there) ∙ is))

-- ---- one edge more

module _ (kept : AreMetStatesKept) (trees : Program) (frames : ℕ) (some all : List (List Event)) (listed : AreListed some all) where
  still_led : (edge : Edge) → IsLed trees frames some edge → IsLed trees frames all edge
  still_led edge led =
      record {
        events = led.events;
        has = listed edge.node led.events led.has;
        state = led.state;
        reached = led.reached;
        event = led.event;
        next = led.next;
        goes = led.goes;
        met = kept trees frames some all edge.to led.next listed led.met;
      }

pub last_or : {A : Type 0} (xs : List A) (x y : A) → Has (xs ++ x ∷ []) y → Has xs y ⊎ (y ≡ x)
last_or [] x y (zero, is) = inr (sym (same_Some x y is))
last_or [] x y (suc k, is) = absurd (none-some y is)
last_or (w ∷ xs) x y (zero, is) = inl (zero, is)
last_or (w ∷ xs) x y (suc k, is) = elim (last_or xs x y (k, is)) [
  | inl has ↦ inl (suc has.0, has.1)
  | inr same ↦ inr same
]

module _ (old new : StatesOf) (program : new.program ≡ old.program) (limits_are : new.limits ≡ old.limits) (parts : TableGrows old.parts new.parts) (numbers : AreKeptNumbers old new)
    (edge : Edge) (more : new.edges ≡ old.edges ++ edge ∷ []) where
  pub new_edge : Has new.edges edge
  new_edge = subst (λ l. Has l edge) (sym more) (length old.edges, get_last old.edges edge)

  pub one_edge : AreMetStatesKept
      → ((files : List (List ℕ)) (trees : Program) → IsAccepted files trees → IsProgram trees new.program → IsLed trees new.limits.frames new.schedules edge) → Grows old new
  one_edge kept led = record {
    program = program;
    limits_are = limits_are;
    parts = parts;
    kept = numbers;
    edges = λ one has. subst (λ l. Has l one) (sym more) (has.0, get_front old.edges (edge ∷ []) has.0 one has.1);
    led = λ before files trees accepted is_program one has.
        by files trees accepted is_program one (before files trees accepted (subst (IsProgram trees) program is_program) one) (last_or old.edges edge one (subst (λ l. Has l one) more has));
  }
    where
      by : (files : List (List ℕ)) (trees : Program) → IsAccepted files trees → IsProgram trees new.program → (one : Edge)
          → (Has old.edges one → IsLed trees old.limits.frames old.schedules one) → Has old.edges one ⊎ (one ≡ edge) → IsLed trees new.limits.frames new.schedules one
      by files trees accepted is_program one before (inl has) =
          subst (λ (l : Limits). IsLed trees l.frames new.schedules one) (sym limits_are)
          (still_led kept trees old.limits.frames old.schedules new.schedules numbers one (before has))
      by files trees accepted is_program one before (inr same) =
          subst (IsLed trees new.limits.frames new.schedules) (sym same) (led files trees accepted is_program)

-- ---- states that have grown

module _ (old new : StatesOf) (grows : Grows old new) (number : ℕ) (lt : number < length old.schedules) where
  there : IsSchedule old number (get_or old.schedules number [])
  there = slice_get-get_or old.schedules number [] lt

  pub within : number < length new.schedules
  within = slice_get_within new.schedules number _ (grows.kept number _ there)

  -- what its schedule is, it was
  pub earlier : (events : List Event) → IsSchedule new number events → IsSchedule old number events
  earlier events is = earlier_by old new grows.kept number lt events is

  pub still_there : (m : MachineOf) → IsInState old number m → IsInState new number m
  still_there m there events is =
      subst (λ p. IsAt p new.limits events m) (sym grows.program) (subst (λ l. IsAt old.program l events m) (sym grows.limits_are) (there events (earlier events is)))

  pub still_state : (state : Numbered) → IsStateOf old number state → IsStateOf new number state
  still_state state of = record {
    is = subst (λ p. IsInState new number (machine_of p new.limits state.shared)) (sym grows.program)
        (subst (λ l. IsInState new number (machine_of old.program l state.shared)) (sym grows.limits_are)
        (still_there (machine_of old.program old.limits state.shared) of.is));
    numbered = numbered_stays old.parts new.parts state grows.parts of.numbered;
  }

  pub still_met : AreMetStatesKept → (event : Event) → IsMetFrom old number event → IsMetFrom new number event
  still_met kept event met events is files trees accepted program state next r e =
      let before = met events (earlier events is) files trees accepted (subst (IsProgram trees) grows.program program) state next
      (subst (λ (l : Limits). run trees l.frames events ≡ Some state) grows.limits_are r)
      (subst (λ (l : Limits). step trees l.frames state event ≡ Some next) grows.limits_are e) in (
        before.0,
        grows.edges (edge_from number before.0) before.1,
        subst (λ (l : Limits). IsMetBy trees l.frames new.schedules before.0 next) (sym grows.limits_are)
            (kept trees old.limits.frames old.schedules new.schedules before.0 next grows.kept before.2),
      )

pub still_leads : (old new : StatesOf) (grows : Grows old new) (number : ℕ) → number < length old.schedules → (event : Event)
    → LeadsOnFrom old number event → LeadsOnFrom new number event
still_leads old new grows number lt event led events is files trees accepted program =
    let before = led events (earlier old new grows number lt events is) files trees accepted (subst (IsProgram trees) grows.program program) in
    (before.0, subst (λ (l : Limits). run trees l.frames (events ++ event ∷ []) ≡ Some before.0) (sym grows.limits_are) before.1)

-- ---- one more

-- there were no more than so many, and there are no more
abbrev pub IsFew : (most : ℕ) → (old new : StatesOf) → Type 0
IsFew most old new = length old.schedules ≤ most → length new.schedules ≤ most

-- why it gave up
abbrev pub IsWhy : (most : ℕ) → StatesOf → Type 0
IsWhy most s = (most ≤ length s.schedules) ⊎ CantGoOn s

pub gave_up : (P : StatesOf → Type 0) (most : ℕ) (old new : StatesOf) → Grows old new → IsFew most old new → IsWhy most new → GrowsTo P most old new false
gave_up P most old new grows few why = record { grows = grows; few = few; then = λ e. absurd (false≢true e); gave_up = λ e. why }

pub went_on : (P : StatesOf → Type 0) (most : ℕ) (old new : StatesOf) → Grows old new → IsFew most old new → P new → GrowsTo P most old new true
went_on P most old new grows few holds = record { grows = grows; few = few; then = λ e. holds; gave_up = λ e. absurd (true≢false e) }

module _ (kept : AreMetStatesKept) (holds : AreNewStatesMet) (most number : ℕ) (entry : ScheduleEntry) (old new : StatesOf) (one : MachineOf) (room : length old.schedules < most)
    (lt : number < length old.schedules) (alone : IsAloneFrom old number entry) (is_after : IsAfter old number entry one) (pushed : IsPushed number entry old new) where
  met_at : IsMetAt new number entry.event (length old.schedules)
  met_at events is files trees accepted program =
      let before = alone.are events (earlier_by old new pushed.kept number lt events is) files trees accepted (subst (IsProgram trees) pushed.program program) in
      let past : AreAloneAfter trees new.limits.frames (events ++ entry.event ∷ []) (replicate alone.behind entry.event) =
      subst (λ (l : Limits). AreAloneAfter trees l.frames (events ++ entry.event ∷ []) (replicate alone.behind entry.event)) (sym pushed.limits_are) before
      in
      let last : IsSchedule new (length old.schedules) (events ++ entry.event ∷ replicate alone.behind entry.event) =
      subst (λ n. IsSchedule new (length old.schedules) (events ++ replicate n entry.event)) alone.repeat (pushed.last events is)
      in
      holds trees new.limits.frames new.schedules events (replicate alone.behind entry.event) entry.event past (length old.schedules, last)

  led : (files : List (List ℕ)) (trees : Program) → IsAccepted files trees → IsProgram trees new.program
      → IsLed trees new.limits.frames new.schedules (edge_from number (length old.schedules))
  led files trees accepted program =
      let events : List Event = get_or old.schedules number [] in
      let own : IsSchedule old number events = slice_get-get_or old.schedules number [] lt in
      let has = run_of old.program old.limits (with_entry events entry) one (is_after events own) files trees accepted (subst (IsProgram trees) pushed.program program) in
      let r : run trees new.limits.frames (events ++ entry.event ∷ replicate alone.behind entry.event) ≡ Some has.lead.state =
      subst (λ (l : Limits). run trees l.frames (events ++ entry.event ∷ replicate alone.behind entry.event) ≡ Some has.lead.state) (sym pushed.limits_are)
      (subst (λ n. run trees old.limits.frames (events ++ replicate n entry.event) ≡ Some has.lead.state) alone.repeat has.lead.reached)
      in
      led_by new number (length old.schedules) entry.event (replicate alone.behind entry.event) events (pushed.kept number events own) files trees accepted program has.lead.state r met_at

  pub new_met : GrowsTo (λ s. IsMetFrom s number entry.event) most old new true
  new_met =
      let edge = edge_from number (length old.schedules) in
      went_on (λ s. IsMetFrom s number entry.event) most old new
      (one_edge old new pushed.program pushed.limits_are pushed.parts pushed.kept edge pushed.edges kept led)
      (λ le. omega (arith, room, pushed.count))
      (met_from new number (length old.schedules) entry.event (new_edge old new pushed.program pushed.limits_are pushed.parts pushed.kept edge pushed.edges) met_at)
