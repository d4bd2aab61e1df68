-- A racy state that is reached gives a run with a race: both accesses, one behind the other.
use Rattle.std.proofs.Common.{◌≡◌, refl, sym, ◌∙◌, ap, subst, ℕ, zero, suc, ◌+◌, ◌<◌, ◌≤◌, ◌⊎◌, inl, inr, List, [], ◌∷◌, ◌++◌, length, map, append_assoc, arith}
use Rattle.std.specs.Prelude.{Option, Some, None, Bool, true, false, not, ◌&&◌, ◌==◌, ◌||◌, slice_get, slice_set, IsTrue}
use Rattle.std.specs.Option.{option_and_then, option_map_or}
use Rattle.std.specs.List.{list_any}
use Rattle.std.proofs.lemmas.Option.{slice_get_within}
use Rattle.std.proofs.lemmas.Bool.{eq-eqb}
use Rattle.std.proofs.lemmas.Bool.Decides.{eqb_tells}
use Rattle.model.specs.declared.event.Event.{Event}
use Rattle.model.specs.declared.value.Value.{Value}
use Rattle.model.specs.Names.{Name}
use Rattle.model.specs.Classes.{Program}
use Rattle.model.specs.Operands.{Slots, values, under}
use Rattle.model.specs.Rows.{counting}
use Rattle.model.specs.State.{ClassStatus, Thread, types_of, StackOf, World, State}
use Rattle.model.specs.Opening.{opening}
use Rattle.model.specs.Outcomes.{Cost, OutcomeOf, Goes}
use Rattle.model.specs.Worlds.{thread_at}
use Rattle.model.specs.ClassInitialisation.{look_at}
use Rattle.model.specs.Step.{ops_of, step}
use Rattle.model.specs.Run.{run, run_from}
use Rattle.data_races.specs.Variables.{Variable, is_volatile}
use Rattle.run_laws.proofs.word_runs.WordMeanings.{Kinded}
use Rattle.data_races.specs.Actions.{Action, Read, Write, conflicts, synchronizes, is_read, is_write}
use Rattle.data_races.specs.EventActions.{only_if, Instruction, Rule, Begins, Does, Initialises, Relocks, Other, accesses_at, is_done, is_ready, goes_on, outcome_at, accesses_of, actions_to, actions_of, rule_of}
use Rattle.data_races.specs.HappensBefore.{HappensBefore, IsRace}
use Rattle.data_races.specs.Races.{ActionOfRun, in_event, actions_from, actions_of_run, memory_order, HasRace, next_actions, IsRacy}
use Rattle.data_races.proofs.Order.{get_left}
use Rattle.data_races.proofs.Decided.{In, in_map, from_map}
use Rattle.race_laws.proofs.racy_states.Unordered.{stays_within}
use Rattle.race_laws.proofs.racy_states.Shapes.{IsGrown, extends}
use Rattle.race_laws.proofs.racy_states.Later.{grown_keeps, finds_later}
use Rattle.race_laws.proofs.racy_states.Accesses.{Access, access_is, accesses_from, grows, later_is, picks, again, kinded}
use Rattle.race_laws.proofs.racy_states.Stepping.{event_of_thread, IsAt, is_at, rule_is, steps_by, after, goes}
use Rattle.race_laws.proofs.racy_states.Parts.{is_access, access_part}
use Rattle.race_laws.proofs.racy_states.Silent.{IsSilent, in_only_if, both, all_silent, accesses_among, silent_of}

-- ---- lists

some_by : {A : Type 0} (test : A → Bool) (x : A) (xs : List A) (b : Bool) → test x ≡ b → (list_any test xs ≡ true → (y : A) × In y xs × IsTrue (test y))
    → (b || list_any test xs) ≡ true → (y : A) × In y (x ∷ xs) × IsTrue (test y)
some_by test x xs true e others g = (x, inl refl, e)
some_by test x xs false e others g = let r = others g in (r.0, inr r.1, r.2)

any_some : {A : Type 0} (test : A → Bool) (xs : List A) → list_any test xs ≡ true → (x : A) × In x xs × IsTrue (test x)
any_some test [] h = absurd (cc)
any_some test (x ∷ xs) h = some_by test x xs (test x) refl (λ g. any_some test xs g) h

place_in : {A : Type 0} (x : A) (xs : List A) → In x xs → (k : ℕ) × (slice_get xs k ≡ Some x)
place_in x [] h = absurd h
place_in x (y ∷ ys) h = elim h [ inl e ↦ (0, let g : Some y ≡ Some x = λ i. Some (sym e i) in g) | inr t ↦ let p = place_in x ys t in (suc p.0, p.1) ]

in_place : {A : Type 0} (x : A) (xs : List A) (k : ℕ) → slice_get xs k ≡ Some x → In x xs
in_place x [] k h = absurd (cc)
in_place x (y ∷ ys) zero h = let e : x ≡ y = cc in inl e
in_place x (y ∷ ys) (suc k) h = inr (in_place x ys k h)

get_right : {A : Type 0} (xs ys : List A) (k : ℕ) → slice_get (xs ++ ys) (length xs + k) ≡ slice_get ys k
get_right [] ys k = let e : 0 + k ≡ k = omega arith in ap (slice_get ys) e
get_right (x ∷ xs) ys k = let e : suc (length xs) + k ≡ suc (length xs + k) = omega arith in ap (slice_get (x ∷ xs ++ ys)) e ∙ get_right xs ys k

get_cases : {A : Type 0} (xs ys : List A) (k : ℕ) (x : A) → slice_get (xs ++ ys) k ≡ Some x
    → ((k < length xs) × (slice_get xs k ≡ Some x)) ⊎ ((m : ℕ) × (k ≡ length xs + m) × (slice_get ys m ≡ Some x))
get_cases [] ys k x h = inr (k, let e : k ≡ 0 + k = omega arith in e, h)
get_cases (y ∷ xs) ys zero x h = inl (let l : 0 < suc (length xs) = omega arith in l, h)
get_cases (y ∷ xs) ys (suc k) x h =
    elim (get_cases xs ys k x h) [
      | inl p ↦ inl (let l : suc k < suc (length xs) = let m : k < length xs = p.0 in omega arith in l, p.1)
      | inr p ↦ inr (p.0, let e : suc k ≡ suc (length xs) + p.0 = let f : k ≡ length xs + p.0 = p.1 in omega arith in e, p.2)
    ]

get_other : {A : Type 0} (xs zs : List A) (t u : ℕ) (x y : A) → (u ≡ t → ⊥) → slice_get xs u ≡ Some x → slice_get (slice_set xs t y ++ zs) u ≡ Some x
get_other [] zs t u x y ne h = absurd (cc)
get_other (z ∷ xs) zs zero zero x y ne h = absurd (ne refl)
get_other (z ∷ xs) zs (suc t) zero x y ne h = h
get_other (z ∷ xs) zs zero (suc u) x y ne h = get_left xs zs u (slice_get_within xs u x h) ∙ h
get_other (z ∷ xs) zs (suc t) (suc u) x y ne h = get_other xs zs t u x y (λ e. ne (ap suc e)) h

-- ---- an access of a thread

record DoesAccess (files : Program) (frames : ℕ) (s : State) (t : ℕ) (a : Action) : Type 0 where
  next : State
  steps : step files frames s (event_of_thread t) ≡ Some next
  instruction : Instruction
  at : IsAt files s t instruction
  accesses : Access files instruction a s.world
  done : IsTrue (is_done t s.world instruction)
  goes_on : IsTrue (goes_on (outcome_at (event_of_thread t) s.world instruction))

module _ (files : Program) (frames : ℕ) (s : State) (t : ℕ) (a : Action) where
  by_rule : (next : State) (rule : Rule) → step files frames s (event_of_thread t) ≡ Some next → rule_of files s t ≡ rule
      → In a (accesses_of files (event_of_thread t) s.world rule) → DoesAccess files frames s t a
  by_rule next Begins e r h = absurd h
  by_rule next (Does instruction) e r h =
      let p = in_only_if a (is_done t s.world instruction && goes_on (outcome_at (event_of_thread t) s.world instruction)) (accesses_at files s.world instruction) h in
      let q = both (is_done t s.world instruction) (goes_on (outcome_at (event_of_thread t) s.world instruction)) p.0 in
      record { next = next; steps = e; instruction = instruction; at = is_at files s t instruction r; accesses = access_is files instruction a s.world p.1; done = q.0; goes_on = q.1 }
  by_rule next (Initialises class phase) e r h = absurd h
  by_rule next (Relocks cause) e r h = absurd h
  by_rule next Other e r h = absurd h

  by_next : (o : Option State) → step files frames s (event_of_thread t) ≡ o
      → In a (option_map_or (λ (next : State). actions_to files (event_of_thread t) s.world (rule_of files s t) next.world) o [])
      → is_access a ≡ true → DoesAccess files frames s t a
  by_next None e h access = absurd h
  by_next (Some next) e h access =
      by_rule next (rule_of files s t) e refl (access_part files (event_of_thread t) s.world next.world (rule_of files s t) a access h)

  does_access : In a (actions_of files frames s (event_of_thread t)) → is_access a ≡ true → DoesAccess files frames s t a
  does_access h access = by_next (step files frames s (event_of_thread t)) refl h access

outcome_goes : (o : OutcomeOf Value) → IsTrue (goes_on o) → (cost : Cost) × (world : World) × (slots : Slots Value) × (to : ℕ) × (o ≡ Goes cost world slots to)
outcome_goes (Goes cost world slots to) h = (cost, world, slots, to, refl)
outcome_goes _ h = absurd (cc)

in_if : {X : Type 0} (x : X) (b : Bool) (xs : List X) → IsTrue b → In x xs → In x (only_if b xs)
in_if x true xs e h = h
in_if x false xs e h = absurd (cc)

and_true : (a b : Bool) → IsTrue a → IsTrue b → IsTrue (a && b)
and_true true true g h = refl
and_true true false g h = absurd (cc)
and_true false b g h = absurd (cc)

module _ (files : Program) (frames : ℕ) (s : State) (t : ℕ) (a : Action) (d : DoesAccess files frames s t a) where
  abbrev e : Event
  e = event_of_thread t

  abbrev it : Instruction
  it = d.instruction

  at_frame : (world : World) (o : OutcomeOf Value) → outcome_at e world it ≡ o
      → it.meaning.does e world d.at.frame.place.slots (ops_of values it.meaning d.at.frame.place.slots) (under it.meaning.wants d.at.frame.place.slots) ≡ o
  at_frame world o h =
      subst (λ (x : Slots Value). it.meaning.does e world x (ops_of values it.meaning x) (under it.meaning.wants x) ≡ o) d.at.slots h

  -- what follows differs in variables and in new objects alone
  grows_next : IsGrown s.world d.next.world
  grows_next =
      let o = outcome_goes (outcome_at e s.world it) d.goes_on in
      let p = steps_by files frames s t it d.at d.next d.steps in
      let g = goes files frames s t it d.at o.0 o.1 o.2 o.3 p.0 p.1 d.done (at_frame s.world (Goes o.0 o.1 o.2 o.3) o.4) in
      let same : after files frames s t it d.at o.1 o.2 o.3 ≡ d.next = let q : Some (after files frames s t it d.at o.1 o.2 o.3) ≡ Some d.next = sym g ∙ d.steps in cc in
      subst (λ (n : State). IsGrown s.world n.world) same
      (grows files it a d.at.means e s.world d.accesses it.slots (under it.meaning.wants it.slots) o.0 o.1 o.2 o.3 o.4)

  -- the stacks of other threads stay
  stack_stays : (u : ℕ) (x : StackOf Value) → (u ≡ t → ⊥) → slice_get s.stacks u ≡ Some x → slice_get d.next.stacks u ≡ Some x
  stack_stays u x ne h =
      let o = outcome_goes (outcome_at e s.world it) d.goes_on in
      let p = steps_by files frames s t it d.at d.next d.steps in
      let g = goes files frames s t it d.at o.0 o.1 o.2 o.3 p.0 p.1 d.done (at_frame s.world (Goes o.0 o.1 o.2 o.3) o.4) in
      let same : after files frames s t it d.at o.1 o.2 o.3 ≡ d.next = let q : Some (after files frames s t it d.at o.1 o.2 o.3) ≡ Some d.next = sym g ∙ d.steps in cc in
      subst (λ (n : State). slice_get n.stacks u ≡ Some x) same (get_other s.stacks _ t u x _ ne h)

  -- in a state that differs so it is done again
  done_again : (other : State) → IsGrown s.world other.world → ((x : StackOf Value) → slice_get s.stacks t ≡ Some x → slice_get other.stacks t ≡ Some x)
      → DoesAccess files frames other t a
  done_again other same keeps =
      let same_thread : thread_at other.world t ≡ thread_at s.world t = ap (λ (ts : List Thread). thread_at (record s.world { threads = ts }) t) same.threads in
      let there : IsAt files other t it =
      record {
        frame = d.at.frame;
        rest = d.at.rest;
        body = d.at.body;
        stack = keeps _ d.at.stack;
        running = ap (λ (x : Thread). x.status) same_thread ∙ d.at.running;
        quiet = ap (λ (x : Thread). x.pending) same_thread ∙ d.at.quiet;
        has_body = d.at.has_body;
        at = d.at.at;
        means = d.at.means;
        slots = d.at.slots;
      } in
      let p = steps_by files frames s t it d.at d.next d.steps in
      let more = extends s.world.heap other.world.heap same.objects in
      let finds = finds_later files (types_of s.world.heap) (types_of other.world.heap) more it.meaning.wants d.at.body.code.max_stack d.at.frame.place.slots p.0 in
      let kinds = subst (λ (x : Slots Value). Kinded files (types_of s.world.heap) it.meaning.wants (ops_of values it.meaning x)) (sym d.at.slots)
      (kinded files (types_of s.world.heap) it.meaning.wants d.at.body.code.max_stack d.at.frame.place.slots p.0) in
      let accesses = later_is files it a d.at.means s.world other.world (grown_keeps files s.world other.world same) more kinds d.accesses in
      let may = subst (λ (x : Slots Value). IsTrue (it.meaning.may e other.world (ops_of values it.meaning x))) d.at.slots (picks files it a d.at.means e other.world accesses) in
      let ready : IsTrue (is_done t other.world it) =
      subst (λ (cs : List (Name × ClassStatus)). IsTrue (is_ready (look_at t (record s.world { classes = cs }) it.meaning.looks))) (sym same.classes) d.done in
      let on = again files it a d.at.means e s.world other.world (grown_keeps files s.world other.world same) more kinds d.accesses it.slots (under it.meaning.wants it.slots) d.goes_on in
      let o = outcome_goes (outcome_at e other.world it) on in
      record {
        next = after files frames other t it there o.1 o.2 o.3;
        steps = goes files frames other t it there o.0 o.1 o.2 o.3 finds may ready (at_frame other.world (Goes o.0 o.1 o.2 o.3) o.4);
        instruction = it;
        at = there;
        accesses = accesses;
        done = ready;
        goes_on = on;
      }

  to_actions : (c : Action) → In c (actions_to files e s.world (Does it) d.next.world) → In c (actions_of files frames s e)
  to_actions c h =
      subst (λ (o : Option State). In c (option_map_or (λ (next : State). actions_to files e s.world (rule_of files s t) next.world) o [])) (sym d.steps)
      (subst (λ (r : Rule). In c (actions_to files e s.world r d.next.world)) (sym (rule_is files s t it d.at)) h)

  from_actions : (c : Action) → In c (actions_of files frames s e) → In c (actions_to files e s.world (Does it) d.next.world)
  from_actions c h =
      subst (λ (r : Rule). In c (actions_to files e s.world r d.next.world)) (rule_is files s t it d.at)
      (subst (λ (o : Option State). In c (option_map_or (λ (next : State). actions_to files e s.world (rule_of files s t) next.world) o [])) d.steps h)

  among : In a (actions_of files frames s e)
  among =
      to_actions a (accesses_among files e s.world d.next.world (Does it) a
      (in_if a (is_done t s.world it && goes_on (outcome_at e s.world it)) _ (and_true (is_done t s.world it) (goes_on (outcome_at e s.world it)) d.done d.goes_on)
      (accesses_from files it a s.world d.accesses)))

  silent : IsSilent files a → (c : Action) → In c (actions_of files frames s e) → IsSilent files c
  silent quiet c h = all_silent files t s.world d.next.world it a grows_next d.accesses quiet d.at.running c (from_actions c h)

-- ---- the actions of a longer run

step_then : (files : Program) (frames : ℕ) (s last : State) (event : Event) (events : List Event)
    → run_from files frames s (event ∷ events) ≡ Some last → (next : State) × (step files frames s event ≡ Some next) × (run_from files frames next events ≡ Some last)
step_then files frames s last event events h = by (step files frames s event) refl h
  where
    by : (o : Option State) → step files frames s event ≡ o → option_and_then (λ next. run_from files frames next events) o ≡ Some last
        → (next : State) × (step files frames s event ≡ Some next) × (run_from files frames next events ≡ Some last)
    by None e g = absurd (cc)
    by (Some next) e g = (next, e, g)

actions_append : (files : Program) (frames : ℕ) (s last : State) (n : ℕ) (events more : List Event) → run_from files frames s events ≡ Some last
    → actions_from files frames s n (events ++ more) ≡ actions_from files frames s n events ++ actions_from files frames last (n + length events) more
actions_append files frames s last n [] more h =
    let e : s ≡ last = cc in
    let z : n ≡ n + 0 = omega arith in
    ap (λ (x : State). actions_from files frames x n more) e ∙ ap (λ m. actions_from files frames last m more) z
actions_append files frames s last n (event ∷ events) more h =
    let g = step_then files frames s last event events h in
    let first = map (in_event event.thread n) (actions_of files frames s event) in
    let z : suc n + length events ≡ n + suc (length events) = omega arith in
    ap (λ (o : Option State). first ++ option_map_or (λ next. actions_from files frames next (suc n) (events ++ more)) o []) g.1
    ∙ ap (λ xs. first ++ xs) (actions_append files frames g.0 last (suc n) events more g.2 ∙ ap (λ m. actions_from files frames g.0 (suc n) events ++ actions_from files frames last m more) z)
    ∙ sym (append_assoc first (actions_from files frames g.0 (suc n) events) (actions_from files frames last (n + suc (length events)) more))
    ∙ ap (λ (o : Option State). (first ++ option_map_or (λ next. actions_from files frames next (suc n) events) o []) ++ actions_from files frames last (n + suc (length events)) more) (sym g.1)

actions_two : (files : Program) (frames : ℕ) (s next : State) (n : ℕ) (e f : Event) → step files frames s e ≡ Some next
    → actions_from files frames s n (e ∷ f ∷ []) ≡ map (in_event e.thread n) (actions_of files frames s e)
    ++ (map (in_event f.thread (suc n)) (actions_of files frames next f) ++ option_map_or (λ last. actions_from files frames last (suc (suc n)) []) (step files frames next f) [])
actions_two files frames s next n e f h =
    ap (λ (o : Option State). map (in_event e.thread n) (actions_of files frames s e) ++ option_map_or (λ after. actions_from files frames after (suc n) (f ∷ [])) o []) h

-- nothing is left after the last event
rest_empty : (files : Program) (frames n : ℕ) (o : Option State) → option_map_or (λ last. actions_from files frames last n []) o [] ≡ []
rest_empty files frames n None = refl
rest_empty files frames n (Some last) = refl

not_equal : (a b : ℕ) → IsTrue (not (a == b)) → a ≡ b → ⊥
not_equal a b h e = let g : (a == b) ≡ true = eq-eqb a b e in by (a == b) h g
  where
    by : (c : Bool) → IsTrue (not c) → c ≡ true → ⊥
    by true h g = cc
    by false h g = cc

is_not : (a b : ℕ) → (a ≡ b → ⊥) → (a == b) ≡ false
is_not a b ne = elim (eqb_tells a b) [ inl p ↦ absurd (ne p.1) | inr p ↦ p.0 ]

conflict_left : (files : Program) (a b : Action) → IsTrue (conflicts files a b) → is_access a ≡ true
conflict_left files (Read variable) b h = refl
conflict_left files (Write variable) b h = refl
conflict_left files _ b h = absurd (cc)

write_access : (v : Variable) (b : Action) → IsTrue (is_write v b) → is_access b ≡ true
write_access v (Write other) h = refl
write_access v _ h = absurd (cc)

read_access : (v : Variable) (b : Action) → IsTrue (is_read v b) → is_access b ≡ true
read_access v (Read other) h = refl
read_access v _ h = absurd (cc)

either : (a b : Bool) → IsTrue (a || b) → IsTrue a ⊎ IsTrue b
either true b h = inl refl
either false b h = inr h

conflict_right : (files : Program) (a b : Action) → IsTrue (conflicts files a b) → is_access b ≡ true
conflict_right files (Read v) b h = write_access v b (both (not (is_volatile files v)) (is_write v b) h).1
conflict_right files (Write v) b h =
    elim (either (is_write v b) (is_read v b) (both (not (is_volatile files v)) (is_write v b || is_read v b) h).1) [ inl g ↦ write_access v b g | inr g ↦ read_access v b g ]
conflict_right files _ b h = absurd (cc)

-- ---- both accesses, one behind the other

module _ (files : Program) (frames : ℕ) (events : List Event) (state : State) (reached : run files frames events ≡ Some state) (t u : ℕ) (a b : Action)
    (in_a : In a (actions_of files frames state (event_of_thread t))) (in_b : In b (actions_of files frames state (event_of_thread u)))
    (conflict : IsTrue (conflicts files a b)) (ne : t ≡ u → ⊥) where
  first : DoesAccess files frames state t a
  first = does_access files frames state t a in_a (conflict_left files a b conflict)

  second : DoesAccess files frames first.next u b
  second =
      let d = does_access files frames state u b in_b (conflict_right files a b conflict) in
      done_again files frames state u b d first.next (grows_next files frames state t a first) (λ x h. stack_stays files frames state t a first u x (λ e. ne (sym e)) h)

  abbrev n : ℕ
  n = 0 + length events

  abbrev more : List Event
  more = event_of_thread t ∷ event_of_thread u ∷ []

  abbrev before_both : List ActionOfRun
  before_both = actions_of_run files frames events

  abbrev these : List ActionOfRun
  these = map (in_event t n) (actions_of files frames state (event_of_thread t))

  abbrev those : List ActionOfRun
  those = map (in_event u (suc n)) (actions_of files frames first.next (event_of_thread u))

  abbrev rest : List ActionOfRun
  rest = option_map_or (λ last. actions_from files frames last (suc (suc n)) []) (step files frames first.next (event_of_thread u)) []

  abbrev whole : List ActionOfRun
  whole = before_both ++ (these ++ (those ++ rest))

  whole_is : actions_of_run files frames (events ++ more) ≡ whole
  whole_is =
      actions_append files frames (opening values files) state 0 events more reached
      ∙ ap (λ xs. before_both ++ xs) (actions_two files frames state first.next n (event_of_thread t) (event_of_thread u) first.steps)

  place_a : (k : ℕ) × (slice_get these k ≡ Some (in_event t n a))
  place_a = place_in (in_event t n a) these (in_map (in_event t n) a _ in_a)

  place_b : (k : ℕ) × (slice_get those k ≡ Some (in_event u (suc n) b))
  place_b = place_in (in_event u (suc n) b) those (in_map (in_event u (suc n)) b _ (among files frames first.next u b second))

  abbrev i : ℕ
  i = length before_both + place_a.0

  abbrev m : ℕ
  m = length before_both + length these

  abbrev j : ℕ
  j = length before_both + (length these + place_b.0)

  at_i : slice_get whole i ≡ Some (in_event t n a)
  at_i =
      get_right before_both (these ++ (those ++ rest)) place_a.0
      ∙ get_left these (those ++ rest) place_a.0 (slice_get_within these place_a.0 (in_event t n a) place_a.1) ∙ place_a.1

  at_j : slice_get whole j ≡ Some (in_event u (suc n) b)
  at_j =
      get_right before_both (these ++ (those ++ rest)) (length these + place_b.0)
      ∙ get_right these (those ++ rest) place_b.0
      ∙ get_left those rest place_b.0 (slice_get_within those place_b.0 (in_event u (suc n) b) place_b.1) ∙ place_b.1

  of_first : (k : ℕ) (c : ActionOfRun) → i ≤ k → k < m → slice_get whole k ≡ Some c → (x : Action) × In x (actions_of files frames state (event_of_thread t)) × (in_event t n x ≡ c)
  of_first k c low high at =
      elim (get_cases before_both (these ++ (those ++ rest)) k c at) [
        | inl p ↦ absurd (let l : k < length before_both = p.0 in omega arith)
        | inr p ↦ elim (get_cases these (those ++ rest) p.0 c p.2) [
          | inl q ↦ from_map (in_event t n) c _ (in_place c these p.0 q.1)
          | inr q ↦ absurd (let f : k ≡ length before_both + p.0 = p.1 in let g : p.0 ≡ length these + q.0 = q.1 in omega arith)
        ]
      ]

  of_second : (k : ℕ) (c : ActionOfRun) → m ≤ k → k ≤ j → slice_get whole k ≡ Some c → c.thread ≡ u
  of_second k c low high at =
      let size : place_b.0 < length those = slice_get_within those place_b.0 (in_event u (suc n) b) place_b.1 in
      elim (get_cases before_both (these ++ (those ++ rest)) k c at) [
        | inl p ↦ absurd (let l : k < length before_both = p.0 in omega arith)
        | inr p ↦ elim (get_cases these (those ++ rest) p.0 c p.2) [
          | inl q ↦ absurd (let f : k ≡ length before_both + p.0 = p.1 in let l : p.0 < length these = q.0 in omega arith)
          | inr q ↦ elim (get_cases those rest q.0 c q.2) [
            | inl r ↦ let g = from_map (in_event u (suc n)) c _ (in_place c those q.0 r.1) in ap (λ (x : ActionOfRun). x.thread) (sym g.2)
            | inr r ↦ absurd (let f : k ≡ length before_both + p.0 = p.1 in let g : p.0 ≡ length these + q.0 = q.1 in let h : q.0 ≡ length those + r.0 = r.1 in omega arith)
          ]
        ]
      ]

  no_order : HappensBefore (memory_order files) whole i j → ⊥
  no_order h =
      let size : place_a.0 < length these = slice_get_within these place_a.0 (in_event t n a) place_a.1 in
      let l : j < m =
      stays_within (memory_order files) whole i m j
      (λ k c d low high at.
      let x = of_first k c low high at in
      subst (λ (y : ActionOfRun). synchronizes files y.action d.action ≡ false) x.2 (silent files frames state t a first (silent_of files a b conflict) x.0 x.1 d.action))
      (λ k q c d low high from most at_k at_q.
      let x = of_first k c low high at_k in
      let y = of_second q d from most at_q in
      is_not c.thread d.thread (λ g. ne (ap (λ (z : ActionOfRun). z.thread) x.2 ∙ (g ∙ y))))
      i j h (omega arith) (omega arith) (omega arith) in
      omega arith

  race : IsRace (memory_order files) whole i j
  race =
      let size : place_a.0 < length these = slice_get_within these place_a.0 (in_event t n a) place_a.1 in
      record {
        pair = record { first = in_event t n a; second = in_event u (suc n) b; earlier = omega arith; at_first = at_i; at_second = at_j };
        conflict = and_true (not (t == u)) (conflicts files a b) (subst (λ x. IsTrue (not x)) (sym (is_not t u ne)) refl) conflict;
        unordered = no_order;
      }

  pub has_race : HasRace files frames (events ++ more)
  has_race = (i, j, subst (λ (xs : List ActionOfRun). IsRace (memory_order files) xs i j) (sym whole_is) race)

pub racy_states_race : (files : Program) (frames : ℕ) (events : List Event) (state : State) → run files frames events ≡ Some state → IsRacy files frames state
    → (more : List Event) × HasRace files frames (events ++ more)
racy_states_race files frames events state reached racy =
    let x = any_some _ (counting 0 (length state.world.threads)) racy in
    let y = any_some _ (counting 0 (length state.world.threads)) x.2 in
    let c = any_some _ (next_actions files frames state x.0) y.2 in
    let d = any_some _ (next_actions files frames state y.0) c.2 in
    let a = from_map (in_event x.0 0) c.0 (actions_of files frames state (event_of_thread x.0)) c.1 in
    let b = from_map (in_event y.0 0) d.0 (actions_of files frames state (event_of_thread y.0)) d.1 in
    let h : IsTrue ((memory_order files).conflict (in_event x.0 0 a.0) (in_event y.0 0 b.0)) =
    subst (λ (p : ActionOfRun). IsTrue ((memory_order files).conflict (in_event x.0 0 a.0) p)) (sym b.2)
    (subst (λ (p : ActionOfRun). IsTrue ((memory_order files).conflict p d.0)) (sym a.2) d.2) in
    let g = both (not (x.0 == y.0)) (conflicts files a.0 b.0) h in (
      event_of_thread x.0 ∷ event_of_thread y.0 ∷ [],
      has_race files frames events state reached x.0 y.0 a.0 b.0 a.1 b.1 g.1 (not_equal x.0 y.0 g.0),
    )
