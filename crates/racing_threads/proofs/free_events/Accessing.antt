-- A thread whose next event is in a race is to access a variable, and goes on.
use Rattle.std.proofs.Common.{◌≡◌, ℕ, List, [], ◌∷◌, ◌++◌, length, inl, inr, refl, sym, ap, ◌∙◌, subst}
use Rattle.std.specs.Prelude.{Option, Some, None, Bool, true, false, not, ◌&&◌, ◌||◌, ◌==◌, ◌-◌, slice_get, slice_set, replicate, IsTrue}
use Rattle.std.specs.Option.{option_and_then, option_map_or}
use Rattle.std.specs.List.{list_any}
use Rattle.std.proofs.lemmas.Bool.{false≢true, and_parts}
use Rattle.std.proofs.lemmas.Option.{same_Some, none-some}
use Rattle.model.specs.declared.instr.Instr.{Instr}
use Rattle.model.specs.declared.instr.Instr.TheVariants as instr
use Rattle.model.specs.declared.value.Value.{Value}
use Rattle.model.specs.BuiltInMethods.{BuiltInMethod}
use Rattle.model.specs.Classes.{Program, body_of}
use Rattle.model.specs.Frames.{at_offset}
use Rattle.model.specs.Names.{Member}
use Rattle.model.specs.Operands.{Slots, values, under}
use Rattle.model.specs.Outcomes.{Cost, OutcomeOf, Goes}
use Rattle.model.specs.Sites.{Site}
use Rattle.model.specs.State.{Frame, Invocation, StackOf, World, State}
use Rattle.model.specs.Step.{ops_of, step}
use Rattle.data_races.specs.Actions.{Action, Read, Write, conflicts}
use Rattle.data_races.specs.EventActions.{Instruction, Rule, Begins, Does, Initialises, Relocks, Other, without_code, method_run, access_by, accesses_at, operands_of, is_done, goes_on, outcome_at, accesses_of, actions_to, actions_of, rule_of}
use Rattle.data_races.specs.Races.{ActionOfRun, in_event, memory_order, next_actions}
use Rattle.data_races.proofs.Decided.{In, from_map}
use Rattle.race_laws.proofs.racy_states.Accesses.{Access, OfInstruction, OfMethod, access_is}
use Rattle.race_laws.proofs.racy_states.Parts.{is_access, access_part}
use Rattle.race_laws.proofs.racy_states.Silent.{in_only_if}
use Rattle.race_laws.proofs.racy_states.Stepping.{IsAt, is_at, steps_by, goes}
use Rattle.run_laws.proofs.typed_runs.Threads.{get_set_at}
use Rattle.search_laws.specs.Alone.{next_event}
use Rattle.search_laws.proofs.Moves.{get_front}
use Rattle.racing_threads.specs.Racing.{are_racing}

-- ---- tests

some_by : {A : Type 0} (test : A → Bool) (x : A) (xs : List A) (b : Bool) → test x ≡ b
    → (list_any test xs ≡ true → (y : A) × In y xs × IsTrue (test y)) → (b || list_any test xs) ≡ true → (y : A) × In y (x ∷ xs) × IsTrue (test y)
some_by test x xs true e others h = (x, inl refl, e)
some_by test x xs false e others h = let r = others h in (r.0, inr r.1, r.2)

any_some : {A : Type 0} (test : A → Bool) (xs : List A) → list_any test xs ≡ true → (x : A) × In x xs × IsTrue (test x)
any_some test [] h = absurd (false≢true h)
any_some test (x ∷ xs) h = some_by test x xs (test x) refl (λ g. any_some test xs g) h

conflict_access : (files : Program) (a b : Action) → IsTrue (conflicts files a b) → is_access a ≡ true
conflict_access files (Read variable) b h = refl
conflict_access files (Write variable) b h = refl
conflict_access files _ b h = absurd (false≢true h)

-- ---- a thread that is to access a variable

-- instructions that may access one; the others access none
abbrev pub may_access : Instr → Bool
may_access (instr.Field access index) = true
may_access (instr.LoadElement kind) = true
may_access (instr.StoreElement kind) = true
may_access (instr.Invoke invocation index) = true
may_access (instr.InvokeInterface index count last) = true
may_access _ = false

module _ (files : Program) (site : Site) (ops : List Value) (a : Action) where
  accesses_by : (i : Instr) → In a (access_by files site ops i) → may_access i ≡ true
  accesses_by (instr.Field access index) h = refl
  accesses_by (instr.LoadElement kind) h = refl
  accesses_by (instr.StoreElement kind) h = refl
  accesses_by _ h = absurd h

  runs_by : (i : Instr) (world : World) (b : BuiltInMethod)
      → option_and_then (λ (method : Member). without_code method (body_of files method)) (method_run files site world ops i) ≡ Some b → may_access i ≡ true
  runs_by (instr.Invoke invocation index) world b h = refl
  runs_by (instr.InvokeInterface index count last) world b h = refl
  runs_by _ world b h = absurd (none-some b h)

may_do : (files : Program) (instruction : Instruction) (a : Action) (world : World) → Access files instruction a world → may_access instruction.site.instr ≡ true
may_do files instruction a world (OfInstruction h) = accesses_by files instruction.site (operands_of instruction) a instruction.site.instr h
may_do files instruction a world (OfMethod b h g) = runs_by files instruction.site (operands_of instruction) a instruction.site.instr world b h.runs

pub record IsToAccess (files : Program) (state : State) (t : ℕ) : Type 0 where
  pub instruction : Instruction
  pub at : IsAt files state t instruction
  pub may : may_access instruction.site.instr ≡ true

-- it does so
pub record DoesAccess (files : Program) (frames : ℕ) (state : State) (t : ℕ) : Type 0 where
  pub to : IsToAccess files state t
  pub next : State
  pub steps : step files frames state (next_event t) ≡ Some next
  pub done : IsTrue (is_done t state.world to.instruction)
  pub goes_on : IsTrue (goes_on (outcome_at (next_event t) state.world to.instruction))

module _ (files : Program) (frames : ℕ) (state : State) (t : ℕ) where
  by_rule : (next : State) (rule : Rule) (a : Action) → step files frames state (next_event t) ≡ Some next → rule_of files state t ≡ rule
      → In a (accesses_of files (next_event t) state.world rule) → DoesAccess files frames state t
  by_rule next Begins a e r h = absurd h
  by_rule next (Does instruction) a e r h =
      let done = is_done t state.world instruction in
      let on = goes_on (outcome_at (next_event t) state.world instruction) in
      let p = in_only_if a (done && on) (accesses_at files state.world instruction) h in
      let q = and_parts done on p.0 in
      record {
        to = record { instruction = instruction; at = is_at files state t instruction r; may = may_do files instruction a state.world (access_is files instruction a state.world p.1) };
        next = next;
        steps = e;
        done = q.0;
        goes_on = q.1;
      }
  by_rule next (Initialises class phase) a e r h = absurd h
  by_rule next (Relocks cause) a e r h = absurd h
  by_rule next Other a e r h = absurd h

  by_next : (o : Option State) (a : Action) → step files frames state (next_event t) ≡ o
      → In a (option_map_or (λ (next : State). actions_to files (next_event t) state.world (rule_of files state t) next.world) o [])
      → is_access a ≡ true → DoesAccess files frames state t
  by_next None a e h access = absurd h
  by_next (Some next) a e h access =
      by_rule next (rule_of files state t) a e refl (access_part files (next_event t) state.world next.world (rule_of files state t) a access h)

  -- where it is in a race
  pub does_access : (u : ℕ) → IsTrue (are_racing files frames state t u) → DoesAccess files frames state t
  does_access u h =
      let x = any_some _ (next_actions files frames state t) h in
      let y = any_some _ (next_actions files frames state u) x.2 in
      let a = from_map (in_event t 0) x.0 (actions_of files frames state (next_event t)) x.1 in
      let both : IsTrue ((memory_order files).conflict (in_event t 0 a.0) y.0) =
      subst (λ (z : ActionOfRun). IsTrue ((memory_order files).conflict z y.0)) (sym a.2) y.2 in
      let c = and_parts (not (t == y.0.thread)) (conflicts files a.0 y.0.action) both in
      by_next (step files frames state (next_event t)) a.0 refl a.1 (conflict_access files a.0 y.0.action c.1)

-- ---- where it goes on

outcome_goes : (o : OutcomeOf Value) → IsTrue (goes_on o) → (cost : Cost) × (world : World) × (slots : Slots Value) × (to : ℕ) × (o ≡ Goes cost world slots to)
outcome_goes (Goes cost world slots to) h = (cost, world, slots, to, refl)
outcome_goes _ h = absurd (false≢true h)

module _ (files : Program) (frames : ℕ) (state : State) (t : ℕ) (d : DoesAccess files frames state t) where
  abbrev it : Instruction
  it = d.to.instruction

  at_frame : (o : OutcomeOf Value) → outcome_at (next_event t) state.world it ≡ o
      → it.meaning.does (next_event t) state.world d.to.at.frame.place.slots (ops_of values it.meaning d.to.at.frame.place.slots) (under it.meaning.wants d.to.at.frame.place.slots) ≡ o
  at_frame o h =
      subst (λ (x : Slots Value). it.meaning.does (next_event t) state.world x (ops_of values it.meaning x) (under it.meaning.wants x) ≡ o) d.to.at.slots h

  -- its stack after the event is that of a frame over what stood below
  pub stack_after : (next : State) → step files frames state (next_event t) ≡ Some next
      → (after : Frame) × (slice_get next.stacks t ≡ Some (Invocation after ∷ d.to.at.rest))
  stack_after next e =
      let o = outcome_goes (outcome_at (next_event t) state.world it) d.goes_on in
      let p = steps_by files frames state t it d.to.at d.next d.steps in
      let g = goes files frames state t it d.to.at o.0 o.1 o.2 o.3 p.0 p.1 d.done (at_frame (Goes o.0 o.1 o.2 o.3) o.4) in
      let frame = at_offset d.to.at.frame o.3 o.2 in
      let left : StackOf Value = Invocation frame ∷ d.to.at.rest in
      let set = slice_set state.stacks t left in
      let more = replicate (length o.1.threads - length state.stacks) [] in
      let after : State = record { world = o.1; stacks = set ++ more } in
      let same : after ≡ next = same_Some after next (sym g ∙ e) in (
        frame,
        ap (λ (z : State). slice_get z.stacks t) (sym same)
            ∙ get_front set more t left (get_set_at state.stacks t (Invocation d.to.at.frame ∷ d.to.at.rest) left d.to.at.stack),
      )
