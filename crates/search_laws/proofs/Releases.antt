-- An event by which a thread leaves a monitor, and runs on, is alone.
use Rattle.std.proofs.Common.{◌≡◌, ◌≤◌, ℕ, List, [], ◌∷◌, length, Bool, true, false, if◌then◌else◌, Option, Some, None, refl, sym, ap, ◌∙◌, subst, arith}
use Rattle.std.specs.Prelude.{nat_lt, slice_get, slice_set, replicate}
use Rattle.std.specs.Option.{option_map_or, option_and_then}
use Rattle.std.proofs.lemmas.Bool.{false≢true, eqb-true}
use Rattle.std.proofs.lemmas.Bool.Decides.{Decides-ltb}
use Rattle.std.proofs.lemmas.Option.{same_Some, none-some}
use Rattle.model.specs.declared.instr.Instr.{Instr}
use Rattle.model.specs.declared.instr.Instr.TheVariants as instr
use Rattle.model.specs.declared.value.Value.{Value}
use Rattle.model.specs.Accepted.{IsAccepted}
use Rattle.model.specs.Classes.{Program, Body, body_of}
use Rattle.model.specs.ClassInitialisation.{Look, IsReady, IsNew, IsHeld, HasFailed, look_by, status_of}
use Rattle.model.specs.Meanings.{meaning_of}
use Rattle.model.specs.Monitors.{owns}
use Rattle.model.specs.Names.{Name}
use Rattle.model.specs.Operands.{values, under}
use Rattle.model.specs.Outcomes.{NoClassDefFound, IllegalMonitorState, Cost, OutcomeOf, Goes, Raises, Throws, Interrupts, Calls, Returns as ReturnsTo, Waits}
use Rattle.model.specs.Sites.{MeaningOf, Site, site_at}
use Rattle.model.specs.State.{types_of, Thread, Running, Frame, StackEntryOf, Invocation, StackOf, World, State}
use Rattle.model.specs.Step.{SteppedOf, NotEnabled, WrongKind, Next, PartOf, on_to, raised, end_of, next_by, enabled_if, unpicked, ops_of, done, needing, needing_class, returned, leaving, become, bytecode_by, bytecode_in, going_event, thread_event, stepped, step}
use Rattle.model.specs.MachineExceptions.{machine_exception}
use Rattle.model.specs.Worlds.{thread_at, is_owner, with_exit, allocated}
use Rattle.model.specs.WellTyped.{IsWellTyped}
use Rattle.run_laws.proofs.typed_runs.Settled.{thread_there}
use Rattle.run_laws.proofs.typed_runs.Threads.{get_set_at}
use Rattle.run_laws.proofs.laws.Operations.{OfMeaning}
use Rattle.monitor_laws.specs.owners.Owners.{is_meant, entered_in, monitor_operand, meant_by, meant_with, meant_at, meant_in, meant_running, meant_before, meant, AreOwnersKeptBy}
use Rattle.search_laws.specs.Alone.{next_event}
use Rattle.search_laws.specs.KeptStates.{IsReached}
use Rattle.search_laws.specs.OwnedMonitors.{IsAt, IsToUse, Exits, Enters, Returns}
use Rattle.search_laws.specs.Releases.{IsRelease, AreReleasesAlone}
use Rattle.search_laws.proofs.Events.{IsDone, done_of}
use Rattle.search_laws.proofs.Leaving.{thread_set, Told, IsTold, all_told}
use Rattle.search_laws.proofs.Moves.{get_front, left_of, none_left}
use Rattle.search_laws.proofs.OwnedMonitors.{owned_monitors_alone}
use Rattle.search_laws.proofs.Verdicts.{reached_typed}

-- ---- which monitor is meant

meant_is : (r : ℕ) (o : Option ℕ) → is_meant r o ≡ true → o ≡ Some r
meant_is r None e = absurd (false≢true e)
meant_is r (Some x) e = ap (λ n. Some n) (sym (eqb-true r x e))

not_some : {X : Type 0} (r : ℕ) → None ≡ Some r → X
not_some r e = absurd (none-some r e)

no_less : (a b : ℕ) → b ≤ a → nat_lt a b ≡ false
no_less a b le = by (nat_lt a b) refl
  where
    by : (k : Bool) → nat_lt a b ≡ k → k ≡ false
    by false q = refl
    by true q = let lt = (Decides-ltb a b).0 q in absurd (omega (arith, lt, le))

-- no call
meant_before_is : (r : ℕ) (o : Option ℕ) (old new : StackOf Value) → length new ≤ length old → meant o old new ≡ Some r → o ≡ Some r
meant_before_is r None old new le e =
    not_some r (sym (ap (λ b. if b then entered_in new else None) (no_less (length old) (length new) le)) ∙ e)
meant_before_is r (Some x) old new le e = e

step_cost : (x : SteppedOf State) (next : State) → next_by x ≡ Some next → (cost : Cost) × (x ≡ Next cost next)
step_cost NotEnabled next e = absurd (none-some next e)
step_cost WrongKind next e = absurd (none-some next e)
step_cost (Next cost s) next e = (cost, ap (Next cost) (same_Some s next e))

-- ---- what an instruction came to

module _ (files : Program) (frames t : ℕ) (state : State) (thread : Thread) (is_thread : slice_get state.world.threads t ≡ Some thread) (frame : Frame) (below : StackOf Value)
    (cost : Cost) (left : PartOf Value) (entry : StackEntryOf Value) (rest : StackOf Value) (left_is : left.stack ≡ entry ∷ rest) (no_deeper : length rest ≤ length below)
    (runs : (thread_at left.world t).status ≡ Running) (calm : (thread_at left.world t).pending ≡ None) where
  abbrev world : World
  world = state.world

  abbrev whole : StackOf Value
  whole = Invocation frame ∷ below

  -- what was raised is pending
  not_raised : {X : Type 0} → (now : Thread) (exception : ℕ) → thread_at left.world t ≡ now → now.pending ≡ Some exception → X
  not_raised now exception is e = absurd (none-some exception (sym calm ∙ (ap (λ (z : Thread). z.pending) is ∙ e)))

  needed : (class : Option Name) (x : SteppedOf (PartOf Value)) → needing_class values files t class world whole x ≡ Next cost left → x ≡ Next cost left
  needed None x e = e
  needed (Some class) x e = by (look_by t (status_of world class)) e
    where
      by : (look : Look) → needing values files t class look world whole x ≡ Next cost left → x ≡ Next cost left
      by IsReady y = y
      by IsNew y =
          let same = ap (λ (p : PartOf Value). p.stack) (left_of (needing values files t class IsNew world whole x) _ cost _ left refl y) in
          let many = ap length (same ∙ left_is) in
          absurd (omega (arith, many, no_deeper))
      by IsHeld y = none_left NotEnabled cost left refl y
      by HasFailed y =
          let same = left_of (raised values files t NoClassDefFound world whole) _ cost _ left refl y in
          let more : World = allocated world (machine_exception values files NoClassDefFound None) in
          let now : Thread = record (thread_at more t) { pending = Some (length world.heap) } in
          not_raised now (length world.heap) (ap (λ (p : PartOf Value). thread_at p.world t) (sym same) ∙ thread_set more t thread now is_thread) refl

  module _ (site : Site) (meaning : MeaningOf Value) (max_stack : ℕ) (came : bytecode_by values files frames (next_event t) world frame below max_stack (Some meaning) ≡ Next cost left) where
    abbrev does : OutcomeOf Value
    does = meaning.does (next_event t) world frame.place.slots (ops_of values meaning frame.place.slots) (under meaning.wants frame.place.slots)

    by_may : (b : Bool) → enabled_if b (needing_class values files t meaning.looks world whole (done values files frames (next_event t) world frame below meaning)) ≡ Next cost left
        → become values files frames t world frame below does ≡ Next cost left
    by_may false x = none_left NotEnabled cost left refl x
    by_may true x = needed meaning.looks (done values files frames (next_event t) world frame below meaning) x

    by_found : (b : Bool)
        → (if b then enabled_if (meaning.may (next_event t) world (ops_of values meaning frame.place.slots)) (needing_class values files t meaning.looks world whole (done values files frames (next_event t) world frame below meaning)) else unpicked (next_event t) WrongKind) ≡ Next cost left
        → become values files frames t world frame below does ≡ Next cost left
    by_found false x = none_left WrongKind cost left refl x
    by_found true x = by_may (meaning.may (next_event t) world (ops_of values meaning frame.place.slots)) x

    pub became : become values files frames t world frame below does ≡ Next cost left
    became = by_found (values.finds files (types_of world.heap) meaning.wants max_stack frame.place.slots) came

  -- a thread that waits runs no more
  pub not_waiting : {X : Type 0} (some : Cost) (after : World) (others : List Value) → become values files frames t world frame below (Waits some after others) ≡ Next cost left
      → ((thread_at after t).status ≡ Running → ⊥) → X
  not_waiting some after others e waits =
      let same = left_of (become values files frames t world frame below (Waits some after others)) _ cost _ left refl e in
      absurd (waits (ap (λ (p : PartOf Value). (thread_at p.world t).status) same ∙ runs))

  -- a frame that returns has one below it
  pub returns_below : (results : List Value) (r : ℕ) (after : World) → after ≡ world → is_owner world t r ≡ true → (stack : StackOf Value) → below ≡ stack → frame.entered ≡ Some r
      → become values files frames t world frame below (ReturnsTo after results) ≡ Next cost left → (one : StackEntryOf Value) × (others : StackOf Value) × (below ≡ one ∷ others)
  returns_below results r after unchanged owned (one ∷ others) is entered e = (one, others, is)
  returns_below results r after unchanged owned [] is entered e =
      let gone = returned files results below in
      let out = on_to (with_exit after t r) gone in
      let fault = raised values files t IllegalMonitorState after whole in
      let owner : is_owner after t r ≡ true = ap (λ (w : World). is_owner w t r) unchanged ∙ owned in
      let x : out ≡ Next cost left = sym (ap (λ b. if b then out else fault) owner) ∙ (sym (ap (λ o. leaving values files t o after gone whole) entered) ∙ e) in
      let same = ap (λ (p : PartOf Value). p.stack) (left_of out _ cost _ left refl x) in
      let none : [] ≡ entry ∷ rest = sym (ap (λ s. returned files results s) is) ∙ (same ∙ left_is) in
      absurd cc

-- ---- the event of the thread

module _ (owners : AreOwnersKeptBy values) (files : List (List ℕ)) (trees : Program) (accepted : IsAccepted files trees) (frames : ℕ)
    (state next : State) (reached : IsReached trees frames state) (t r : ℕ) (m : IsRelease state t r next) (e : step trees frames state (next_event t) ≡ Some next) where
  abbrev d : IsDone trees frames state (next_event t) next
  d = done_of trees frames state (next_event t) next e

  abbrev whole_at : StackOf Value
  whole_at = Invocation m.frame ∷ m.below

  left_is : d.left.stack ≡ m.entry ∷ m.rest
  left_is =
      let set = slice_set state.stacks t d.left.stack in
      same_Some d.left.stack (m.entry ∷ m.rest)
      (sym (get_front set (replicate _ []) t d.left.stack (get_set_at state.stacks t whole_at d.left.stack m.there)) ∙ (ap (λ (z : State). slice_get z.stacks t) d.is_next ∙ m.is_after))

  world_is : next.world ≡ d.left.world
  world_is = sym (ap (λ (z : State). z.world) d.is_next) ∙ ap (λ s. end_of t d.left.world s) left_is

  came : bytecode_in values trees frames (next_event t) state.world m.frame m.below (body_of trees m.frame.method) ≡ Next d.cost d.left
  came =
      let same : d.stack ≡ whole_at = same_Some d.stack whole_at (sym d.there ∙ m.there) in
      sym (ap (λ o. going_event values trees frames (next_event t) state.world whole_at o) m.pending)
      ∙ (sym (ap (λ z. thread_event values trees frames (next_event t) state.world whole_at z) m.status)
      ∙ (sym (ap (λ s. thread_event values trees frames (next_event t) state.world s (thread_at state.world t).status) same)
      ∙ d.did))

  there_now : (thread : Thread) × (slice_get state.world.threads t ≡ Some thread)
  there_now =
      let h : IsWellTyped trees state = reached_typed files trees accepted frames state reached in
      let th = thread_there trees (types_of state.world.heap) state.world.threads state.stacks t whole_at h.threads m.there in
      (th.0, th.1.0)

  -- the monitor that is meant is the one that is left
  is_the_one : meant (meant_before values trees (next_event t) state.world whole_at (thread_at state.world t).status) whole_at (m.entry ∷ m.rest) ≡ Some r
  is_the_one = by (is_meant r object) refl
    where
      object : Option ℕ
      object = meant (meant_before values trees (next_event t) state.world whole_at (thread_at state.world t).status) whole_at (m.entry ∷ m.rest)

      by : (b : Bool) → is_meant r object ≡ b → object ≡ Some r
      by true q = meant_is r object q
      by false q =
          let c = step_cost (stepped values trees frames state (next_event t)) next e in
          let keeps = owners trees frames state (next_event t) c.0 next whole_at (m.entry ∷ m.rest) c.1 m.there m.is_after in
          absurd (false≢true (sym m.left ∙ (ap (λ o. owns t o) (keeps r q) ∙ m.owned)))

  meant_running_is : meant_running values trees (next_event t) state.world None whole_at ≡ Some r
  meant_running_is =
      let le = m.no_deeper in
      let before = meant_before_is r _ whole_at (m.entry ∷ m.rest) (omega (arith, le)) is_the_one in
      sym (ap (λ o. meant_running values trees (next_event t) state.world o whole_at) m.pending)
      ∙ (sym (ap (λ z. meant_before values trees (next_event t) state.world whole_at z) m.status) ∙ before)

  module _ (body : Body) (is_body : body_of trees m.frame.method ≡ Some body) (site : Site) (is_site : site_at m.frame.method body m.frame.place.offset ≡ Some site)
      (meaning : MeaningOf Value) (means : meaning_of values trees site ≡ Some meaning)
      (came_by : bytecode_by values trees frames (next_event t) state.world m.frame m.below body.code.max_stack (Some meaning) ≡ Next d.cost d.left) where
    abbrev at : IsAt trees state t
    at = record {
      frame = m.frame;
      stack = m.below;
      status = m.status;
      pending = m.pending;
      there = m.there;
      body = body;
      is_body = is_body;
      site = site;
      is_site = is_site;
      meaning = meaning;
      means = means;
    }

    abbrev ops_now : List Value
    ops_now = ops_of values meaning m.frame.place.slots

    abbrev rest_now : List Value
    rest_now = under meaning.wants m.frame.place.slots

    abbrev does_now : OutcomeOf Value
    does_now = meaning.does (next_event t) state.world m.frame.place.slots ops_now rest_now

    became_now : become values trees frames t state.world m.frame m.below does_now ≡ Next d.cost d.left
    became_now =
        became trees frames t state there_now.0 there_now.1 m.frame m.below d.cost d.left m.entry m.rest left_is m.no_deeper
        (ap (λ (w : World). (thread_at w t).status) (sym world_is) ∙ m.runs) (ap (λ (w : World). (thread_at w t).pending) (sym world_is) ∙ m.calm) site meaning body.code.max_stack came_by

    told_now : Told trees site t state.world there_now.0 there_now.1 m.frame.place.slots ops_now rest_now does_now
    told_now =
        subst (OfMeaning (IsTold trees site t state.world there_now.0 there_now.1 m.frame.place.slots ops_now rest_now)) means
        (all_told trees site t state.world there_now.0 there_now.1 m.frame.place.slots ops_now rest_now)

    by_instr : (i : Instr) → site.instr ≡ i → monitor_operand values ops_now i ≡ Some r → IsToUse trees state t r
    by_instr instr.MonitorEnter is q = Enters at is q
    by_instr instr.MonitorExit is q = Exits at is q
    by_instr instr.Nop is q = not_some r q
    by_instr instr.Null is q = not_some r q
    by_instr (instr.Const value) is q = not_some r q
    by_instr (instr.LoadConstant index) is q = not_some r q
    by_instr (instr.Load kind local) is q = not_some r q
    by_instr (instr.Store kind local) is q = not_some r q
    by_instr (instr.LoadElement kind) is q = not_some r q
    by_instr (instr.StoreElement kind) is q = not_some r q
    by_instr (instr.Move how) is q = not_some r q
    by_instr (instr.Compute how) is q = not_some r q
    by_instr instr.Negate is q = not_some r q
    by_instr (instr.Increment local by) is q = not_some r q
    by_instr (instr.Convert to) is q = not_some r q
    by_instr (instr.If comparison by) is q = not_some r q
    by_instr (instr.IfInts comparison by) is q = not_some r q
    by_instr (instr.IfReferences equal by) is q = not_some r q
    by_instr (instr.IfNull null by) is q = not_some r q
    by_instr (instr.Goto by) is q = not_some r q
    by_instr (instr.TableSwitch default low high place) is q = not_some r q
    by_instr (instr.LookupSwitch default pairs place) is q = not_some r q
    by_instr (instr.Return kind) is q = not_some r q
    by_instr (instr.Field access index) is q = not_some r q
    by_instr (instr.Invoke invocation index) is q = not_some r q
    by_instr (instr.InvokeInterface index count last) is q = not_some r q
    by_instr (instr.New index) is q = not_some r q
    by_instr (instr.NewArray code) is q = not_some r q
    by_instr (instr.NewReferenceArray index) is q = not_some r q
    by_instr instr.ArrayLength is q = not_some r q
    by_instr instr.Throw is q = not_some r q
    by_instr (instr.CheckCast index) is q = not_some r q
    by_instr (instr.InstanceOf index) is q = not_some r q

    by_outcome : (o : OutcomeOf Value) → become values trees frames t state.world m.frame m.below o ≡ Next d.cost d.left
        → Told trees site t state.world there_now.0 there_now.1 m.frame.place.slots ops_now rest_now o
        → meant_by values site.instr m.frame ops_now o ≡ Some r → IsToUse trees state t r
    by_outcome (Goes some after slots to) b told q = by_instr site.instr refl q
    by_outcome (Raises fault) b told q = not_some r q
    by_outcome (Throws exception) b told q = not_some r q
    by_outcome Interrupts b told q = not_some r q
    by_outcome (Calls callee others) b told q = not_some r q
    by_outcome (ReturnsTo after results) b told q =
        let k =
        returns_below trees frames t state there_now.0 there_now.1 m.frame m.below d.cost d.left m.entry m.rest left_is m.no_deeper
        (ap (λ (w : World). (thread_at w t).status) (sym world_is) ∙ m.runs) (ap (λ (w : World). (thread_at w t).pending) (sym world_is) ∙ m.calm) results r after told.1.1 m.owned m.below refl q b
        in
        Returns at told.0 told.1.0 q k.0 k.1 k.2
    by_outcome (Waits some after others) b told q =
        not_waiting trees frames t state there_now.0 there_now.1 m.frame m.below d.cost d.left m.entry m.rest left_is m.no_deeper
        (ap (λ (w : World). (thread_at w t).status) (sym world_is) ∙ m.runs) (ap (λ (w : World). (thread_at w t).pending) (sym world_is) ∙ m.calm) some after others b told

    uses : meant_with values (next_event t) state.world m.frame site meaning ≡ Some r → IsToUse trees state t r
    uses q = by_outcome does_now became_now told_now q

  by_meaning : (body : Body) → body_of trees m.frame.method ≡ Some body → (site : Site) → site_at m.frame.method body m.frame.place.offset ≡ Some site
      → (o : Option (MeaningOf Value)) → meaning_of values trees site ≡ o
      → bytecode_by values trees frames (next_event t) state.world m.frame m.below body.code.max_stack o ≡ Next d.cost d.left
      → option_map_or (meant_with values (next_event t) state.world m.frame site) o None ≡ Some r → IsToUse trees state t r
  by_meaning body b site s None k c q = not_some r q
  by_meaning body b site s (Some meaning) k c q = uses body b site s meaning k c q

  by_site : (body : Body) → body_of trees m.frame.method ≡ Some body → (o : Option Site) → site_at m.frame.method body m.frame.place.offset ≡ o
      → bytecode_by values trees frames (next_event t) state.world m.frame m.below body.code.max_stack (option_and_then (meaning_of values trees) o) ≡ Next d.cost d.left
      → option_map_or (meant_at values trees (next_event t) state.world m.frame) o None ≡ Some r → IsToUse trees state t r
  by_site body b None s c q = not_some r q
  by_site body b (Some site) s c q = by_meaning body b site s (meaning_of values trees site) refl c q

  by_body : (o : Option Body) → body_of trees m.frame.method ≡ o → bytecode_in values trees frames (next_event t) state.world m.frame m.below o ≡ Next d.cost d.left
      → option_map_or (meant_in values trees (next_event t) state.world m.frame) o None ≡ Some r → IsToUse trees state t r
  by_body None b c q = not_some r q
  by_body (Some body) b c q = by_site body b (site_at m.frame.method body m.frame.place.offset) refl c q

  -- so the event is one on the monitor that is left
  pub to_use : IsToUse trees state t r
  to_use = by_body (body_of trees m.frame.method) refl came meant_running_is

pub releases_alone : AreOwnersKeptBy values → AreReleasesAlone
releases_alone owners files trees accepted frames conflict state next reached t r m free e =
    owned_monitors_alone files trees accepted frames conflict state next reached t r m.owned
    (to_use owners files trees accepted frames state next reached t r m e) free e
