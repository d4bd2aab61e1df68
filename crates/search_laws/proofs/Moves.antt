-- An event that called or returned, as the stack of its thread tells, is the thread's own, and alone.
use Rattle.std.proofs.Common.{◌≡◌, ℕ, zero, suc, List, [], ◌∷◌, ◌++◌, length, Bool, true, false, ◌&&◌, if◌then◌else◌, Option, Some, None, refl, sym, ap, ◌∙◌, subst, arith}
use Rattle.std.specs.Prelude.{nat_lt, is_none, slice_get, slice_set, replicate}
use Rattle.std.specs.Option.{option_and_then}
use Rattle.std.proofs.lemmas.Option.{same_Some, none-some}
use Rattle.model.specs.declared.value.Value.{Value}
use Rattle.model.specs.Accepted.{IsAccepted}
use Rattle.model.specs.Classes.{Program, Body, body_of}
use Rattle.model.specs.ClassInitialisation.{Look, IsReady, IsNew, IsHeld, HasFailed, look_by, look_at, status_of}
use Rattle.model.specs.Frames.{frame_count, at_call}
use Rattle.model.specs.Meanings.{meaning_of}
use Rattle.model.specs.Names.{Name}
use Rattle.model.specs.Operands.{values, under}
use Rattle.model.specs.Outcomes.{NoClassDefFound, StackOverflow, IllegalMonitorState, Cost, OutcomeOf, Goes, Raises, Throws, Interrupts, Calls, Returns, Waits}
use Rattle.model.specs.Sites.{MeaningOf, Site, site_at}
use Rattle.model.specs.State.{types_of, Running, Frame, Phase, Super, StackEntryOf, Invocation, Initialisation, StackOf, World, State}
use Rattle.model.specs.Step.{SteppedOf, NotEnabled, WrongKind, Next, PartOf, part, on_to, raised, next_by, enabled_if, unpicked, ops_of, done, needing, needing_class, returned, leaving, become, entering, bytecode_by, bytecode_in, going_event, thread_event, step}
use Rattle.model.specs.Worlds.{thread_at, is_owner, may_enter, with_entry, with_exit, entry_cost}
use Rattle.run_laws.specs.interleavings.Local.{is_going, with_stack}
use Rattle.run_laws.proofs.typed_runs.Threads.{get_set_at}
use Rattle.search_laws.specs.Alone.{passing, next_event, IsAlone, HaveSameWords}
use Rattle.search_laws.specs.KeptStates.{IsReached}
use Rattle.search_laws.specs.Moves.{HasMoved, Called, Returned, IsMove, AreMovesAlone}
use Rattle.search_laws.specs.OwnEvents.{IsOwnEvent}
use Rattle.search_laws.specs.OwnSteps.{asks, if_left, is_ready, own_outcome, own_meant, own_at, own_in, own_stack, next_own}
use Rattle.search_laws.proofs.ClassesKept.{all}
use Rattle.search_laws.proofs.Events.{IsDone, done_of}
use Rattle.search_laws.proofs.OwnEvents.{all_written, own_events_alone}
use Rattle.search_laws.proofs.OwnSteps.{own_steps_own}
use Rattle.search_laws.proofs.Verdicts.{reached_typed}

-- ---- what is left of a stack

pub get_front : {A : Type 0} (xs ys : List A) (k : ℕ) (x : A) → slice_get xs k ≡ Some x → slice_get (xs ++ ys) k ≡ Some x
get_front [] ys k x e = absurd (none-some x e)
get_front (z ∷ zs) ys zero x e = e
get_front (z ∷ zs) ys (suc k) x e = get_front zs ys k x e

module _ (frame : Frame) (below : StackOf Value) where
  -- neither a call nor a return leaves as many entries
  pub as_many : {X : Type 0} (after : StackOf Value) → length after ≡ suc (length below) → HasMoved frame below after → X
  as_many after e (Called callee rest is none deep) = let many = ap length is in absurd (omega (arith, e, deep, many))
  as_many after e (Returned entry rest is none deep) = let many = ap length is in absurd (omega (arith, e, deep, many))

  -- a call is of a frame that entered no monitor
  deeper : (after : StackOf Value) (entry : StackEntryOf Value) (rest : StackOf Value) → after ≡ entry ∷ rest → length rest ≡ suc (length below)
      → HasMoved frame below after → (callee : Frame) × ((entry ≡ Invocation callee) × (callee.entered ≡ None))
  deeper after entry rest own e (Called callee others is none deep) =
      let same : entry ∷ rest ≡ Invocation callee ∷ others = sym own ∙ is in (callee, (cc, none))
  deeper after entry rest own e (Returned one others is none deep) =
      let many = ap length is in let more = ap length own in absurd (omega (arith, e, deep, many, more))

  -- a return leaves something, of a frame that had entered none
  higher : (after : StackOf Value) → length after ≡ length below → HasMoved frame below after → (frame.entered ≡ None) × (if_left after ≡ Some after)
  higher after e (Called callee rest is none deep) = let many = ap length is in absurd (omega (arith, e, deep, many))
  higher after e (Returned entry rest is none deep) = (none, ap if_left is ∙ ap (λ (s : StackOf Value). Some s) (sym is))

pub returned_many : (files : Program) (results : List Value) (stack : StackOf Value) → length (returned files results stack) ≡ length stack
returned_many files results [] = refl
returned_many files results (Invocation frame ∷ stack) = refl
returned_many files results (Initialisation class phase ∷ stack) = refl

-- what an event leaves, where it leads on
pub left_of : (x : SteppedOf (PartOf Value)) (cost other : Cost) (one left : PartOf Value) → x ≡ Next cost one → x ≡ Next other left → one ≡ left
left_of x cost other one left p q = by (sym p ∙ q)
  where
    by : Next cost one ≡ Next other left → one ≡ left
    by e = cc

pub none_left : {X : Type 0} (x : SteppedOf (PartOf Value)) (cost : Cost) (left : PartOf Value) → next_by x ≡ None → x ≡ Next cost left → X
none_left x cost left off e = absurd (none-some left (sym off ∙ ap next_by e))

invocation_same : (one other : Frame) → Invocation one ≡ Invocation other → one ≡ other
invocation_same one other e = cc

no_class : (class : Name) (phase : Phase) (frame : Frame) → Initialisation class phase ≡ Invocation frame → ⊥
no_class class phase frame e = absurd cc

-- ---- what an instruction came to

module _ (files : Program) (frames t : ℕ) (world : World) (frame : Frame) (below : StackOf Value) (query : Bool) (cost : Cost) (left : PartOf Value)
    (moved : HasMoved frame below left.stack) where
  abbrev whole : StackOf Value
  whole = Invocation frame ∷ below

  -- one that leaves as many entries did not move
  stays : {X : Type 0} (x : SteppedOf (PartOf Value)) (some : Cost) (one : PartOf Value) → x ≡ Next some one → length one.stack ≡ suc (length below) → x ≡ Next cost left → X
  stays x some one is many e =
      let same : one ≡ left = left_of x some cost one left is e in
      as_many frame below left.stack (ap length (ap (λ (p : PartOf Value). p.stack) (sym same)) ∙ many) moved

  entered_by : (o : Option ℕ) (callee : Frame) → callee.entered ≡ o → (rest : StackOf Value) → length rest ≡ suc (length below)
      → entering t world rest callee o ≡ Next cost left → (is_none o ≡ true) × (left.stack ≡ Invocation callee ∷ rest)
  entered_by None callee is rest many e = (refl, ap (λ (p : PartOf Value). p.stack) (sym (left_of (entering t world rest callee None) _ cost _ left refl e)))
  entered_by (Some object) callee is rest many e = by (may_enter world t object) refl e
    where
      by : (b : Bool) → may_enter world t object ≡ b
          → enabled_if b (Next (entry_cost world object) (part (with_entry world t object) (Invocation callee ∷ rest))) ≡ Next cost left
          → (is_none (Some object) ≡ true) × (left.stack ≡ Invocation callee ∷ rest)
      by false q x = none_left NotEnabled cost left refl x
      by true q x =
          let same = left_of (Next (entry_cost world object) (part (with_entry world t object) (Invocation callee ∷ rest))) _ cost _ left refl x in
          let k = deeper frame below left.stack (Invocation callee) rest (ap (λ (p : PartOf Value). p.stack) (sym same)) many moved in
          let own : callee ≡ k.0 = invocation_same callee k.0 k.1.0 in
          absurd (none-some object (sym k.1.1 ∙ (ap (λ (f : Frame). f.entered) (sym own) ∙ is)))

  called_by : (callee : Frame) (rest : List Value) (b : Bool) → nat_lt (frame_count whole) frames ≡ b
      → (if b then entering t world (Invocation (at_call frame rest) ∷ below) callee callee.entered else raised values files t StackOverflow world whole) ≡ Next cost left
      → own_outcome files frames frame below query (Calls callee rest) ≡ Some left.stack
  called_by callee rest false q e = stays (raised values files t StackOverflow world whole) _ _ refl refl e
  called_by callee rest true q e =
      let k = entered_by callee.entered callee refl (Invocation (at_call frame rest) ∷ below) refl e in
      ap (λ b. if b && is_none callee.entered then Some (Invocation callee ∷ Invocation (at_call frame rest) ∷ below) else None) q
      ∙ (ap (λ b. if b then Some (Invocation callee ∷ Invocation (at_call frame rest) ∷ below) else None) k.0
      ∙ ap (λ (s : StackOf Value). Some s) (sym k.1))

  returned_by : (after : World) (results : List Value) (o : Option ℕ) → frame.entered ≡ o
      → leaving values files t o after (returned files results below) whole ≡ Next cost left
      → own_outcome files frames frame below query (Returns after results) ≡ Some left.stack
  returned_by after results None is e =
      let same = left_of (leaving values files t None after (returned files results below) whole) _ cost _ left refl e in
      let gone : returned files results below ≡ left.stack = ap (λ (p : PartOf Value). p.stack) same in
      let k = higher frame below left.stack (ap length (sym gone) ∙ returned_many files results below) moved in
      ap (λ o. if is_none o then if_left (returned files results below) else None) is ∙ (ap if_left gone ∙ k.1)
  returned_by after results (Some object) is e = by (is_owner after t object) refl e
    where
      by : (b : Bool) → is_owner after t object ≡ b
          → (if b then on_to (with_exit after t object) (returned files results below) else raised values files t IllegalMonitorState after whole) ≡ Next cost left
          → own_outcome files frames frame below query (Returns after results) ≡ Some left.stack
      by false q x = stays (raised values files t IllegalMonitorState after whole) _ _ refl refl x
      by true q x =
          let same = left_of (on_to (with_exit after t object) (returned files results below)) _ cost _ left refl x in
          let gone : returned files results below ≡ left.stack = ap (λ (p : PartOf Value). p.stack) same in
          let k = higher frame below left.stack (ap length (sym gone) ∙ returned_many files results below) moved in
          absurd (none-some object (sym k.0 ∙ is))

  came_to : (o : OutcomeOf Value) → become values files frames t world frame below o ≡ Next cost left
      → own_outcome files frames frame below query o ≡ Some left.stack
  came_to (Goes some after slots to) e = stays (become values files frames t world frame below (Goes some after slots to)) _ _ refl refl e
  came_to (Raises fault) e = stays (become values files frames t world frame below (Raises fault)) _ _ refl refl e
  came_to (Throws exception) e = stays (become values files frames t world frame below (Throws exception)) _ _ refl refl e
  came_to Interrupts e = stays (become values files frames t world frame below Interrupts) _ _ refl refl e
  came_to (Calls callee rest) e = called_by callee rest (nat_lt (frame_count whole) frames) refl e
  came_to (Returns after results) e = returned_by after results frame.entered refl e
  came_to (Waits some after rest) e = stays (become values files frames t world frame below (Waits some after rest)) _ _ refl refl e

  -- the class that it needs was ready
  needed : (class : Option Name) (x : SteppedOf (PartOf Value)) → needing_class values files t class world whole x ≡ Next cost left
      → (is_ready (look_at t world class) ≡ true) × (x ≡ Next cost left)
  needed None x e = (refl, e)
  needed (Some class) x e = by (look_by t (status_of world class)) refl e
    where
      by : (look : Look) → look_by t (status_of world class) ≡ look → needing values files t class look world whole x ≡ Next cost left
          → (is_ready (look_by t (status_of world class)) ≡ true) × (x ≡ Next cost left)
      by IsReady q y = (ap is_ready q, y)
      by IsNew q y =
          let same = left_of (needing values files t class IsNew world whole x) _ cost _ left refl y in
          let k = deeper frame below left.stack (Initialisation class Super) whole (ap (λ (p : PartOf Value). p.stack) (sym same)) refl moved in
          absurd (no_class class Super k.0 k.1.0)
      by IsHeld q y = none_left NotEnabled cost left refl y
      by HasFailed q y = stays (raised values files t NoClassDefFound world whole) _ _ refl refl y

-- ---- what its frame and its thread came to

module _ (files : Program) (frames t : ℕ) (world : World) (frame : Frame) (below : StackOf Value) (cost : Cost) (left : PartOf Value)
    (moved : HasMoved frame below left.stack) where
  abbrev all_of : StackOf Value
  all_of = Invocation frame ∷ below

  module _ (site : Site) (meaning : MeaningOf Value) where
    abbrev ops_now : List Value
    ops_now = ops_of values meaning frame.place.slots

    abbrev rest_now : SteppedOf (PartOf Value)
    rest_now = done values files frames (next_event t) world frame below meaning

    by_may : (b : Bool) → enabled_if b (needing_class values files t meaning.looks world all_of rest_now) ≡ Next cost left
        → own_meant all files frames t world frame below site meaning ≡ Some left.stack
    by_may false x = none_left NotEnabled cost left refl x
    by_may true x =
        let n = needed files frames t world frame below (asks all files site) cost left moved meaning.looks rest_now x in
        let does = meaning.does (next_event t) world frame.place.slots ops_now (under meaning.wants frame.place.slots) in
        ap (λ b. if b then own_outcome files frames frame below (asks all files site) does else None) n.0
        ∙ came_to files frames t world frame below (asks all files site) cost left moved does n.1

    by_found : (b : Bool)
        → (if b then enabled_if (meaning.may (next_event t) world ops_now) (needing_class values files t meaning.looks world all_of rest_now) else unpicked (next_event t) WrongKind) ≡ Next cost left
        → own_meant all files frames t world frame below site meaning ≡ Some left.stack
    by_found false x = none_left WrongKind cost left refl x
    by_found true x = by_may (meaning.may (next_event t) world ops_now) x

    meant : (max_stack : ℕ) → bytecode_by values files frames (next_event t) world frame below max_stack (Some meaning) ≡ Next cost left
        → own_meant all files frames t world frame below site meaning ≡ Some left.stack
    meant max_stack e = by_found (values.finds files (types_of world.heap) meaning.wants max_stack frame.place.slots) e

  by_meaning : (site : Site) (max_stack : ℕ) (o : Option (MeaningOf Value)) → bytecode_by values files frames (next_event t) world frame below max_stack o ≡ Next cost left
      → option_and_then (own_meant all files frames t world frame below site) o ≡ Some left.stack
  by_meaning site max_stack None e = none_left WrongKind cost left refl e
  by_meaning site max_stack (Some meaning) e = meant site meaning max_stack e

  by_site : (max_stack : ℕ) (o : Option Site) → bytecode_by values files frames (next_event t) world frame below max_stack (option_and_then (meaning_of values files) o) ≡ Next cost left
      → option_and_then (own_at all files frames t world frame below) o ≡ Some left.stack
  by_site max_stack None e = none_left WrongKind cost left refl e
  by_site max_stack (Some site) e = by_meaning site max_stack (meaning_of values files site) e

  by_body : (o : Option Body) → bytecode_in values files frames (next_event t) world frame below o ≡ Next cost left
      → option_and_then (own_in all files frames t world frame below) o ≡ Some left.stack
  by_body None e = none_left WrongKind cost left refl e
  by_body (Some body) e = by_site body.code.max_stack (site_at frame.method body frame.place.offset) e

-- ---- the event of the thread

module _ (files : List (List ℕ)) (trees : Program) (accepted : IsAccepted files trees) (frames : ℕ) (state next : State) (reached : IsReached trees frames state)
    (t : ℕ) (m : IsMove state t next) (e : step trees frames state (next_event t) ≡ Some next) where
  abbrev d : IsDone trees frames state (next_event t) next
  d = done_of trees frames state (next_event t) next e

  abbrev whole_at : StackOf Value
  whole_at = Invocation m.frame ∷ m.below

  -- its stack is what it left
  after_is : d.left.stack ≡ m.after
  after_is =
      let set = slice_set state.stacks t d.left.stack in
      same_Some d.left.stack m.after
      (sym (get_front set (replicate _ []) t d.left.stack (get_set_at state.stacks t whole_at d.left.stack m.there)) ∙ (ap (λ (z : State). slice_get z.stacks t) d.is_next ∙ m.is_after))

  came : bytecode_in values trees frames (next_event t) state.world m.frame m.below (body_of trees m.frame.method) ≡ Next d.cost d.left
  came =
      let same : d.stack ≡ whole_at = same_Some d.stack whole_at (sym d.there ∙ m.there) in
      sym (ap (λ o. going_event values trees frames (next_event t) state.world whole_at o) m.pending)
      ∙ (sym (ap (λ z. thread_event values trees frames (next_event t) state.world whole_at z) m.status)
      ∙ (sym (ap (λ s. thread_event values trees frames (next_event t) state.world s (thread_at state.world t).status) same)
      ∙ d.did))

  is_own : next_own all trees frames state t ≡ Some d.left.stack
  is_own =
      let moved = subst (HasMoved m.frame m.below) (sym after_is) m.moved in
      let so : Option (StackOf Value) = option_and_then (own_stack all trees frames t state.world) (slice_get state.stacks t) in
      ap (λ z. if is_going z (thread_at state.world t).pending then so else None) m.status
      ∙ (ap (λ o. if is_going Running o then so else None) m.pending
      ∙ (ap (option_and_then (own_stack all trees frames t state.world)) m.there
      ∙ by_body trees frames t state.world m.frame m.below d.cost d.left moved (body_of trees m.frame.method) came))

  -- it is the thread's own
  pub move_own : IsOwnEvent trees frames all state t m.after
  move_own =
      own_steps_own files trees accepted frames state (reached_typed files trees accepted frames state reached) t m.after all
      (is_own ∙ ap (λ (s : StackOf Value). Some s) after_is)

pub moves_alone : AreMovesAlone
moves_alone files trees accepted frames conflict state next reached t m free e =
    let o = move_own files trees accepted frames state next reached t m e in
    let a = own_events_alone files trees accepted frames conflict state reached t m.after all (all_written trees frames state t) o free in
    subst (λ z. IsAlone trees frames (passing conflict) (HaveSameWords trees) state t z) (same_Some (with_stack state t m.after) next (sym a.0.goes ∙ e)) a.0
