-- A local event: what it is, and that it is enabled.
use Rattle.std.proofs.Common.{◌≡◌, ℕ, ◌-◌, [], ◌∷◌, ◌++◌, length, Bool, true, false, ◌==◌, Option, Some, None, refl, sym, ap, ◌∙◌, subst, arith}
use Rattle.std.specs.Prelude.{slice_get, slice_set, if◌then◌else◌, is_none, replicate}
use Rattle.std.specs.Option.{option_map, option_and_then}
use Rattle.std.proofs.lemmas.Bool.{false≢true}
use Rattle.std.proofs.lemmas.List.{append-nil}
use Rattle.std.proofs.lemmas.Option.{same_Some, none-some}
use Rattle.model.specs.declared.event.Event.{Event}
use Rattle.model.specs.declared.value.Value.{Value}
use Rattle.model.specs.Classes.{Program, Body, body_of}
use Rattle.model.specs.Operands.{values, over_values}
use Rattle.model.specs.Rows.{Row, row_wants, after_row, row_target}
use Rattle.model.specs.Outcomes.{OutcomeOf, Goes, Raises, Free, Arithmetic}
use Rattle.model.specs.Sites.{Site, site_at}
use Rattle.model.specs.Frames.{at_offset}
use Rattle.model.specs.Meanings.{local_or, meaning_of}
use Rattle.model.specs.State.{types_of, ThreadStatus, Running, Waiting, Relock, Ended, Frame, Invocation, Initialisation, StackOf, World, State}
use Rattle.model.specs.Worlds.{thread_at}
use Rattle.model.specs.WellTyped.{IsWellTyped}
use Rattle.model.specs.Step.{SteppedOf, WrongKind, Next, PartOf, part, enabled_if, unpicked, settled, become, bytecode_by, bytecode_in, running_event, going_event, thread_event, with_part, event_of, stepped, next_by, step}
use Rattle.run_laws.specs.laws.Steps.{is_wrong}
use Rattle.run_laws.proofs.typed_runs.Settled.{lengths_same}
use Rattle.run_laws.specs.interleavings.Local.{row_at, row_in, operand_words, after_local, local_stack, is_going, next_local, with_stack}

-- ---- what is known where the next event of a thread is local

pub record IsNext (files : Program) (state : State) (t : ℕ) (own : StackOf Value) : Type 0 where
  pub stack : StackOf Value
  pub status : (thread_at state.world t).status ≡ Running
  pub pending : (thread_at state.world t).pending ≡ None
  pub there : slice_get state.stacks t ≡ Some stack
  pub does : local_stack files stack ≡ Some own

none_of : (p : Option ℕ) → is_none p ≡ true → p ≡ None
none_of None h = refl
none_of (Some x) h = absurd (false≢true h)

going : (s : ThreadStatus) (p : Option ℕ) → is_going s p ≡ true → (s ≡ Running) × (p ≡ None)
going Running p h = (refl, none_of p h)
going (Waiting object count) p h = absurd (false≢true h)
going (Relock object count cause) p h = absurd (false≢true h)
going (Ended exception) p h = absurd (false≢true h)

module _ (files : Program) (state : State) (t : ℕ) (own : StackOf Value) where
  by_stack : (o : Option (StackOf Value)) → slice_get state.stacks t ≡ o
      → is_going (thread_at state.world t).status (thread_at state.world t).pending ≡ true
      → option_and_then (local_stack files) o ≡ Some own → IsNext files state t own
  by_stack None e g h = absurd (none-some own h)
  by_stack (Some stack) e g h =
      let q = going (thread_at state.world t).status (thread_at state.world t).pending g in
      record { stack = stack; status = q.0; pending = q.1; there = e; does = h }

  by_going : (b : Bool) → is_going (thread_at state.world t).status (thread_at state.world t).pending ≡ b
      → (if b then option_and_then (local_stack files) (slice_get state.stacks t) else None) ≡ Some own → IsNext files state t own
  by_going true e h = by_stack (slice_get state.stacks t) refl e h
  by_going false e h = absurd (none-some own h)

  pub next_of : next_local files state t ≡ Some own → IsNext files state t own
  next_of h = by_going (is_going (thread_at state.world t).status (thread_at state.world t).pending) refl h

  pub of_next : IsNext files state t own → next_local files state t ≡ Some own
  of_next n =
      let all = option_and_then (local_stack files) (slice_get state.stacks t) in
      ap (λ s. if is_going s (thread_at state.world t).pending then all else None) n.status
      ∙ (ap (λ p. if is_none p then all else None) n.pending ∙ (ap (option_and_then (local_stack files)) n.there ∙ n.does))

-- ---- the instruction

pub record IsOwn (files : Program) (stack own : StackOf Value) : Type 0 where
  pub frame : Frame
  pub rest : StackOf Value
  pub stack_is : stack ≡ Invocation frame ∷ rest
  pub body : Body
  pub is_body : body_of files frame.method ≡ Some body
  pub site : Site
  pub is_site : site_at frame.method body frame.place.offset ≡ Some site
  pub row : Row
  pub is_row : row_at site ≡ Some row
  pub passes : row.fails (operand_words frame row) ≡ false
  pub own_is : Invocation (at_offset frame (row_target row (operand_words frame row)) (after_row over_values row frame.place.slots)) ∷ rest
      ≡ own

module _ (files : Program) (frame : Frame) (rest own : StackOf Value) where
  abbrev put : Option Frame → Option (StackOf Value)
  put o = option_map (λ after. Invocation after ∷ rest) o

  module _ (body : Body) (is_body : body_of files frame.method ≡ Some body) (site : Site) (is_site : site_at frame.method body frame.place.offset ≡ Some site) (row : Row) (is_row : row_at site ≡ Some row) where
    by_fails : (b : Bool) → row.fails (operand_words frame row) ≡ b
        → put (if b then None else Some (at_offset
        frame (row_target row (operand_words frame row)) (after_row over_values row frame.place.slots))) ≡ Some own
        → IsOwn files (Invocation frame ∷ rest) own
    by_fails true e h = absurd (none-some own h)
    by_fails false e h =
        record { frame = frame; rest = rest; stack_is = refl; body = body; is_body = is_body; site = site; is_site = is_site; row = row; is_row = is_row; passes = e; own_is = same_Some _ own h }

  by_row : (body : Body) → body_of files frame.method ≡ Some body → (site : Site)
      → site_at frame.method body frame.place.offset ≡ Some site → (o : Option Row) → row_at site ≡ o
      → put (option_and_then (after_local frame) o) ≡ Some own → IsOwn files (Invocation frame ∷ rest) own
  by_row body b site s None e h = absurd (none-some own h)
  by_row body b site s (Some row) e h = by_fails body b site s row e (row.fails (operand_words frame row)) refl h

  by_site : (body : Body) → body_of files frame.method ≡ Some body → (o : Option Site) → site_at frame.method body frame.place.offset ≡ o
      → put (option_and_then (after_local frame) (option_and_then row_at o)) ≡ Some own → IsOwn files (Invocation frame ∷ rest) own
  by_site body b None e h = absurd (none-some own h)
  by_site body b (Some site) e h = by_row body b site e (row_at site) refl h

  by_body : (o : Option Body) → body_of files frame.method ≡ o
      → put (option_and_then (after_local frame) (option_and_then (row_in frame) o)) ≡ Some own → IsOwn files (Invocation frame ∷ rest) own
  by_body None e h = absurd (none-some own h)
  by_body (Some body) e h = by_site body e (site_at frame.method body frame.place.offset) refl h

pub own_of : (files : Program) (stack own : StackOf Value) → local_stack files stack ≡ Some own → IsOwn files stack own
own_of files [] own h = absurd (none-some own h)
own_of files (Invocation frame ∷ rest) own h = by_body files frame rest own (body_of files frame.method) refl h
own_of files (Initialisation class phase ∷ rest) own h = absurd (none-some own h)

-- ---- its event

module _ (files : Program) (frames : ℕ) (event : Event) (world : World) (stack own : StackOf Value) (o : IsOwn files stack own) where
  abbrev finds : Bool
  finds = values.finds files (types_of world.heap) (row_wants o.row) o.body.code.max_stack o.frame.place.slots

  abbrev goes : OutcomeOf Value
  goes = Goes Free world (after_row over_values o.row o.frame.place.slots) (row_target o.row (operand_words o.frame o.row))

  abbrev by_test : Bool → SteppedOf (PartOf Value)
  by_test fails =
      if finds then enabled_if (event.pick == 0) (become values files frames event.thread world o.frame o.rest (if fails then Raises Arithmetic else goes)) else unpicked event WrongKind

  -- done, where it finds its operands
  pub own_running : running_event values files frames event world stack
      ≡ (if finds then enabled_if (event.pick == 0) (Next Free (part world own)) else unpicked event WrongKind)
  own_running =
      ap (running_event values files frames event world) o.stack_is
      ∙ (ap (bytecode_in values files frames event world o.frame o.rest) o.is_body
      ∙ (ap (λ s. bytecode_by values files frames event world o.frame o.rest o.body.code.max_stack (option_and_then (meaning_of values files) s)) o.is_site
      ∙ (ap (λ r. bytecode_by values files frames event world o.frame o.rest o.body.code.max_stack (local_or values files o.site r)) o.is_row
      ∙ (ap by_test o.passes
      ∙ ap (λ k. if finds then enabled_if (event.pick == 0) (Next Free (part world k)) else unpicked event WrongKind) o.own_is))))

-- the stack of a local event is not empty, so the thread does not end by it
stays_on : (files : Program) (world : World) (t : ℕ) (stack own : StackOf Value) → IsOwn files stack own
    → settled t (Next Free (part world own)) ≡ Next Free (part world own)
stays_on files world t stack own o = subst (λ k. settled t (Next Free (part world k)) ≡ Next Free (part world k)) o.own_is refl

module _ (files : Program) (frames : ℕ) (state : State) (h : IsWellTyped files state) (event : Event) (own : StackOf Value)
    (n : IsNext files state event.thread own) where
  abbrev put_back : SteppedOf (PartOf Value) → SteppedOf State
  put_back x = with_part state event.thread (settled event.thread x)

  abbrev found : Bool
  found = finds files frames event state.world n.stack own (own_of files n.stack own n.does)

  own_event : stepped values files frames state event
      ≡ put_back (if found then enabled_if (event.pick == 0) (Next Free (part state.world own)) else unpicked event WrongKind)
  own_event =
      ap (event_of values files frames state event) n.there
      ∙ (ap (λ s. put_back (thread_event values files frames event state.world n.stack s)) n.status
      ∙ (ap (λ p. put_back (going_event values files frames event state.world n.stack p)) n.pending
      ∙ ap put_back (own_running files frames event state.world n.stack own (own_of files n.stack own n.does))))

  there_now : with_part state event.thread (Next Free (part state.world own)) ≡ Next Free (with_stack state event.thread own)
  there_now =
      let e = lengths_same files (types_of state.world.heap) state.world.threads state.stacks h.threads in
      let none : length state.world.threads - length state.stacks ≡ 0 = omega (arith, e) in
      let ss = slice_set state.stacks event.thread own in
      ap (λ k. Next Free (let s : State = record { world = state.world; stacks = ss ++ replicate k [] } in s)) none
      ∙ ap (λ k. Next Free (let s : State = record { world = state.world; stacks = k } in s)) (append-nil ss)

  done_now : put_back (Next Free (part state.world own)) ≡ Next Free (with_stack state event.thread own)
  done_now = ap (with_part state event.thread) (stays_on files state.world event.thread n.stack own (own_of files n.stack own n.does)) ∙ there_now

  by_found : is_wrong (stepped values files frames state event) ≡ false → (b : Bool) → (event.pick == 0) ≡ true
      → stepped values files frames state event
      ≡ put_back (if b then enabled_if (event.pick == 0) (Next Free (part state.world own)) else unpicked event WrongKind)
      → stepped values files frames state event ≡ Next Free (with_stack state event.thread own)
  by_found right true p e = e ∙ (ap (λ b. put_back (enabled_if b (Next Free (part state.world own)))) p ∙ done_now)
  by_found right false p e =
      let wrong : stepped values files frames state event ≡ WrongKind = e ∙ ap (λ b. put_back (enabled_if b WrongKind)) p in
      absurd (false≢true (sym right ∙ ap is_wrong wrong))

  pub own_stepped : is_wrong (stepped values files frames state event) ≡ false → (event.pick == 0) ≡ true
      → stepped values files frames state event ≡ Next Free (with_stack state event.thread own)
  own_stepped right p = by_found right found p own_event

  by_pick : (b : Bool) → (event.pick == 0) ≡ false
      → stepped values files frames state event
      ≡ put_back (if b then enabled_if (event.pick == 0) (Next Free (part state.world own)) else unpicked event WrongKind)
      → step files frames state event ≡ None
  by_pick true p e = ap next_by (e ∙ ap (λ b. put_back (enabled_if b (Next Free (part state.world own)))) p)
  by_pick false p e = ap next_by (e ∙ ap (λ b. put_back (enabled_if b WrongKind)) p)

  -- with another pick than 0 it is not enabled
  pub own_unpicked : (event.pick == 0) ≡ false → step files frames state event ≡ None
  own_unpicked p = by_pick found p own_event
