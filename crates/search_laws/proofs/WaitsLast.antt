-- A thread that waits for another one waits for it still behind each event of a third one, and has no event meanwhile.
use Rattle.std.proofs.Common.{◌≡◌, ℕ, zero, suc, List, [], ◌∷◌, length, nat_lt, Bool, true, false, ◌==◌, if◌then◌else◌, Option, Some, None, option_map, refl, sym, ap, ◌∙◌, subst}
use Rattle.std.specs.Prelude.{◌-◌, slice_get, slice_set, replicate}
use Rattle.std.specs.Option.{option_and_then}
use Rattle.std.proofs.lemmas.Bool.{false≢true, eqb-true}
use Rattle.std.proofs.lemmas.Option.{same_Some, none-some, get_or_from_slice_get, slice_get-map}
use Rattle.model.specs.declared.event.Event.{Event}
use Rattle.model.specs.declared.instr.Instr.{Instr}
use Rattle.model.specs.declared.instr.Instr.TheVariants as instr
use Rattle.model.specs.declared.value.Value.{Value}
use Rattle.model.specs.Accepted.{IsAccepted}
use Rattle.model.specs.Classes.{Program, Body, body_of}
use Rattle.model.specs.ClassInitialisation.{status_of, IsReady, IsHeld, look_by}
use Rattle.model.specs.Frames.{entered_by, frame_count, is_synchronized_one}
use Rattle.model.specs.Lookup.{select}
use Rattle.model.specs.Meanings.{meaning_of}
use Rattle.model.specs.Monitors.{owns, monitor_at}
use Rattle.model.specs.Names.{Name, Member, thread_run}
use Rattle.model.specs.Operands.{values, under}
use Rattle.model.specs.Outcomes.{OutcomeOf}
use Rattle.model.specs.Sites.{MeaningOf, Site, site_at}
use Rattle.model.specs.State.{ObjectOf, ClassStatus, NotInitialised, InProgress, Initialised, Erroneous, Monitor, type_of, types_of, ThreadStatus, Running, Waiting, Relock, Ended, Frame, Super, End, Invocation, Initialisation, StackOf, Thread, World, State}
use Rattle.model.specs.Step.{before, ops_of, step}
use Rattle.model.specs.WellTyped.{Extends, IsThreadTyped, IsWellTyped}
use Rattle.model.specs.Worlds.{thread_at, no_thread, object_at, class_of_object, no_object, is_owner}
use Rattle.run_laws.proofs.laws.Lists.{get_front}
use Rattle.run_laws.proofs.laws.Operations.{OfMeaning}
use Rattle.run_laws.proofs.typed_runs.Changes.{Moved, Same, Wakes, Still}
use Rattle.run_laws.proofs.typed_runs.Settled.{thread_there}
use Rattle.run_laws.proofs.typed_runs.Threads.{get_set_other}
use Rattle.search_laws.specs.KeptStates.{IsReached}
use Rattle.search_laws.specs.Waits.{Need, MonitorOf, ClassOf, IsHeldBy, look_need, callee_entered, class_need, frame_need, instruction_need, meant_need, site_need, body_need, begin_need, stack_need, going_need, status_need, next_need, WaitsFor, WaitInTurn, IsCircle}
use Rattle.search_laws.proofs.Callees.{Once, entered_again, same_class}
use Rattle.search_laws.proofs.ClassesKept.{in_progress_inv, Stays, class_stays, effect, d, left, reached_held}
use Rattle.search_laws.proofs.Events.{changed, still, done_of}
use Rattle.search_laws.proofs.Owners.{differs}
use Rattle.search_laws.proofs.Verdicts.{reached_typed}
use Rattle.search_laws.proofs.Waiting.{LeadsNowhere, no_need, mapped, status_nowhere}

-- an object whose monitor has an owner is there
owner_there : (u : ℕ) (ms : List Monitor) (heap : List (ObjectOf Value)) (object : ℕ) → length ms ≡ length heap
    → owns u (monitor_at ms object).owner ≡ true → (o : ObjectOf Value) × (slice_get heap object ≡ Some o)
owner_there u [] heap object e own = absurd (false≢true own)
owner_there u (m ∷ ms) [] object e own = absurd cc
owner_there u (m ∷ ms) (o ∷ heap) zero e own = (o, refl)
owner_there u (m ∷ ms) (o ∷ heap) (suc object) e own = let same : length ms ≡ length heap = cc in owner_there u ms heap object same own

-- where it is there, its type stays
pub type_kept : (before after : World) (object : ℕ) (o : ObjectOf Value) → Extends (types_of before.heap) (types_of after.heap)
    → slice_get before.heap object ≡ Some o → type_of (object_at after object) ≡ type_of (object_at before object)
type_kept before after object o x there =
    let was = get_or_from_slice_get before.heap object o no_object there in
    let typed = slice_get-map type_of before.heap object ∙ ap (option_map type_of) there in
    by (slice_get after.heap object) refl (sym (slice_get-map type_of after.heap object) ∙ x.keeps object (type_of o) typed) ∙ sym (ap type_of was)
  where
    by : (k : Option (ObjectOf Value)) → slice_get after.heap object ≡ k → option_map type_of k ≡ Some (type_of o)
        → type_of (object_at after object) ≡ type_of o
    by None q e = absurd (none-some (type_of o) e)
    by (Some z) q e = ap type_of (get_or_from_slice_get after.heap object z no_object q) ∙ same_Some (type_of z) (type_of o) e

module _ (files : List (List ℕ)) (trees : Program) (accepted : IsAccepted files trees) (frames : ℕ) (s next : State) (event : Event)
    (r : IsReached trees frames s) (e : step trees frames s event ≡ Some next) where
  h : IsWellTyped trees s
  h = reached_typed files trees accepted frames s r

  abbrev v : ℕ
  v = event.thread

  extends : Extends (types_of s.world.heap) (types_of next.world.heap)
  extends = (changed files trees accepted frames s h event next e).extends

  -- who waits has no event
  pub waits_nowhere : (u : ℕ) → WaitsFor trees frames v u s → ⊥
  waits_nowhere u w =
      let k = done_of trees frames s event next e in
      let needs = sym (ap (option_and_then (λ stack. status_need values trees frames v s.world stack (thread_at s.world v).status)) k.there) ∙ w.needs in
      let nowhere = status_nowhere trees frames u s.world w.need w.held v event.pick w.differ k.stack (thread_at s.world v).status needs in
      subst LeadsNowhere k.did nowhere

  module _ (t u : ℕ) (t_not : t ≡ v → ⊥) (u_not : u ≡ v → ⊥) (w : WaitsFor trees frames t u s) where
    abbrev need : Need
    need = w.need

    status_kept : (c : Name) (k : ClassStatus) → Stays v k → status_of s.world c ≡ k → status_of next.world c ≡ k
    status_kept c k x q = class_stays trees frames s next event e (reached_held trees frames s r) c k x q

    progress_stays : (by : ℕ) → (by ≡ v → ⊥) → Stays v (InProgress by)
    progress_stays by n = record { known = λ q. absurd cc; others = λ q. n (in_progress_inv by v q) }

    held_by : (n : Need) → IsHeldBy s.world u n → IsHeldBy next.world u n
    held_by (MonitorOf object) own =
        let k = d trees frames s next event e in
        subst (λ (z : State). is_owner z.world u object ≡ true) k.is_next ((effect trees frames s next event e).monitors u object u_not own)
    held_by (ClassOf class) q = status_kept class (InProgress u) (progress_stays u u_not) q

    -- ---- a class

    class_kept : (class : Option Name) (more after : Option Need) → (more ≡ Some need → after ≡ Some need)
        → class_need values trees frames t s.world class more ≡ Some need → class_need values trees frames t next.world class after ≡ Some need
    class_kept None more after f q = f q
    class_kept (Some class) more after f q = by (status_of s.world class) refl q
      where
        at_status : (k : ClassStatus) → status_of next.world class ≡ k
            → look_need (look_by t k) class after ≡ Some need → look_need (look_by t (status_of next.world class)) class after ≡ Some need
        at_status k is x = ap (λ z. look_need (look_by t z) class after) is ∙ x

        in_progress : (by : ℕ) → status_of s.world class ≡ InProgress by → (b : Bool) → (by == t) ≡ b
            → look_need (if b then IsReady else IsHeld) class more ≡ Some need
            → look_need (look_by t (status_of next.world class)) class after ≡ Some need
        in_progress by is true k x =
            let it = eqb-true by t k in
            at_status (InProgress by) (status_kept class (InProgress by) (progress_stays by (λ q. t_not (sym it ∙ q))) is)
            (ap (λ (b : Bool). look_need (if b then IsReady else IsHeld) class after) k ∙ f x)
        in_progress by is false k x =
            let n : ClassOf class ≡ need = same_Some (ClassOf class) need x in
            let held : status_of s.world class ≡ InProgress u = subst (IsHeldBy s.world u) (sym n) w.held in
            let same = in_progress_inv by u (sym is ∙ held) in
            at_status (InProgress by) (status_kept class (InProgress by) (progress_stays by (λ q. u_not (sym same ∙ q))) is)
            (ap (λ (b : Bool). look_need (if b then IsReady else IsHeld) class after) k ∙ x)

        by : (k : ClassStatus) → status_of s.world class ≡ k → look_need (look_by t k) class more ≡ Some need
            → look_need (look_by t (status_of next.world class)) class after ≡ Some need
        by NotInitialised is x = no_need need x
        by (InProgress other) is x = in_progress other is (other == t) refl x
        by Initialised is x =
            at_status Initialised (status_kept class Initialised (record { known = λ q. absurd cc; others = λ q. absurd cc }) is) (f x)
        by Erroneous is x = no_need need x

    -- ---- an object that is owned

    object_kept : (object : ℕ) → need ≡ MonitorOf object → type_of (object_at next.world object) ≡ type_of (object_at s.world object)
    object_kept object is =
        let own : is_owner s.world u object ≡ true = subst (IsHeldBy s.world u) is w.held in
        let o = owner_there u s.world.monitors s.world.heap object h.monitors own in
        type_kept s.world next.world object o.0 extends o.1

    -- ---- an instruction

    module _ (frame : Frame) (stack : StackOf Value) (site : Site) (m : MeaningOf Value) (is : meaning_of values trees site ≡ Some m) where
      abbrev whole : StackOf Value
      whole = Invocation frame ∷ stack

      abbrev first : Event
      first = record { thread = t; pick = 0 }

      abbrev ops : List Value
      ops = ops_of values m frame.place.slots

      abbrev does : World → OutcomeOf Value
      does world = m.does first world frame.place.slots ops (under m.wants frame.place.slots)

      framed : (b : Bool) → (if b then option_map MonitorOf (callee_entered (does s.world)) else None) ≡ Some need
          → (if b then option_map MonitorOf (callee_entered (does next.world)) else None) ≡ Some need
      framed false q = no_need need q
      framed true q =
          let x = mapped (callee_entered (does s.world)) need q in
          let same = object_kept x.0 x.1.1 in
          let table = subst (OfMeaning (Once trees site first first s.world next.world frame.place.slots ops (under m.wants frame.place.slots) x.0 same)) is
          (entered_again trees site first first s.world next.world frame.place.slots ops (under m.wants frame.place.slots) x.0 same) in
          ap (option_map MonitorOf) (table x.1.0) ∙ ap (λ n. Some n) (sym x.1.1)

      instructed : (i : Instr) → instruction_need values trees frames t s.world whole i ops (does s.world) ≡ Some need
          → instruction_need values trees frames t next.world whole i ops (does next.world) ≡ Some need
      instructed instr.MonitorEnter q = q
      instructed other q = framed (nat_lt (frame_count whole) frames) q

      meant : meant_need values trees frames t s.world frame stack site m ≡ Some need
          → meant_need values trees frames t next.world frame stack site m ≡ Some need
      meant q = class_kept m.looks _ _ (instructed site.instr) q

    by_meaning : (frame : Frame) (stack : StackOf Value) (site : Site) (o : Option (MeaningOf Value)) → meaning_of values trees site ≡ o
        → option_and_then (meant_need values trees frames t s.world frame stack site) o ≡ Some need
        → option_and_then (meant_need values trees frames t next.world frame stack site) o ≡ Some need
    by_meaning frame stack site None is q = no_need need q
    by_meaning frame stack site (Some m) is q = meant frame stack site m is q

    by_site : (frame : Frame) (stack : StackOf Value) (o : Option Site) → option_and_then (site_need values trees frames t s.world frame stack) o ≡ Some need
        → option_and_then (site_need values trees frames t next.world frame stack) o ≡ Some need
    by_site frame stack None q = no_need need q
    by_site frame stack (Some site) q = by_meaning frame stack site (meaning_of values trees site) refl q

    by_body : (frame : Frame) (stack : StackOf Value) (o : Option Body) → option_and_then (body_need values trees frames t s.world frame stack) o ≡ Some need
        → option_and_then (body_need values trees frames t next.world frame stack) o ≡ Some need
    by_body frame stack None q = no_need need q
    by_body frame stack (Some body) q = by_site frame stack (site_at frame.method body frame.place.offset) q

    -- ---- a thread that begins

    entered_is : (object other : ℕ) (method : Member) (b : Bool) → (if b then Some object else None) ≡ Some other → object ≡ other
    entered_is object other method true q = same_Some object other q
    entered_is object other method false q = absurd (none-some other q)

    framed_object : (object : ℕ) (method : Member) (b : Bool) → (if b then option_map MonitorOf (entered_by trees method object) else None) ≡ Some need
        → need ≡ MonitorOf object
    framed_object object method false q = no_need need q
    framed_object object method true q =
        let x = mapped (entered_by trees method object) need q in
        x.1.1 ∙ ap MonitorOf (sym (entered_is object x.0 method (is_synchronized_one trees method) x.1.0))

    run_object : (object : ℕ) (o : Option Member)
        → option_and_then (λ (method : Member). option_and_then (λ (body : Body). frame_need values trees frames t s.world [] (entered_by trees method object)) (body_of trees method)) o ≡ Some need
        → need ≡ MonitorOf object
    run_object object None q = no_need need q
    run_object object (Some method) q = by (body_of trees method) q
      where
        by : (o : Option Body) → option_and_then (λ (body : Body). frame_need values trees frames t s.world [] (entered_by trees method object)) o ≡ Some need
            → need ≡ MonitorOf object
        by None k = no_need need k
        by (Some body) k = framed_object object method (nat_lt (frame_count (let l : StackOf Value = [] in l)) frames) k

    begins : (n : ℕ) → (thread_at next.world n).object ≡ (thread_at s.world n).object → begin_need values trees frames t s.world n ≡ Some need
        → begin_need values trees frames t next.world n ≡ Some need
    begins zero same q = class_kept (Some _) _ _ (λ k. k) q
    begins (suc n) same q =
        let object = (thread_at s.world (suc n)).object in
        let is = run_object object (select trees (class_of_object (object_at s.world object)) thread_run) q in
        let class = same_class s.world next.world object (object_kept object is) in
        ap (λ (k : ℕ). option_and_then (λ (method : Member). option_and_then (λ (body : Body). frame_need values trees frames t next.world [] (entered_by trees method k)) (body_of trees method)) (select trees (class_of_object (object_at next.world k)) thread_run)) same
        ∙ (ap (λ c. option_and_then (λ (method : Member). option_and_then (λ (body : Body). frame_need values trees frames t next.world [] (entered_by trees method object)) (body_of trees method)) (select trees c thread_run)) class
        ∙ q)

    -- ---- the thread

    stack_kept : (stack : StackOf Value) → (thread_at next.world t).object ≡ (thread_at s.world t).object
        → stack_need values trees frames t s.world stack ≡ Some need → stack_need values trees frames t next.world stack ≡ Some need
    stack_kept [] same q = begins t same q
    stack_kept (Invocation frame ∷ stack) same q = by_body frame stack (body_of trees frame.method) q
    stack_kept (Initialisation class Super ∷ stack) same q = class_kept (before trees class) None None (λ k. k) q
    stack_kept (Initialisation class End ∷ stack) same q = no_need need q

    going_kept : (stack : StackOf Value) (o : Option ℕ) → (thread_at next.world t).object ≡ (thread_at s.world t).object
        → going_need values trees frames t s.world stack o ≡ Some need → going_need values trees frames t next.world stack o ≡ Some need
    going_kept stack None same q = stack_kept stack same q
    going_kept stack (Some exception) same q = no_need need q

    module _ (stack : StackOf Value) (there : slice_get s.stacks t ≡ Some stack) where
      stack_same : slice_get next.stacks t ≡ Some stack
      stack_same =
          let k = d trees frames s next event e in
          let left_stack = (left trees frames s next event e).stack in
          let more = replicate (length (left trees frames s next event e).world.threads - length s.stacks) [] in
          subst (λ (z : State). slice_get z.stacks t ≡ Some stack) k.is_next
          (get_front (slice_set s.stacks v left_stack) more t stack (get_set_other s.stacks v t left_stack (λ q. t_not (sym q)) ∙ there))

      at : (thread : Thread) × ((slice_get s.world.threads t ≡ Some thread) × IsThreadTyped trees (types_of s.world.heap) thread stack)
      at = thread_there trees (types_of s.world.heap) s.world.threads s.stacks t stack h.threads there

      abbrev now : Still v next.world.threads t at.0
      now = still files trees accepted frames s h event next e t at.0 at.1.0

      was_at : thread_at s.world t ≡ at.0
      was_at = get_or_from_slice_get s.world.threads t at.0 no_thread at.1.0

      is_at : thread_at next.world t ≡ now.thread
      is_at = get_or_from_slice_get next.world.threads t now.thread no_thread now.there

      other : (t == v) ≡ false
      other = differs t v t_not

      moved : Moved (thread_at s.world t).status (thread_at next.world t).status
      moved = subst (λ (z : Thread). Moved z.status (thread_at next.world t).status) (sym was_at)
          (subst (λ (z : Thread). Moved at.0.status z.status) (sym is_at) (now.kept other).status)

      pending_same : (thread_at next.world t).pending ≡ (thread_at s.world t).pending
      pending_same = ap (λ (z : Thread). z.pending) is_at ∙ ((now.kept other).pending ∙ sym (ap (λ (z : Thread). z.pending) was_at))

      object_same : (thread_at next.world t).object ≡ (thread_at s.world t).object
      object_same = ap (λ (z : Thread). z.object) is_at ∙ (now.object ∙ sym (ap (λ (z : Thread). z.object) was_at))

      by_status : (before after : ThreadStatus) → Moved before after → status_need values trees frames t s.world stack before ≡ Some need
          → status_need values trees frames t next.world stack after ≡ Some need
      by_status before after (Same q) k = ap (status_need values trees frames t next.world stack) q ∙ same_status before k
        where
          same_status : (z : ThreadStatus) → status_need values trees frames t s.world stack z ≡ Some need
              → status_need values trees frames t next.world stack z ≡ Some need
          same_status Running k =
              ap (going_need values trees frames t next.world stack) pending_same ∙ going_kept stack (thread_at s.world t).pending object_same k
          same_status (Waiting object count) k = no_need need k
          same_status (Relock object count cause) k = k
          same_status (Ended exception) k = no_need need k
      by_status before after (Wakes o n again cause was is) k =
          no_need need (sym (ap (status_need values trees frames t s.world stack) was) ∙ k)

      needs_after : status_need values trees frames t s.world stack (thread_at s.world t).status ≡ Some need
          → next_need values trees frames next t ≡ Some need
      needs_after k =
          ap (option_and_then (λ z. status_need values trees frames t next.world z (thread_at next.world t).status)) stack_same
          ∙ by_status (thread_at s.world t).status (thread_at next.world t).status moved k

    needs_next : (o : Option (StackOf Value)) → slice_get s.stacks t ≡ o
        → option_and_then (λ z. status_need values trees frames t s.world z (thread_at s.world t).status) o ≡ Some need
        → next_need values trees frames next t ≡ Some need
    needs_next None q k = no_need need k
    needs_next (Some stack) q k = needs_after stack q k

    pub waits_next : WaitsFor trees frames t u next
    waits_next =
        record { differ = w.differ; need = need; needs = needs_next (slice_get s.stacks t) refl w.needs; held = held_by need w.held }

  -- ---- circles

  not_moving : (start t : ℕ) (threads : List ℕ) → WaitInTurn trees frames start t threads s → t ≡ v → ⊥
  not_moving start t [] w q = waits_nowhere start (subst (λ z. WaitsFor trees frames z start s) q w)
  not_moving start t (u ∷ threads) w q = waits_nowhere u (subst (λ z. WaitsFor trees frames z u s) q w.0)

  turn_next : (start t : ℕ) (threads : List ℕ) → (start ≡ v → ⊥) → WaitInTurn trees frames start t threads s
      → WaitInTurn trees frames start t threads next
  turn_next start t [] n w = waits_next t start (not_moving start t [] w) n w
  turn_next start t (u ∷ threads) n w =
      (waits_next t u (not_moving start t (u ∷ threads) w) (not_moving start u threads w.1) w.0, turn_next start u threads n w.1)

  pub circle_next : (t : ℕ) (threads : List ℕ) → IsCircle trees frames t threads s → IsCircle trees frames t threads next
  circle_next t threads w = turn_next t t threads (not_moving t t threads w) w
