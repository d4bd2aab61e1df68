-- The monitor that is told to have changed is the one that the definitions mean.
use Rattle.std.proofs.Common.{◌≡◌, ◌⊎◌, refl, sym, ◌∙◌, ap, subst, ℕ, suc, ◌≤◌, nat_lt, inl, inr, List, [], ◌∷◌, length, arith}
use Rattle.std.specs.Prelude.{Option, Some, None, Bool, true, false, if◌then◌else◌, option_map}
use Rattle.std.proofs.lemmas.Bool.Decides.{nat_tests}
use Rattle.model.specs.Classes.{Program}
use Rattle.model.specs.State as model
use Rattle.model.specs.State.{Monitor, StackOf, WorldOf}
use Rattle.model.specs.Monitors.{owns}
use Rattle.linked_code.specs.declared.program.LinkedProgram.{LinkedProgram}
use Rattle.thread_stacks.specs.declared.frame.Frame.{Frame}
use Rattle.thread_stacks.specs.Stacks.{ShownEntry, ShownFrame, Invocation, Initialisation, IsTopFrame, shown_frame}
use Rattle.machine_state.specs.shown_stacks.Shown.{ShowsStack}
use Rattle.monitor_laws.specs.owners.Owners as laws
use Rattle.monitor_laws.specs.owners.Owners.{KeepsOwners, entered_in, meant}
use Rattle.event_laws.specs.entered_monitors.Entries.{TellsOwner}
use Rattle.table_actions.specs.tables.Owners.{OwnsTheRest, WasOwner, is_meant}
use Rattle.state_actions.specs.declared.changed_monitors.MonitorBefore.{MonitorBefore}
use Rattle.state_actions.specs.changed_monitors.Changed.{entered_on, entered_above, tells_owner, ChangesMonitor}

-- ---- the frame on top

pub top_entered : (stack : List ShownEntry) (found : Option Frame) → IsTopFrame stack (option_map shown_frame found) → (frame : Frame) → found ≡ Some frame
    → frame.entered ≡ entered_on stack
top_entered [] None h frame e = absurd cc
top_entered [] (Some other) h frame e = absurd cc
top_entered (Invocation shown ∷ stack) None h frame e = absurd cc
top_entered (Invocation shown ∷ stack) (Some other) h frame e =
    let same : other ≡ frame = cc in
    let is : shown_frame other ≡ shown = cc in
    ap (λ (f : Frame). f.entered) (sym same) ∙ ap (λ (s : ShownFrame). s.entered) is
top_entered (Initialisation class phase ∷ stack) None h frame e = absurd cc
top_entered (Initialisation class phase ∷ stack) (Some other) h frame e = absurd cc

pub no_top : (stack : List ShownEntry) (found : Option Frame) → IsTopFrame stack (option_map shown_frame found) → found ≡ None → None ≡ entered_on stack
no_top [] found h e = refl
no_top (Invocation shown ∷ stack) None h e = absurd cc
no_top (Invocation shown ∷ stack) (Some frame) h e = absurd cc
no_top (Initialisation class phase ∷ stack) found h e = refl

-- of a frame above so many entries
not_above : (depth n : ℕ) → n ≤ depth → nat_lt depth n ≡ false
not_above depth n h = grind (arith, nat_tests)

is_above : (depth n : ℕ) → (n ≤ depth → ⊥) → nat_lt depth n ≡ true
is_above depth n h = grind (arith, nat_tests)

pub none_above : (depth : ℕ) (stack : List ShownEntry) → length stack ≤ depth → None ≡ entered_above depth stack
none_above depth stack h = sym (ap (λ b. if b then entered_on stack else None) (not_above depth (length stack) h))

pub top_above : (depth : ℕ) (stack : List ShownEntry) → (length stack ≤ depth → ⊥) → entered_on stack ≡ entered_above depth stack
top_above depth stack h = sym (ap (λ b. if b then entered_on stack else None) (is_above depth (length stack) h))

pub shown_entered : (trees : Program) (p : LinkedProgram) (shown : List ShownEntry) (stack : StackOf ℕ) → ShowsStack trees p shown stack → entered_on shown ≡ entered_in stack
shown_entered trees p [] [] h = refl
shown_entered trees p [] (entry ∷ stack) h = absurd h
shown_entered trees p (Invocation frame ∷ others) [] h = absurd h
shown_entered trees p (Initialisation class phase ∷ others) [] h = absurd h
shown_entered trees p (Invocation frame ∷ others) (model.Invocation one ∷ stack) h = sym h.0.entered
shown_entered trees p (Initialisation class phase ∷ others) (model.Initialisation name at ∷ stack) h = refl
shown_entered trees p (Invocation frame ∷ others) (model.Initialisation name at ∷ stack) h = absurd h.0
shown_entered trees p (Initialisation class phase ∷ others) (model.Invocation one ∷ stack) h = absurd h.0

shown_depth : (trees : Program) (p : LinkedProgram) (shown : List ShownEntry) (stack : StackOf ℕ) → ShowsStack trees p shown stack → length shown ≡ length stack
shown_depth trees p [] [] h = refl
shown_depth trees p [] (entry ∷ stack) h = absurd h
shown_depth trees p (entry ∷ others) [] h = absurd h
shown_depth trees p (first ∷ others) (entry ∷ stack) h = ap suc (shown_depth trees p others stack h.1)

-- ---- owners

owned_as : (t : ℕ) (object : Option ℕ) (old new : List Monitor) → KeepsOwners object old new → OwnsTheRest t object old new
owned_as t object old new h other e = ap (owns t) (h other (by object e))
  where
    by : (o : Option ℕ) → is_meant other o ≡ false → laws.is_meant other o ≡ false
    by None e = refl
    by (Some one) e = e

any_keeps : (object : Option ℕ) (old new : List Monitor) → KeepsOwners None old new → KeepsOwners object old new
any_keeps object old new h other e = h other refl

-- what an invocation entered that is new on top
module _ (trees : Program) (p : LinkedProgram) (shown : List ShownEntry) (own stack : StackOf ℕ) (shows : ShowsStack trees p shown stack) (depth : ℕ) (deep : depth ≡ length own) where
  entered_is : meant None own stack ≡ entered_above depth shown
  entered_is =
      ap (λ n. if nat_lt n (length stack) then entered_in stack else None) (sym deep)
      ∙ ap (λ n. if nat_lt depth n then entered_in stack else None) (sym (shown_depth trees p shown stack shows))
      ∙ ap (λ (o : Option ℕ). if nat_lt depth (length shown) then o else None) (sym (shown_entered trees p shown stack shows))

module _ (t : ℕ) (own stack : StackOf ℕ) (old new : WorldOf ℕ) where
  -- by what is said before the event
  said_keeps : (said before : Option ℕ) → (said ≡ before) ⊎ (before ≡ None) → meant None own stack ≡ None
      → KeepsOwners (meant before own stack) old.monitors new.monitors → KeepsOwners said old.monitors new.monitors
  said_keeps said None is none h =
      any_keeps said old.monitors new.monitors (subst (λ (o : Option ℕ). KeepsOwners o old.monitors new.monitors) none h)
  said_keeps said (Some object) is none h =
      elim is [
        | inl e ↦ subst (λ (o : Option ℕ). KeepsOwners o old.monitors new.monitors) (sym e) h
        | inr e ↦ absurd (let f : Some object ≡ None = e in cc)
      ]

  -- or by the invocation that is new
  entered_was : (b : Bool) → nat_lt (length own) (length stack) ≡ b → (object : ℕ) → (if b then entered_in stack else None) ≡ Some object → TellsOwner t own stack old new
      → WasOwner t (Some object) old.monitors (tells_owner (Some object) new.monitors)
  entered_was true e object f h = sym (h e object f)
  entered_was false e object f h = absurd cc

-- ---- what is told

pub changed_entered : (monitors : List Monitor) (shown : List ShownEntry) (depth : ℕ) (said told : MonitorBefore) (object : ℕ) → Some object ≡ entered_above depth shown
    → told.object ≡ Some object → told.was_owner ≡ tells_owner (Some object) monitors → ChangesMonitor monitors shown depth said told
changed_entered monitors shown depth said told object e o w trees p t before own stack old new same shows deep event was_so =
    let is : meant None own stack ≡ Some object = entered_is trees p shown own stack shows depth deep ∙ sym e in
    let none : before ≡ None = event.alone object is in
    let kept : KeepsOwners (Some object) old.monitors new.monitors =
    subst (λ (x : Option ℕ). KeepsOwners x old.monitors new.monitors) is (subst (λ (x : Option ℕ). KeepsOwners (meant x own stack) old.monitors new.monitors) none event.owners) in
    let was : WasOwner t (Some object) old.monitors (tells_owner (Some object) new.monitors) =
    entered_was t own stack old new (nat_lt (length own) (length stack)) refl object is event.entries in
    record {
      rest = subst (λ (x : Option ℕ). OwnsTheRest t x old.monitors new.monitors) (sym o) (owned_as t (Some object) old.monitors new.monitors kept);
      was = subst (λ (x : Option ℕ). WasOwner t x old.monitors told.was_owner) (sym o)
          (subst (λ (b : Bool). WasOwner t (Some object) old.monitors b) (sym (w ∙ ap (tells_owner (Some object)) same)) was);
    }

pub changed_said : (monitors : List Monitor) (shown : List ShownEntry) (depth : ℕ) (said : MonitorBefore) → None ≡ entered_above depth shown
    → ChangesMonitor monitors shown depth said said
changed_said monitors shown depth said e trees p t before own stack old new same shows deep event was_so =
    let none : meant None own stack ≡ None = entered_is trees p shown own stack shows depth deep ∙ sym e in
    record {
      rest = owned_as t said.object old.monitors new.monitors (said_keeps t own stack old new said.object before event.is_meant none event.owners);
      was = was_so;
    }
