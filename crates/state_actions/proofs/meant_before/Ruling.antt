-- What is told of monitors before an event, by its rule.
use Rattle.std.proofs.Common.{◌≡◌, ℕ, List, [], ◌∷◌, inl, inr, Option, Some, None, refl, sym, ap, subst, ◌∙◌}
use Rattle.std.specs.Prelude.{◌-◌, slice_index_or}
use Rattle.std.specs.Option.{option_map_or}
use Rattle.std.proofs.lemmas.Option.{same_Some}
use Rattle.model.specs.declared.event.Event.{Event}
use Rattle.model.specs.declared.instr.Instr.{Instr}
use Rattle.model.specs.declared.instr.Instr.TheVariants as instr
use Rattle.model.specs.declared.instr.Returned.{Returned}
use Rattle.model.specs.Classes.{Program, Body, body_of}
use Rattle.model.specs.Operands.{words}
use Rattle.model.specs.State as model
use Rattle.model.specs.State.{ThreadStatus, Running, Waiting, Relock, Ended, FrameOf, StackOf, WorldOf}
use Rattle.model.specs.Worlds.{thread_at}
use Rattle.model.specs.Sites.{MeaningOf, Site, site_at}
use Rattle.model.specs.Meanings.{meaning_of}
use Rattle.linked_code.specs.declared.program.LinkedProgram.{LinkedProgram}
use Rattle.thread_stacks.specs.Stacks.{ShownEntry, ShownFrame, Invocation, Initialisation, IsTopFrame}
use Rattle.machine_state.specs.shown_stacks.Shown.{ShowsStack}
use Rattle.monitor_laws.specs.owners.Owners.{meant_with, meant_at, meant_in, meant_running, meant_before}
use Rattle.thread_rules.specs.declared.next_rules.NextRule.{NextRule}
use Rattle.thread_rules.specs.declared.next_rules.NextRule.TheVariants as rule
use Rattle.thread_rules.specs.next_rules.Rules.{IsRuleBy}
use Rattle.state_actions.specs.changed_monitors.Changed.{entered_on}
use Rattle.state_actions.specs.meant_before.Said.{said_of, IsSaid, AreInstructionsMeant, IsNextInstruction, MeansNext, MeansBefore}
use Rattle.state_actions.proofs.changed_monitors.Meant.{shown_entered}

-- ---- the next instruction

module _ (files : Program) (event : Event) (world : WorldOf ℕ) (frame : FrameOf ℕ) (told : Option ℕ) where
  abbrev SaidAt : Body → Site → Type 0
  SaidAt code site = (meaning : MeaningOf ℕ) → meaning_of words files site ≡ Some meaning → IsSaid told (meant_with words event world frame site meaning)

  at_meaning : (site : Site) (o : Option (MeaningOf ℕ)) → meaning_of words files site ≡ o
      → ((meaning : MeaningOf ℕ) → meaning_of words files site ≡ Some meaning → IsSaid told (meant_with words event world frame site meaning))
      → IsSaid told (option_map_or (meant_with words event world frame site) o None)
  at_meaning site None e h = inr refl
  at_meaning site (Some meaning) e h = h meaning e

  at_site : (code : Body) (o : Option Site) → site_at frame.method code frame.place.offset ≡ o
      → ((site : Site) → site_at frame.method code frame.place.offset ≡ Some site → (meaning : MeaningOf ℕ) → meaning_of words files site ≡ Some meaning → IsSaid told (meant_with words event world frame site meaning))
      → IsSaid told (option_map_or (meant_at words files event world frame) o None)
  at_site code None e h = inr refl
  at_site code (Some site) e h = at_meaning site (meaning_of words files site) refl (h site e)

  at_code : (o : Option Body) → body_of files frame.method ≡ o
      → ((code : Body) → body_of files frame.method ≡ Some code → (site : Site) → site_at frame.method code frame.place.offset ≡ Some site → (meaning : MeaningOf ℕ)
      → meaning_of words files site ≡ Some meaning → IsSaid told (meant_with words event world frame site meaning))
      → IsSaid told (option_map_or (meant_in words files event world frame) o None)
  at_code None e h = inr refl
  at_code (Some code) e h = at_site code (site_at frame.method code frame.place.offset) refl (h code e)

-- no instruction is said to be next
pub next_none : (shown : List ShownEntry) (told : Option ℕ) → MeansNext shown None told
next_none shown told files p event world [] shows next = inr refl
next_none shown told files p event world (model.Initialisation class phase ∷ rest) shows next = inr refl
next_none shown told files p event world (model.Invocation frame ∷ rest) shows next =
    at_code files event world frame told (body_of files frame.method) refl
    (λ code has site at meaning is. absurd (let e = next frame rest code site refl has at in cc))

-- no frame is on top
pub next_of_none : (shown : List ShownEntry) (instruction : Option Instr) (told : Option ℕ) → ((sf : ShownFrame) (others : List ShownEntry) → shown ≡ Invocation sf ∷ others → ⊥)
    → MeansNext shown instruction told
next_of_none shown instruction told none files p event world [] shows next = inr refl
next_of_none shown instruction told none files p event world (model.Initialisation class phase ∷ rest) shows next = inr refl
next_of_none [] instruction told none files p event world (model.Invocation frame ∷ rest) shows next = absurd shows
next_of_none (Invocation sf ∷ others) instruction told none files p event world (model.Invocation frame ∷ rest) shows next = absurd (none sf others refl)
next_of_none (Initialisation class phase ∷ others) instruction told none files p event world (model.Invocation frame ∷ rest) shows next = absurd shows.0

pub next_told : AreInstructionsMeant → (shown : List ShownEntry) (i : Instr) (sf : ShownFrame) (others : List ShownEntry) → shown ≡ Invocation sf ∷ others
    → MeansNext shown (Some i) (said_of i sf)
next_told are shown i sf others is files p event world [] shows next = inr refl
next_told are shown i sf others is files p event world (model.Initialisation class phase ∷ rest) shows next = inr refl
next_told are shown i sf others is files p event world (model.Invocation frame ∷ rest) shows next =
    let shows_so : ShowsStack files p (Invocation sf ∷ others) (model.Invocation frame ∷ rest) = subst (λ (l : List ShownEntry). ShowsStack files p l (model.Invocation frame ∷ rest)) is shows in
    at_code files event world frame (said_of i sf) (body_of files frame.method) refl
    (λ code has site at meaning e.
    let same : i ≡ site.instr = same_Some i site.instr (next frame rest code site refl has at) in
    subst (λ (x : Instr). IsSaid (said_of x sf) (meant_with words event world frame site meaning)) (sym same)
    (are files site meaning e event world frame sf shows_so.0.entered shows_so.0.operands))

-- ---- by the rule

module _ (shown : List ShownEntry) (instruction : Option Instr) (told : Option ℕ) where
  abbrev pub IsToldBy : NextRule → Type 0
  IsToldBy rule.NoEvent = told ≡ None
  IsToldBy (rule.Relock object count why) = told ≡ Some object
  IsToldBy (rule.Pending exception) = told ≡ entered_on shown
  IsToldBy rule.Begin = told ≡ None
  IsToldBy (rule.Initialisation class phase) = told ≡ None
  IsToldBy rule.Bytecode = MeansNext shown instruction told

module _ (instruction : Option Instr) (told : Option ℕ) (files : Program) (p : LinkedProgram) (event : Event) (world : WorldOf ℕ) where
  going : (shown : List ShownEntry) (own : StackOf ℕ) → ShowsStack files p shown own → (r : NextRule) → (r ≡ rule.Bytecode → IsNextInstruction files own instruction)
      → IsRuleBy Running None shown r → IsToldBy shown instruction told r → IsSaid told (meant_running words files event world None own)
  going shown [] shows r next is t = inr refl
  going shown (model.Initialisation class phase ∷ rest) shows r next is t = inr refl
  going [] (model.Invocation frame ∷ rest) shows r next is t = absurd shows
  going (Initialisation class phase ∷ others) (model.Invocation frame ∷ rest) shows r next is t = absurd shows.0
  going (Invocation sf ∷ others) (model.Invocation frame ∷ rest) shows r next is t =
      let means : MeansNext (Invocation sf ∷ others) instruction told = subst (λ (x : NextRule). IsToldBy (Invocation sf ∷ others) instruction told x) is t in
      means files p event world (model.Invocation frame ∷ rest) shows (next is)

  running : (shown : List ShownEntry) (own : StackOf ℕ) → ShowsStack files p shown own → (r : NextRule) → (r ≡ rule.Bytecode → IsNextInstruction files own instruction) → (pending : Option ℕ)
      → IsRuleBy Running pending shown r → IsToldBy shown instruction told r → IsSaid told (meant_running words files event world pending own)
  running shown own shows r next None is t = going shown own shows r next is t
  running shown own shows r next (Some exception) is t =
      let told_so : told ≡ entered_on shown = subst (λ (x : NextRule). IsToldBy shown instruction told x) is t in
      inl (told_so ∙ shown_entered files p shown own shows)

  ruled : (shown : List ShownEntry) (own : StackOf ℕ) → ShowsStack files p shown own → (r : NextRule) → (r ≡ rule.Bytecode → IsNextInstruction files own instruction) → (status : ThreadStatus)
      → IsRuleBy status (thread_at world event.thread).pending shown r → IsToldBy shown instruction told r → IsSaid told (meant_before words files event world own status)
  ruled shown own shows r next Running is t = running shown own shows r next (thread_at world event.thread).pending is t
  ruled shown own shows r next (Waiting object count) is t = inr refl
  ruled shown own shows r next (Relock object count cause) is t = inl (subst (λ (x : NextRule). IsToldBy shown instruction told x) is.1 t)
  ruled shown own shows r next (Ended exception) is t = inr refl

pub before_told : (shown : List ShownEntry) (instruction : Option Instr) (told : Option ℕ) (r : NextRule) → IsToldBy shown instruction told r → MeansBefore r shown instruction told
before_told shown instruction told r t files p event world own shows is next =
    ruled instruction told files p event world shown own shows r next (thread_at world event.thread).status is t

-- ---- of the frame on top

pub return_said : (i : Instr) (kind : Returned) → i ≡ instr.Return kind → (sf : ShownFrame) → sf.entered ≡ said_of i sf
return_said i kind e sf = sym (ap (λ (x : Instr). said_of x sf) e)

pub other_said : (i : Instr) → ((kind : Returned) → i ≡ instr.Return kind → ⊥) → (sf : ShownFrame) → Some (slice_index_or sf.operands 0 0 - 1) ≡ said_of i sf
other_said (instr.Return kind) n sf = absurd (n kind refl)
other_said _ n sf = refl

pub top_next : AreInstructionsMeant → (shown : List ShownEntry) (sf : ShownFrame) → IsTopFrame shown (Some sf) → (i : Instr) (told : Option ℕ) → told ≡ said_of i sf
    → MeansNext shown (Some i) told
top_next are [] sf top i told e = absurd cc
top_next are (Initialisation class phase ∷ others) sf top i told e = absurd cc
top_next are (Invocation frame ∷ others) sf top i told e =
    let same : sf ≡ frame = same_Some sf frame top in
    subst (λ (o : Option ℕ). MeansNext (Invocation frame ∷ others) (Some i) o) (sym (e ∙ ap (said_of i) same))
    (next_told are (Invocation frame ∷ others) i frame others refl)

pub no_top_next : (shown : List ShownEntry) → IsTopFrame shown None → (instruction : Option Instr) (told : Option ℕ) → MeansNext shown instruction told
no_top_next [] top instruction told = next_of_none [] instruction told (λ sf others e. absurd cc)
no_top_next (Initialisation class phase ∷ others) top instruction told = next_of_none (Initialisation class phase ∷ others) instruction told (λ sf others e. absurd cc)
no_top_next (Invocation frame ∷ others) top instruction told = absurd cc
