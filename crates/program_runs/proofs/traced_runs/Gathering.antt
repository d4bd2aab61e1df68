-- Lines of events, one behind the other, and how they are gathered and written.
use Rattle.std.proofs.Common.{◌≡◌, ◌≤◌, ◌<◌, ◌+◌, inl, ℕ, zero, suc, List, [], ◌∷◌, ◌++◌, flat_map, length, length-append, replicate, Bool, false, Option, refl, sym, ap, subst, ◌∙◌, append_assoc, arith}
use Rattle.std.proofs.lemmas.List.{append-nil}
use Rattle.std.proofs.lemmas.List.Concat.{flat_map-append}
use Rattle.model.specs.declared.event.Event.{Event}
use Rattle.model.specs.Classes.{Program}
use Rattle.model.specs.Devices.{AppendsFront}
use Rattle.listings.proofs.disasm.Writing.{nothing_on, appends_on, then_fails}
use Rattle.program_runs.specs.traced_runs.Telling.{Gathers}
use Rattle.program_runs.specs.traced_runs.Traces.{Tells, TellsGroup, TellsGroups, TellsIf}
use Rattle.program_runs.specs.traced_runs.Windows.{is_told}
use Rattle.program_runs.specs.declared.traced_runs.window.Window.{Window}

-- ---- lines

abbrev pub events_in : List (List Event) → List Event
events_in groups = flat_map (λ (group : List Event). group) groups

module _ (trees : Program) (frames : ℕ) (window : Window) where
  pub nothing_told : (done : List Event) → Tells trees frames window done [] []
  nothing_told done = ([], refl, refl)

  -- those of some more groups
  more_groups : (done : List Event) (groups more : List (List Event)) (text rest : List ℕ) → TellsGroups trees frames window done groups text
      → TellsGroups trees frames window (done ++ events_in groups) more rest → TellsGroups trees frames window done (groups ++ more) (text ++ rest)
  more_groups done [] more text rest first then =
      let here : TellsGroups trees frames window done more rest = subst (λ (d : List Event). TellsGroups trees frames window d more rest) (append-nil done) then in
      subst (λ (l : List ℕ). TellsGroups trees frames window done more (l ++ rest)) (sym first) here
  more_groups done (group ∷ groups) more text rest first then = (
    first.0,
    first.1 ++ rest,
    ap (λ (l : List ℕ). l ++ rest) first.2 ∙ append_assoc first.0 first.1 rest,
    first.3,
    more_groups (done ++ group) groups more first.1 rest first.4 (subst (λ (d : List Event). TellsGroups trees frames window d more rest) (sym (append_assoc done group (events_in groups))) then),
  )

  -- those of some more events
  pub more_told : (done events more : List Event) (text rest : List ℕ) → Tells trees frames window done events text → Tells trees frames window (done ++ events) more rest
      → Tells trees frames window done (events ++ more) (text ++ rest)
  more_told done events more text rest first then = (
    first.0 ++ then.0,
    ap (λ (l : List Event). l ++ more) first.1 ∙ ap (λ (l : List Event). events_in first.0 ++ l) then.1 ∙ sym (flat_map-append (λ (group : List Event). group) first.0 then.0),
    more_groups done first.0 then.0 text rest first.2 (subst (λ (l : List Event). TellsGroups trees frames window (done ++ l) then.0 rest) first.1 then.2),
  )

  -- those of one group
  pub group_told : (done group : List Event) (line : List ℕ) → TellsGroup trees frames window done group line → Tells trees frames window done group line
  group_told done group line tells = (group ∷ [], sym (append-nil group), (line, [], sym (append-nil line), tells, refl))

  -- that of one event
  pub one_told : (done : List Event) (event : Event) (line : List ℕ) → TellsIf (is_told window (length done) event.thread) window.form trees frames done event line
      → Tells trees frames window done (event ∷ []) line
  one_told done event line tells = group_told done (event ∷ []) line (inl tells)

  left_out : (done : List Event) (event : Event) (b : Bool) → b ≡ false → TellsIf b window.form trees frames done event []
  left_out done event b is = subst (λ (x : Bool). TellsIf x window.form trees frames done event []) (sym is) refl

  -- those of an event again and again that is not told
  pub none_told : (k : ℕ) (event : Event) (done : List Event) → ((n : ℕ) → length done ≤ n → n < length done + k → is_told window n event.thread ≡ false)
      → Tells trees frames window done (replicate k event) []
  none_told zero event done untold = nothing_told done
  none_told (suc k) event done untold =
      let longer : length (done ++ event ∷ []) ≡ length done + 1 = length-append done (event ∷ []) in
      more_told done (event ∷ []) (replicate k event) [] []
      (one_told done event [] (left_out done event (is_told window (length done) event.thread) (untold (length done) (omega arith) (omega arith))))
      (none_told k event (done ++ event ∷ []) (λ n from to. untold n (omega arith) (omega arith)))

-- ---- what is gathered

abbrev pub Held : Type 0
Held = Option (List ℕ)

pub none_gathered : (held : Held) (before : List ℕ) → Gathers held held before before []
none_gathered held before = ([], nothing_on held, append-nil before)

-- behind what was gathered
pub line_gathered : (held : Held) (before now line : List ℕ) → now ≡ before ++ line → Gathers held held before now line
line_gathered held before now line is = ([], nothing_on held, sym is)

-- a text, and then another one
pub gathers_on : (old mid new : Held) (before between now text rest : List ℕ) → Gathers old mid before between text
    → Gathers mid new between now rest → Gathers old new before now (text ++ rest)
gathers_on old mid new before between now text rest first then = (
  first.0 ++ then.0,
  appends_on old mid new first.0 then.0 first.1 then.1,
  sym (append_assoc before text rest)
      ∙ ap (λ (l : List ℕ). l ++ rest) first.2
      ∙ append_assoc first.0 between rest
      ∙ ap (λ (l : List ℕ). first.0 ++ l) then.2
      ∙ sym (append_assoc first.0 then.0 now),
)

-- then the writing stops
pub gathers_front : (old mid new : Held) (before between text rest : List ℕ) → Gathers old mid before between text
    → AppendsFront mid new (between ++ rest) → AppendsFront old new (before ++ (text ++ rest))
gathers_front old mid new before between text rest first front =
    let whole : first.0 ++ (between ++ rest) ≡ before ++ (text ++ rest) =
    sym (append_assoc first.0 between rest) ∙ ap (λ (l : List ℕ). l ++ rest) (sym first.2) ∙ append_assoc before text rest
    in
    subst (AppendsFront old new) whole (then_fails old mid new first.0 (between ++ rest) first.1 front)
