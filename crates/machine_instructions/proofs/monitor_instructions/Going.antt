-- The frame on top, where an instruction on a monitor has gone on.
use Rattle.std.proofs.Common.{◌≡◌, ◌+◌, ◌<◌, ◌^◌, ℕ, List, [], ◌∷◌, Some, None, refl, sym, ap, subst, ◌∙◌}
use Rattle.std.proofs.lemmas.Option.{same_Some}
use Rattle.thread_stacks.specs.Stacks.{ShownFrame, ShownEntry, Invocation, Initialisation, IsTopFrame, at_place, moved, on_top, replaced, without}
use Rattle.machine_instructions.specs.monitor_instructions.Frames.{GoesOn}

pub goes_on_by : (from between to : List ShownEntry) (f : ShownFrame) (next : ℕ) → IsTopFrame from (Some f) → (f.place < 2 ^ 63 → next ≡ f.place + 1)
    → between ≡ on_top (without 1) from → to ≡ on_top (moved next) between → GoesOn from to
goes_on_by [] between to f next top place first second = absurd cc
goes_on_by (Invocation g ∷ stack) between to f next top place first second =
    let same : f ≡ g = same_Some f g top in
    λ small.
    second
    ∙ ap (on_top (moved next)) first
    ∙ ap (λ n. Invocation (at_place n (replaced 1 [] g)) ∷ stack)
    (subst (λ (x : ShownFrame). next ≡ x.place + 1) same (place (subst (λ (x : ShownFrame). x.place < 2 ^ 63) (sym same) small)))
goes_on_by (Initialisation class phase ∷ stack) between to f next top place first second = absurd cc

pub stays_by : (from : List ShownEntry) → IsTopFrame from None → GoesOn from from
stays_by [] none = refl
stays_by (Invocation g ∷ stack) none = absurd cc
stays_by (Initialisation class phase ∷ stack) none = refl
