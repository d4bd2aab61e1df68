-- The frame on top, where a call has gone on.
use Rattle.std.proofs.Common.{◌≡◌, ℕ, List, [], ◌∷◌, Result, Ok, Err, refl, sym, ap, subst, ◌∙◌}
use Rattle.std.specs.Result.{IsErrAnd}
use Rattle.thread_stacks.specs.Stacks.{ShownEntry, Invocation, Initialisation, IsMore, moved, on_top, with_operands}
use Rattle.machine_state.specs.declared.answers.Effect.{Effect}
use Rattle.machine_state.specs.declared.refusals.EventRefusal.{EventRefusal}
use Rattle.machine_state.specs.declared.refusals.EventRefusal.TheVariants as refusal
use Rattle.machine_instructions.specs.thread_methods.Moves.{went_on, Answers, Grows}

both : (from : List ShownEntry) (count next : ℕ) (results : List ℕ)
    → on_top (moved next) (on_top (with_operands count results) from) ≡ on_top (went_on count results next) from
both [] count next results = refl
both (Invocation g ∷ stack) count next results = refl
both (Initialisation class phase ∷ stack) count next results = refl

-- its operands first, and then its place
pub went : (from between to : List ShownEntry) (count next : ℕ) (results : List ℕ) → between ≡ on_top (with_operands count results) from → to ≡ on_top (moved next) between
    → to ≡ on_top (went_on count results next) from
went from between to count next results first second = second ∙ ap (on_top (moved next)) first ∙ both from count next results

pub grows : (count : ℕ) (stack : List ShownEntry) → IsMore count stack → Grows count stack
grows count [] more = more
grows count (Invocation g ∷ stack) more = more
grows count (Initialisation class phase ∷ stack) more = more

-- memory was wanted, and nothing has changed
pub kept : (result : Result Effect EventRefusal) (count word next : ℕ) (from to : List ShownEntry) → IsErrAnd result (λ told. told ≡ refusal.Memory) → to ≡ from → IsMore count from
    → Answers result count word next from to
kept (Ok told) count word next from to e same more = absurd e
kept (Err told) count word next from to e same more = subst (λ r. Answers (Err r) count word next from to) (sym e) (same, grows count from more)
