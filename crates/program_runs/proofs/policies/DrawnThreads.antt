-- The thread that is drawn of those that may go on.
use Rattle.std.proofs.Common.{◌≡◌, ◌<◌, ◌≤◌, ℕ, List, Option, Some, None, Bool, true, false, length, refl, sym, ap, subst, ◌∙◌, arith}
use Rattle.std.specs.Prelude.{slice_get, slice_index}
use Rattle.std.proofs.lemmas.Option.{get_or_from_slice_get, none-some, slice_get-get_or}
use Rattle.rand_core.specs.Stream.{Stream}
use Rattle.model.specs.Operands.{words}
use Rattle.run_laws.specs.word_reports.Reports.{may_step_of}
use Rattle.machine.specs.Machines.{MachineOf}
use Rattle.program_runs.specs.policies.Draws.{below}
use Rattle.program_runs.specs.policies.Drawn.{AreAble, IsAbleAt, IsDrawn, able_in, words_after}
use Rattle.program_runs.specs.worlds.Turns.{MayNone}
use Rattle.program_runs.proofs.policies.Able.{none_passes}

-- there is none
pub none_able : (m : MachineOf) (count : ℕ) → AreAble m count → count ≡ 0 → MayNone m 0 (length m.shared.threads.threads)
none_able m count able none u low high trees bounds inflated state program shown =
    sym (none_passes (may_step_of words trees m.limits.frames state) (length m.shared.threads.threads) (sym (able trees bounds inflated state program shown) ∙ none) u high)

-- the one of a place that is drawn
pub drawn_is : (m : MachineOf) (count place : ℕ) (old new : List ℕ) → AreAble m count → (r : Option ℕ) → IsAbleAt m place r → (place, words_after new) ≡ below count (words_after old)
    → place < count → IsDrawn m old r new
drawn_is m count place old new able None at drawn within = λ u low high trees bounds inflated state program shown.
    let l = able_in m trees state in
    let inside : place < length l = subst (λ n. place < n) (able trees bounds inflated state program shown) within in
    absurd (none-some (slice_index l place) (at trees bounds inflated state program shown ∙ slice_get-get_or l place 0 inside))
drawn_is m count place old new able (Some t) at drawn within = λ trees bounds inflated state program shown.
    let l = able_in m trees state in
    let found : slice_index l place ≡ t = get_or_from_slice_get l place t 0 (sym (at trees bounds inflated state program shown)) in
    ap (λ k. let d : ℕ × Stream = (k, words_after new) in d) (sym found)
    ∙ ap (λ (d : ℕ × Stream). let e : ℕ × Stream = (slice_index l d.0, d.1) in e) (drawn ∙ ap (λ n. below n (words_after old)) (able trees bounds inflated state program shown))
