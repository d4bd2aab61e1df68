-- What one entry makes of a monitor.
use Rattle.std.proofs.Common.{◌≡◌, ℕ, zero, suc, ◌<◌, ◌≤◌, ◌+◌, nat_lt, List, [], ◌∷◌, length, Bool, true, false, ◌==◌, Option, Some, None, refl, sym, ap, ◌∙◌, arith}
use Rattle.std.specs.Prelude.{not, ◌&&◌, if◌then◌else◌}
use Rattle.std.proofs.lemmas.List.{get_or-set_same, length-set}
use Rattle.std.proofs.lemmas.Bool.{ne_eqb}
use Rattle.std.proofs.lemmas.Bool.Decides.{nat_tests}
use Rattle.model.specs.State.{Monitor}
use Rattle.model.specs.Monitors as monitors
use Rattle.model.specs.Monitors.{Answered, answers_done, unlocked, owned, owns, as_entrant, monitor_at, monitor_enter}
use Rattle.model.specs.declared.monitor_answer.MonitorAnswer.TheVariants.{Held}
use Rattle.model.specs.Worlds.{is_done}
use Rattle.run_laws.specs.monitor_counts.Counts.{IsOwnerCounted}

-- no stack is longer than itself, and one that an entry has left isn't either
pub no_longer : (n : ℕ) → nat_lt n n ≡ false
no_longer n = grind (arith, nat_tests)

pub shorter : (n : ℕ) → nat_lt (suc n) n ≡ false
shorter n = grind (arith, nat_tests)

more_than_one : (n : ℕ) → 0 < n → true ≡ not (n + 1 == 1)
more_than_one n h =
    let apart : n + 1 ≡ 1 → ⊥ = λ e. omega arith in
    sym (ap not (ne_eqb (n + 1) 1 apart))

by_owner : (t : ℕ) (owner : Option ℕ) (m : Monitor) → IsOwnerCounted owner m.count
    → is_done (as_entrant t owner m (answers_done (owned m t 1)) (answers_done (owned m t (m.count + 1)))).answer ≡ true
    → owns t owner ≡ not ((as_entrant t owner m (answers_done (owned m t 1)) (answers_done (owned m t (m.count + 1)))).after.count == 1)
by_owner t None m c d = refl
by_owner t (Some owner) m c d = by (owner == t) d
  where
    by : (b : Bool) → is_done (if b then answers_done (owned m t (m.count + 1)) else record { answer = Held; after = m }).answer ≡ true
        → b ≡ not ((if b then answers_done (owned m t (m.count + 1)) else record { answer = Held; after = m }).after.count == 1)
    by true e = more_than_one m.count c
    by false e = absurd cc

past : (ms : List Monitor) (object : ℕ) → length ms ≤ object → monitor_at ms object ≡ unlocked
past [] object h = refl
past (m ∷ ms) zero h = absurd (omega arith)
past (m ∷ ms) (suc object) h = past ms object (omega arith)

pub entry_tells : (ms : List Monitor) (t object : ℕ) → IsOwnerCounted (monitor_at ms object).owner (monitor_at ms object).count
    → is_done (monitors.enter object t ms).answer ≡ true
    → owns t (monitor_at ms object).owner
    ≡ (nat_lt object (length (monitors.enter object t ms).after) && not ((monitor_at (monitors.enter object t ms).after object).count == 1))
entry_tells ms t object c d =
    by (nat_lt object (length ms)) refl
    ∙ ap (λ k. nat_lt object k && not ((monitor_at (monitors.enter object t ms).after object).count == 1)) (sym (length-set ms object (monitor_enter t (monitor_at ms object)).after))
  where
    by : (b : Bool) → nat_lt object (length ms) ≡ b
        → owns t (monitor_at ms object).owner ≡ (nat_lt object (length ms) && not ((monitor_at (monitors.enter object t ms).after object).count == 1))
    by true e =
        let m = monitor_at ms object in
        let there : object < length ms = grind (arith, nat_tests) in
        by_owner t m.owner m c d
        ∙ ap (λ (x : Monitor). not (x.count == 1)) (sym (get_or-set_same ms object (monitor_enter t m).after unlocked there))
        ∙ ap (λ b. b && not ((monitor_at (monitors.enter object t ms).after object).count == 1)) (sym e)
    by false e =
        let gone : length ms ≤ object = grind (arith, nat_tests) in
        ap (λ (m : Monitor). owns t m.owner) (past ms object gone)
        ∙ ap (λ b. b && not ((monitor_at (monitors.enter object t ms).after object).count == 1)) (sym e)
