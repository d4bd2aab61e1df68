use Rattle.std.proofs.Common.{◌≡◌, ◌==◌, ℕ, Bool, cond, ap, arith, slice_index_or}
use Rattle.std.proofs.lemmas.Bool.{eq-eqb, ne_eqb}
use Rattle.model.specs.declared.event.ScheduleEntry.{ScheduleEntry}
use Rattle.shrinking.proofs.Switching.{entry_behind}
use Rattle.shrinking.proofs.switches.switches_from.Goals.{then-entry-thread, else-entry-thread}
use Rattle.shrinking.proofs.switches.switches_from.Goals as goal

pub entries-preserved : goal.entries-preserved
entries-preserved c =
    let none : ScheduleEntry = record { event = record { thread = 0; pick = 0 }; repeat = 0 } in
    let thread = (slice_index_or c.args.entries.now c.entries.entry-index none).event.thread in
    let behind = entry_behind c.args.entries.now c.entries.entry-index none (omega (arith, c.entries-test.true)) c.requires.each c.entries.thread in
    elim c.if-entry-thread.branch [
      | then-entry-thread w ↦
          let one : cond {A = ℕ} (thread == c.entries.thread) 0 1 ≡ 1 = ap (λ (b : Bool). cond {A = ℕ} b 0 1) (ne_eqb _ _ w.if-entry-thread.true) in
          (omega (arith, behind, one, c.entries.invariant.0, w.count-is), omega (arith, c.entries.invariant.1, w.count-is))
      | else-entry-thread w ↦
          let none_more : cond {A = ℕ} (thread == c.entries.thread) 0 1 ≡ 0 = ap (λ (b : Bool). cond {A = ℕ} b 0 1) (eq-eqb _ _ w.if-entry-thread.false) in
          (omega (arith, behind, none_more, c.entries.invariant.0, w.count-is), omega (arith, c.entries.invariant.1, w.count-is))
    ]
