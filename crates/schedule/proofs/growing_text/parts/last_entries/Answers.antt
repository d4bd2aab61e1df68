use Rattle.std.proofs.Common.{ℕ, List, [], ◌∷◌, ◌++◌, ◌-◌, ◌∙◌, ap, drop, get_or}
use Rattle.std.proofs.lemmas.List.{take_rest}
use Rattle.model.specs.declared.event.ScheduleEntry.{ScheduleEntry}
use Rattle.schedule.proofs.growing_text.NewEntries.{joined_from, joined_within, last_from, last_within, no_entry}
use Rattle.schedule.proofs.growing_text.parts.last_entries.Goals.{else-left-gt0, then-left-gt0+in_ok-push}
use Rattle.schedule.proofs.growing_text.parts.last_entries.Goals as goal

-- what is written of the entry before
abbrev part_of : List ScheduleEntry → (at left : ℕ) → ScheduleEntry
part_of entries at left = record { event = (get_or entries (at - 1) no_entry).event; repeat = left }

pub returns-clause-events : goal.returns-clause-events
returns-clause-events c = elim c.if-left-gt0.branch [
  | then-left-gt0+in_ok-push w ↦
      last_within c.args.entries.now c.args.last c.seam-at.result.0 c.seam-at.result.1 c.seam-at.ensures c.extend_from_slice.new.self.items w.if-left-gt0.true no_entry
      (c.in_ok-extend_from_slice.ensures.items ∙ ap (λ l. c.if-left-gt0.part.items ++ l) (take_rest c.args.entries.now c.seam-at.result.0)
      ∙ ap (λ (l : List ScheduleEntry). l ++ drop c.seam-at.result.0 c.args.entries.now)
      (ap (λ p. p.items) w.part-is ∙ w.in_ok-push.ensures.items ∙ ap (λ (l : List ScheduleEntry). l ++ part_of c.args.entries.now c.seam-at.result.0 c.seam-at.result.1 ∷ []) c.new-part.ensures.items))
  | else-left-gt0 w ↦
      last_from c.args.entries.now c.args.last c.seam-at.result.0 c.seam-at.result.1 c.seam-at.ensures c.extend_from_slice.new.self.items w.if-left-gt0.false
      (c.in_ok-extend_from_slice.ensures.items ∙ ap (λ l. c.if-left-gt0.part.items ++ l) (take_rest c.args.entries.now c.seam-at.result.0)
      ∙ ap (λ (l : List ScheduleEntry). l ++ drop c.seam-at.result.0 c.args.entries.now) (ap (λ p. p.items) w.part-is ∙ c.new-part.ensures.items))
]

pub returns-clause-runs : goal.returns-clause-runs
returns-clause-runs c = elim c.if-left-gt0.branch [
  | then-left-gt0+in_ok-push w ↦
      joined_within c.args.entries.now c.args.last c.seam-at.result.0 c.seam-at.result.1 c.seam-at.ensures c.extend_from_slice.new.self.items w.if-left-gt0.true no_entry
      (c.in_ok-extend_from_slice.ensures.items ∙ ap (λ l. c.if-left-gt0.part.items ++ l) (take_rest c.args.entries.now c.seam-at.result.0)
      ∙ ap (λ (l : List ScheduleEntry). l ++ drop c.seam-at.result.0 c.args.entries.now)
      (ap (λ p. p.items) w.part-is ∙ w.in_ok-push.ensures.items ∙ ap (λ (l : List ScheduleEntry). l ++ part_of c.args.entries.now c.seam-at.result.0 c.seam-at.result.1 ∷ []) c.new-part.ensures.items))
      c.requires.runs c.requires.few
  | else-left-gt0 w ↦
      joined_from c.args.entries.now c.args.last c.seam-at.result.0 c.seam-at.result.1 c.seam-at.ensures c.extend_from_slice.new.self.items w.if-left-gt0.false
      (c.in_ok-extend_from_slice.ensures.items ∙ ap (λ l. c.if-left-gt0.part.items ++ l) (take_rest c.args.entries.now c.seam-at.result.0)
      ∙ ap (λ (l : List ScheduleEntry). l ++ drop c.seam-at.result.0 c.args.entries.now) (ap (λ p. p.items) w.part-is ∙ c.new-part.ensures.items))
      c.requires.runs
]
