use Rattle.std.proofs.Common.{List, ℕ, ◌≡◌, ◌∙◌, ◌++◌, ap, codes, map, decimal, subst}
use Rattle.model.specs.declared.limits.Limits.{Limits}
use Rattle.schedule.proofs.schedule_text.WriteLaws.{six_parts}
use Rattle.schedule.specs.schedule_text.Printing.{in_lines, printed_checksums}
use Rattle.schedule.specs.schedule_text.Text.{limit_words}
use Rattle.schedule.proofs.schedule_text.write.push_recording.Goals as goal

pub returns-clause-added : goal.returns-clause-added
returns-clause-added c =
    let r = c.args.recording.now in
    let t1 = c.extend_from_slice.new.self.items in
    let t2 = c.push_limits.new.text.items in
    let t3 = c.extend_from_slice-2.new.self.items in
    let t4 = c.push_lengths.new.text.items in
    let t5 = c.push_checked.new.text.items in
    six_parts c.args.text.now.items (codes "#limits ") (in_lines (limit_words r.limits)) (codes "#lengths ") (in_lines (map decimal r.lengths)) (printed_checksums r.checksums) (codes "#events\n")
    t1 t2 t3 t4 t5 c.extend_from_slice-3.new.self.items
    c.in_ok-extend_from_slice.ensures.items
    (subst (λ (l : Limits). t2 ≡ t1 ++ in_lines (limit_words l)) c.limits.ensures c.in_ok-push_limits.ensures)
    c.in_ok-extend_from_slice-2.ensures.items
    (subst (λ (ns : List ℕ). t4 ≡ t3 ++ in_lines (map decimal ns)) c.lengths-lengths.ensures.are c.in_ok-push_lengths.ensures)
    (c.in_ok-push_checked.ensures ∙ ap (λ x. t4 ++ printed_checksums x) c.checksums.ensures.are)
    c.in_ok-extend_from_slice-3.ensures.items
