use Rattle.std.proofs.Common.{◌≡◌, ◌≤◌, ◌++◌, ◌-◌, map}
use Rattle.model.specs.Rows.{counting}
use Rattle.next_accesses.specs.element_ranges.Ranges.{element_action}
use Rattle.next_accesses.proofs.element_ranges.push_elements.Given as goal

-- those so far
abbrev pub invariant-elements : goal.invariant-elements
invariant-elements l =
    (l.range.first ≤ l.index) × (l.index - l.range.first ≤ l.range.end - l.range.first)
    × (l.found.items ≡ l.initial.found.items ++ map (element_action l.range) (counting l.range.first (l.index - l.range.first)))
