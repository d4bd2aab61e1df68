use Rattle.std.proofs.Common.{rules, refl, ◌≡◌, ◌++◌, ◌∷◌, [], Some}
use Rattle.thread_stacks.proofs.Changes.{dropped_by}
use Rattle.thread_stacks.proofs.stack_entries.StackEntries.go_under.Goals as goal

pub invariant_of-self : goal.invariant_of-self
invariant_of-self c =
    let split : c.self.inside.entries.now ≡ c.in-Some.under.now ++ c.in-Some.entry.now ∷ [] = search rules in
    (dropped_by c.self.inside.used c.self.inside.words.now c.self.inside.entries.now c.in-Some.under.now c.self.inside.frames c.in-Some.entry.now
    (Some c.in-Some.entry.now) c.size.result c.frames.result c.self.invariant split refl c.size.ensures c.frames.ensures).1

pub returns-in-Some : goal.returns-in-Some
returns-in-Some c =
    let split : c.self.inside.entries.now ≡ c.in-Some.under.now ++ c.in-Some.entry.now ∷ [] = search rules in
    rw (← c.self.view_is)
    (dropped_by c.self.inside.used c.self.inside.words.now c.self.inside.entries.now c.in-Some.under.now c.self.inside.frames c.in-Some.entry.now
    (Some c.in-Some.entry.now) c.size.result c.frames.result c.self.invariant split refl c.size.ensures c.frames.ensures).0
