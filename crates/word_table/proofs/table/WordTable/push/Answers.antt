use Rattle.std.proofs.Common.{rules, ◌≡◌, ◌++◌, ◌∷◌, [], length, arith, ◌∙◌, ap, sym, List, ℕ}
use Rattle.word_table.specs.Lists.{lists_of}
use Rattle.word_table.proofs.Laid.{pushed, pushed_laid, length-lists_of}
use Rattle.word_table.proofs.table.WordTable.push.Goals as goal

pub invariant_of-self-2 : goal.invariant_of-self-2
invariant_of-self-2 c =
    let are : c.push_reserved.new.self.items ≡ c.self.inside.starts.items ++ c.len-start.result ∷ [] = rw (← c.in_ok-reserve.ensures.items) c.push_reserved.ensures.items in
    let at : c.len-start.result ≡ length c.self.inside.words.items = omega (arith, c.len-start.ensures) in (
      pushed_laid c.self.inside.starts.items c.self.inside.words.items c.args.words.now c.push_reserved.new.self.items c.extend_from_slice.new.self.items c.len-start.result are c.in_ok-extend_from_slice.ensures.items at c.self.invariant.0,
      search rules,
    )

pub returns-clause-ok : goal.returns-clause-ok
returns-clause-ok c =
    let are : c.push_reserved.new.self.items ≡ c.self.inside.starts.items ++ c.len-start.result ∷ [] = rw (← c.in_ok-reserve.ensures.items) c.push_reserved.ensures.items in
    let at : c.len-start.result ≡ length c.self.inside.words.items = omega (arith, c.len-start.ensures) in
    let lists : lists_of c.self.inside.starts.items c.self.inside.words.items ≡ c.args.self.now = c.self.view_is ∙ c.in_ok-make_place.ensures in
    let many : length (lists_of c.self.inside.starts.items c.self.inside.words.items) ≡ length c.args.self.now = ap (λ (ls : List (List ℕ)). length ls) lists in (
      omega (arith, c.len-number.ensures, length-lists_of c.self.inside.starts.items c.self.inside.words.items, many),
      pushed c.self.inside.starts.items c.self.inside.words.items c.args.words.now c.push_reserved.new.self.items c.extend_from_slice.new.self.items c.len-start.result c.args.self.now are c.in_ok-extend_from_slice.ensures.items at lists c.self.invariant.0,
    )
