use Rattle.std.proofs.Common.{◌≡◌, ◌≤◌, ℕ, suc, List, length, subst, arith}
use Rattle.model.specs.Classes.{classes_of}
use Rattle.hierarchy.specs.declared.rows.Above.TheVariants as above
use Rattle.hierarchy.specs.Above.{next_rows}
use Rattle.hierarchy.specs.Numbers.{named_rows}
use Rattle.hierarchy.proofs.RankLaws.{settled_rows}
use Rattle.hierarchy.proofs.ranked_rows.ordered_interface_rows.Goals as goal

pub returns-then-branch : goal.returns-then-branch
returns-then-branch c =
    let files = c.args.set.now in
    let named = named_rows c.args.names.now in
    let n = length (classes_of files) in
    let enough : n ≤ suc (suc n) = omega arith in
    settled_rows files c.requires.ranks above.Interfaces (suc n) enough (named c.in_ok-rows.rows.items) (subst (λ (l : List (List ℕ)). next_rows files above.Interfaces (named l) ≡ named l) c.deref.ensures.value (c.in_ok-are_settled.ensures c.if-branch.true))
