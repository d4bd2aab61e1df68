use Rattle.std.proofs.Common.{rules, arith, ◌≡◌, ℕ, suc, ◌+◌, ◌-◌, not, true, false, refl, sym, subst, below_more}
use Rattle.std.specs.Prelude.{int_lt}
use Rattle.model.specs.Instruction.{lookup_pair}
use Rattle.classfile.proofs.profile.jump.pairs_fall.Goals as goal
use Rattle.classfile.proofs.profile.Counted.{any_counted, none_counted}

pub returns-then-value-next : goal.returns-then-value-next
returns-then-value-next c =
    let code = c.args.code.now in
    let at = c.args.at in
    let k = c.loop-k.k in
    let fell : int_lt (lookup_pair code at k).0 (lookup_pair code at (k + 1)).0 ≡ false = search rules in
    let one : k + 1 ≡ suc k = omega arith in
    let here : not (int_lt (lookup_pair code at k).0 (lookup_pair code at (suc k)).0) ≡ true =
    subst (λ (n : ℕ). not (int_lt (lookup_pair code at k).0 (lookup_pair code at n).0) ≡ true) one (rw fell refl) in
    sym (any_counted (λ j. not (int_lt (lookup_pair code at j).0 (lookup_pair code at (suc j)).0)) (c.args.count - 1) k (omega arith) here)

pub loop-k-preserved : goal.loop-k-preserved
loop-k-preserved c =
    let code = c.args.code.now in
    let at = c.args.at in
    let k = c.loop-k.k in
    let rose : int_lt (lookup_pair code at k).0 (lookup_pair code at (k + 1)).0 ≡ true = search rules in
    let one : k + 1 ≡ suc k = omega arith in
    below_more _ _ c.loop-k.invariant (subst (λ (n : ℕ). int_lt (lookup_pair code at k).0 (lookup_pair code at n).0 ≡ true) one rose)

pub returns : goal.returns
returns c =
    let code = c.args.code.now in
    let at = c.args.at in
    sym (none_counted (λ j. not (int_lt (lookup_pair code at j).0 (lookup_pair code at (suc j)).0)) (c.args.count - 1)
    (λ j below. rw (c.loop-k.invariant j (omega (arith, below))) refl))
