use Rattle.std.proofs.Common.{◌≡◌, ◌+◌, ◌∷◌, [], ◌++◌, List, ℕ, Vec, Global, map, vec_items, sym, ap, subst, ◌∙◌, arith}
use Rattle.std.proofs.lemmas.List.{map_push}
use Rattle.explanations.specs.thread_explanations.Found.{IsFoundFrom}
use Rattle.explanations.proofs.thread_explanations.Paths.{AreBelow, all_found, none_found, one_found}
use Rattle.explanations.proofs.thread_explanations.cycles.cycles.Goals as goal
use Rattle.explanations.proofs.thread_explanations.cycles.cycles.Goals.{in-Some+in_ok-push, in_default}

pub loop-number-preserved : goal.loop-number-preserved
loop-number-preserved c =
    let waits = c.args.waits.now in
    let n = c.loop-number.number in
    let found = map vec_items c.loop-number.found.items in
    elim c.match-branch-2.branch [
      | in-Some+in_ok-push w ↦
          let one = w.in-Some.cycle in
          let is = subst (IsFoundFrom waits n) w.in-Some.is c.in_ok-cycle.ensures in
          let pushed : map vec_items c.match-branch-2.found.items ≡ found ++ (n ∷ is.0) ∷ [] =
          ap (λ (v : Vec (Vec ℕ Global) Global). map vec_items v.items) w.found-is
          ∙ ap (map vec_items) w.in_ok-push.ensures.items
          ∙ map_push vec_items c.loop-number.found.items one
          ∙ ap (λ (l : List ℕ). found ++ l ∷ []) is.1
          in
          subst (λ (l : List (List ℕ)). AreBelow waits l (n + 1)) (sym pushed) (one_found waits found n c.loop-number.invariant is.0 is.2)
      | in_default w ↦
          let none = subst (IsFoundFrom waits n) w.in_default.is c.in_ok-cycle.ensures in
          let same = ap (λ (v : Vec (Vec ℕ Global) Global). map vec_items v.items) w.found-is in
          subst (λ (l : List (List ℕ)). AreBelow waits l (n + 1)) (sym same) (none_found waits found n c.loop-number.invariant none)
    ]

pub returns : goal.returns
returns c =
    all_found c.args.waits.now (map vec_items c.loop-number.found.items) c.loop-number.number c.loop-number.invariant
    (omega (arith, c.loop-number-test.false))
