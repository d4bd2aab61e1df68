use Rattle.std.proofs.Common.{rules, ◌∙◌, ◌+◌, ◌++◌, ◌∷◌, [], List, ℕ, ap, sym, map, drop, append_assoc}
use Rattle.model.specs.BuiltInForm.{indices_from}
use Rattle.class_tree.proofs.Indices.{indices_behind}
use Rattle.class_tree.proofs.builtin.form.interfaces_of.Goals as goal

pub loop-interface-preserved : goal.loop-interface-preserved
loop-interface-preserved c =
    let behind = indices_from (c.loop-interface.at + 2) (map (λ n. n.now) (drop (c.loop-interface._interface-index + 1) c.args.interfaces.now)) in
    let next = indices_behind (λ n. n.now) c.args.interfaces.now c.loop-interface._interface-index c.loop-interface-test.true c.loop-interface.at in (
      search rules,
      ap (λ (l : List ℕ). l ++ behind) c.in_ok-push.ensures.items
          ∙ append_assoc c.loop-interface.indices.items (c.loop-interface.at ∷ []) behind
          ∙ ap (λ (l : List ℕ). c.loop-interface.indices.items ++ l) (sym next)
          ∙ c.loop-interface.invariant.1,
    )
