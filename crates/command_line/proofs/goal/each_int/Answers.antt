use Rattle.std.proofs.Common.{List, [], ◌∷◌, ◌++◌, ◌+◌, Bor, ℕ, map, subst, sym, take}
use Rattle.std.specs.Int.{w32}
use Rattle.std.proofs.lemmas.Int.{to_z-of_z}
use Rattle.std.proofs.lemmas.Result.{err_from_is_err_and}
use Rattle.command_line.specs.Goals.{AreEachInt}
use Rattle.command_line.proofs.CommandLineLemmas.{refuses_more}
use Rattle.command_line.proofs.GoalLemmas.{no_int, one_more_int}
use Rattle.command_line.proofs.goal.each_int.Goals as goal

abbrev no_text : Bor (List ℕ)
no_text = record { ref_ptr = (0, 0); now = [] }

pub loop-text-preserved : goal.loop-text-preserved
loop-text-preserved c =
    let texts = c.args.texts.now in
    let i = c.loop-text.text-index in
    let ints = c.loop-text.ints.items in
    let int = c.in_ok-int.ensures.int in
    rw c.in_ok-push.ensures.items
    (subst (λ n. AreEachInt (take (i + 1) (map (λ text. text.now) texts)) (ints ++ n ∷ [])) (sym (to_z-of_z w32 c.in_ok-int.field-0 int.0))
    (one_more_int texts i no_text c.loop-text-test.true ints c.loop-text.invariant c.in_ok-int.field-0 int.0 int.1))

pub returns-in_err-int-clause-none : goal.returns-in_err-int-clause-none
returns-in_err-int-clause-none c =
    let p = err_from_is_err_and c.from_residual-in_err-int.result c.from_residual-in_err-int.ensures.1 in
    rw (p.1, p.2)
    (refuses_more c.in_err-int.field-0.0 _ _ (no_int c.args.texts.now c.loop-text.text-index no_text c.loop-text-test.true) c.in_err-int.ensures.none)
