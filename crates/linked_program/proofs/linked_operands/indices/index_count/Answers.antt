use Rattle.std.proofs.Common.{◌≡◌, ◌<◌, Some, length, arith, sym, ap, subst, ◌∙◌}
use Rattle.std.proofs.lemmas.List.{length-map}
use Rattle.std.proofs.lemmas.Option.{same_Some}
use Rattle.model.specs.Tree.{FileTree}
use Rattle.classfile.specs.View.{file_of}
use Rattle.constant_pool.specs.View.{entry_of}
use Rattle.hierarchy.specs.Places.{class_at}
use Rattle.linked_program.proofs.linked_operands.Rows.{pool_fits}
use Rattle.linked_program.proofs.linked_operands.indices.index_count.Goals as goal

pub returns-in-Some-clause-all : goal.returns-in-Some-clause-all
returns-in-Some-clause-all c file at =
    let files = c.args.linked.now in
    let tree = file_of c.in-Some.file.now in
    let there : class_at files c.args.class ≡ Some tree = ap (λ f. class_at f c.args.class) (sym c.set.ensures.same) ∙ sym c.in-Some.ensures in
    let same : tree ≡ file = same_Some tree file (sym there ∙ at) in
    let entries : length c.constants.result.now ≡ length tree.pool = omega (arith, ap length c.constants.ensures, length-map c.constants.result.now entry_of) in
    let few : length tree.pool < 65535 = pool_fits files c.set.ensures.linked c.args.class tree there in
    let all : length tree.pool < c.min.result = omega (arith, few, entries, c.min.ensures) in
    subst (λ (f : FileTree). length f.pool < c.min.result) same all
