use Rattle.std.proofs.Common.{◌≡◌, ◌∙◌, [], ◌∷◌, ◌++◌, ap, map, sym, vec_items}
use Rattle.std.proofs.lemmas.List.{map-append}
use Rattle.program_files.specs.Handed.{main_names}
use Rattle.program_files.proofs.HandedLemmas.{names_of_main}
use Rattle.program_files.proofs.file_order.add_main.Goals as goal

pub returns : goal.returns
returns c =
    let before = map vec_items c.args.names.now.items in
    let same : c.in_ok-name.name.items ≡ c.in-Some.class.name.items = c.in_ok-name.ensures.items ∙ c.as_slice.ensures.value in
    ap (map vec_items) c.in_ok-push.ensures.items ∙ map-append vec_items c.args.names.now.items _ ∙ ap (λ name. before ++ name ∷ []) same
    ∙ ap (λ names. before ++ names) (sym (names_of_main c.in-Some.class c.if-not-class.false))
    ∙ ap (λ class. before ++ main_names (class ∷ [])) (sym c.in-Some.is)
