use Rattle.std.proofs.Common.{arith, ◌≡◌, ◌∙◌, ◌+◌, [], ◌∷◌, ◌++◌, ap, inr, map, refl, string_bytes, subst, sym, take, vec_items}
use Rattle.std.specs.Option.{option_map}
use Rattle.std.proofs.lemmas.List.{map-append, take_more}
use Rattle.std.specs.Prelude.{Contains}
use Rattle.std.proofs.lemmas.List.Elements.{Contains-get_or}
use Rattle.std.proofs.lemmas.Result.{IfErr-weaker, IfOk-weaker, err_from_is_err_and}
use Rattle.program_files.specs.Folders.{IsListed}
use Rattle.program_files.specs.Given.{AreAt, AreFronts, in_folder}
use Rattle.program_files.proofs.GivenLemmas.{below_found, below_none, deep_at, deep_below, deep_in, deep_none, fronts_on}
use Rattle.program_files.proofs.class_paths.+below.Goals as goal

pub below-returns-in_ok-class_file-in-None-clause-files : goal.below-returns-in_ok-class_file-in-None-clause-files
below-returns-in_ok-class_file-in-None-clause-files g t c =
    below_none (g.F.Folder.listed c.args.folder.now) c.args.depth c.args.path.now _ _ (ap (option_map vec_items) c.in-None.is) c.in_ok-class_file-in-None.ensures

pub below-returns-in_ok-from_str-in-Some-clause-faulty : goal.below-returns-in_ok-from_str-in-Some-clause-faulty
below-returns-in_ok-from_str-in-Some-clause-faulty g t c = inr (
  c.in_ok-from_str-in-Some.field-0,
  refl,
  deep_none (g.F.Folder.listed c.args.folder.now) c.args.depth c.args.path.now _ _ c.in-Some.field-0.items (ap (option_map vec_items) c.in-Some.is)
      c.in_ok-from_str-in-Some.ensures.ok (omega arith),
)

pub below-returns-in-Some-2-clause-files : goal.below-returns-in-Some-2-clause-files
below-returns-in-Some-2-clause-files g t c =
    IfOk-weaker _ _ _ (λ paths. below_found (g.F.Folder.listed c.args.folder.now) c.args.depth c.args.path.now (option_map vec_items c.args.found)
    c.as_slice.result.now c.in-Some.field-0.items (map string_bytes paths.items) (ap (option_map vec_items) c.in-Some.is) c.as_slice.ensures.value (omega arith))
    c.below_each.ensures.files

pub below-returns-in-Some-2-clause-faulty : goal.below-returns-in-Some-2-clause-faulty
below-returns-in-Some-2-clause-faulty g t c =
    IfErr-weaker _ _ _ (λ fault. deep_below (g.F.Folder.listed c.args.folder.now) c.args.depth c.args.path.now (option_map vec_items c.args.found)
    c.as_slice.result.now c.in-Some.field-0.items fault (ap (option_map vec_items) c.in-Some.is) c.as_slice.ensures.value (omega arith))
    c.below_each.ensures.faulty

pub below_each-returns-in_err-front-clause-faulty : goal.below_each-returns-in_err-front-clause-faulty
below_each-returns-in_err-front-clause-faulty g t c =
    let p = err_from_is_err_and c.from_residual.result c.from_residual.ensures.1 in
    let one = subst (Contains c.args.names.now) (sym c.name-item.is) (Contains-get_or c.args.names.now c.loop-name.name-index c.name-item.result (omega (arith, c.loop-name-test.true))) in
    rw (p.1, p.2) (deep_in (g.F.Folder.listed c.args.folder.now) c.args.depth c.args.path.now c.args.names.now c.name-item.result c.in_err-front.field-0.0 one
    c.in_err-front.ensures.faulty)

pub below_each-loop-name-preserved : goal.below_each-loop-name-preserved
below_each-loop-name-preserved g t c =
    let names = c.args.names.now in
    let i = c.loop-name.name-index in
    let item = c.name-item.result in
    let before = map string_bytes c.loop-name.paths.items in
    let front = map string_bytes c.in_ok-front.front.items in
    let gives = AreAt (g.F.Folder.listed c.args.folder.now) c.args.depth c.args.path.now in
    let taken : take (i + 1) names ≡ take i names ++ item ∷ [] =
    take_more names i item (omega (arith, c.loop-name-test.true)) ∙ ap (λ one. take i names ++ one ∷ []) (sym c.name-item.is) in
    let added : map string_bytes c.append.new.self.items ≡ before ++ front =
    ap (map string_bytes) c.in_ok-append.ensures.items ∙ map-append string_bytes c.loop-name.paths.items c.in_ok-front.front.items in
    subst (λ names. AreFronts gives names (map string_bytes c.append.new.self.items)) (sym taken)
    (subst (AreFronts gives (take i names ++ item ∷ [])) (sym added)
    (fronts_on gives (take i names) item before front c.loop-name.invariant c.in_ok-front.ensures.files))

pub at_name-returns-clause-faulty : goal.at_name-returns-clause-faulty
at_name-returns-clause-faulty g t c =
    let listed = g.F.Folder.listed c.args.folder.now in
    let found = option_map vec_items c.in_ok-found.found in
    let leads : c.as_str-3.result.now ≡ in_folder c.args.path.now (string_bytes c.args.name.now) =
    c.as_str-3.ensures.value ∙ c.in_ok-path.ensures ∙ ap (in_folder c.args.path.now) c.as_str.ensures.value in
    let lists = subst (λ path. IsListed (listed path) found) (c.as_str-2.ensures.value ∙ sym c.as_str-3.ensures.value) c.in_ok-found.ensures.listed in
    IfErr-weaker _ _ _ (λ fault. deep_at listed c.args.depth c.args.path.now c.as_str-3.result.now c.args.name.now found fault leads lists) c.below.ensures.faulty
