use Rattle.std.proofs.Common.{arith, ◌≡◌, ◌∙◌, ◌<◌, ◌∷◌, [], ◌++◌, ap, inr, length, map, string_bytes, subst, sym, take, vec_items}
use Rattle.std.specs.Option.{option_map}
use Rattle.std.proofs.lemmas.List.{map-append}
use Rattle.std.proofs.lemmas.Result.{err_from_is_err_and}
use Rattle.program_files.specs.Folders.{IsListed}
use Rattle.program_files.specs.Given.{AreGiven, IsGiven, IsNoFile}
use Rattle.program_files.proofs.GivenLemmas.{given_on, map_more, one_of}
use Rattle.program_files.proofs.given_words.given_paths.Goals as goal

pub loop-word-preserved : goal.loop-word-preserved
loop-word-preserved g c =
    let listed = g.F.Folder.listed c.args.folder.now in
    let words = c.args.words.now in
    let i = c.loop-word.word-index in
    let within : i < length words = omega (arith, c.loop-word-test.true) in
    let item = c.word-item.result in
    let found = option_map vec_items c.in_ok-names.names in
    let front = map string_bytes c.in_ok-files.files.items in
    let before = map string_bytes c.loop-word.given.items in
    let lists = subst (λ word. IsListed (listed word) found) c.as_str.ensures.value c.in_ok-names.ensures.listed in
    let gives = subst (λ (these : _). IsGiven listed (map string_bytes these) (string_bytes item) found front) c.deref.ensures.value
    (subst (λ word. IsGiven listed (map string_bytes c.deref.result.now) word found front) c.as_str-in-loop-word.ensures.value c.in_ok-files.ensures.given) in
    let taken = map_more string_bytes words i item within c.word-item.is in
    let given : map string_bytes c.append.new.self.items ≡ before ++ front =
    ap (map string_bytes) c.in_ok-append.ensures.items ∙ map-append string_bytes c.loop-word.given.items c.in_ok-files.files.items in
    subst (λ words. AreGiven listed words (map string_bytes c.append.new.self.items)) (sym taken)
    (subst (AreGiven listed (map string_bytes (take i words) ++ string_bytes item ∷ [])) (sym given)
    (given_on listed [] (map string_bytes (take i words)) before (string_bytes item) found front c.loop-word.invariant lists gives))

pub returns-in_err-files-clause-faulty : goal.returns-in_err-files-clause-faulty
returns-in_err-files-clause-faulty g c =
    let p = err_from_is_err_and c.from_residual-in_err-files.result c.from_residual-in_err-files.ensures.1 in
    let listed = g.F.Folder.listed c.args.folder.now in
    let words = c.args.words.now in
    let item = c.word-item.result in
    let found = option_map vec_items c.in_ok-names.names in
    let fault = c.in_err-files.field-0.0 in
    let within : c.loop-word.word-index < length words = omega (arith, c.loop-word-test.true) in
    let lists = subst (λ word. IsListed (listed word) found) c.as_str.ensures.value c.in_ok-names.ensures.listed in
    let none = subst (λ word. IsNoFile listed word found fault) c.as_str-in-loop-word.ensures.value c.in_err-files.ensures.faulty in
    rw (p.1, p.2) (inr (string_bytes item, found, one_of string_bytes words c.loop-word.word-index item within c.word-item.is, lists, none))
