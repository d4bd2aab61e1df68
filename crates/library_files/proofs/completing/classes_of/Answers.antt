use Rattle.std.proofs.Common.{arith, ◌≡◌, ◌+◌, ◌∙◌, ◌++◌, ◌∷◌, [], List, ℕ, Some, None, get_or, length, map, take, refl, sym, ap, subst, vec_items}
use Rattle.std.specs.Prelude.{slice_get}
use Rattle.std.specs.Option.{option_map}
use Rattle.std.specs.declared.vec.Vec.{Vec}
use Rattle.std.specs.Global.{Global}
use Rattle.std.proofs.lemmas.List.{map_more, map_push}
use Rattle.std.proofs.lemmas.Option.{slice_get-map, slice_get_read}
use Rattle.class_tree.specs.View.{file_of}
use Rattle.library_files.specs.Completing.{IsClassOf}
use Rattle.library_files.proofs.Spelled.{spelled_push, spelled_at}
use Rattle.library_files.proofs.completing.classes_of.Goals as goal

pub returns-in_default : goal.returns-in_default
returns-in_default c = λ trees are.
    let files = c.args.files.now in
    let i = c.loop-bytes.bytes-index in
    let item = c.bytes-item.result in
    let bytes = c.deref.result.now in
    let at : slice_get (map vec_items files) i ≡ Some bytes =
    slice_get-map vec_items files i ∙ ap (option_map vec_items) (slice_get_read files (length files) i item refl c.loop-bytes-test.true c.bytes-item.is) ∙ ap Some (sym c.deref.ensures.value) in
    let none = subst (IsClassOf bytes) c.in_default.is c.in_ok-class.ensures in
    let found = spelled_at (map vec_items files) trees i bytes at are in
    none found.0 found.1

pub loop-bytes-preserved : goal.loop-bytes-preserved
loop-bytes-preserved c =
    let files = c.args.files.now in
    let i = c.loop-bytes.bytes-index in
    let item = c.bytes-item.result in
    let bytes = c.deref.result.now in
    let classes = c.loop-bytes.classes.items in
    let more : map vec_items (take (i + 1) files) ≡ map vec_items (take i files) ++ bytes ∷ [] =
    map_more vec_items files i item c.loop-bytes-test.true
    ∙ ap (λ (v : Vec ℕ Global). map vec_items (take i files) ++ vec_items v ∷ []) (sym c.bytes-item.is)
    ∙ ap (λ (b : List ℕ). map vec_items (take i files) ++ b ∷ []) (sym c.deref.ensures.value) in
    let all : map file_of c.push.new.self.items ≡ map file_of classes ++ file_of c.in-Some.class ∷ [] =
    ap (map file_of) c.in_ok-push.ensures.items ∙ map_push file_of classes c.in-Some.class in
    let is = subst (IsClassOf bytes) c.in-Some.is c.in_ok-class.ensures in
    rw (more, all) (spelled_push (map vec_items (take i files)) (map file_of classes) bytes (file_of c.in-Some.class) c.loop-bytes.invariant is.0)
