use Rattle.std.proofs.Common.{arith, ◌≡◌, ◌∙◌, ◌+◌, ◌<◌, ◌++◌, ◌∷◌, [], ℕ, List, Option, Some, vec_items, length, map, get_or, ap, sym, subst}
use Rattle.std.proofs.lemmas.List.{length-append, length-map, map-append}
use Rattle.std.proofs.lemmas.Option.{slice_get_within}
use Rattle.classfile.specs.View.{file_of}
use Rattle.model.specs.Tree.{FileTree}
use Rattle.model.specs.Classes.{Program, classes_of}
use Rattle.hierarchy.specs.Places.{class_at}
use Rattle.method_tables.specs.method_links.Named.{AreNamedIn}
use Rattle.method_tables.proofs.method_links.Naming.{each_more}
use Rattle.method_tables.proofs.method_links.named.NamedMethods.new.Goals as goal

abbrev IsRow : Program → ℕ → List (Option ℕ) → Type 0
IsRow files class row = (file : FileTree) → class_at files class ≡ Some file → AreNamedIn files file.pool row

pub loop-class-preserved : goal.loop-class-preserved
loop-class-preserved c =
    let files = c.args.hierarchy.now in
    let class = c.loop-class.class in
    let rows = c.loop-class.rows.items in
    let row = c.in_ok-row_of.field-0 in
    let pushed : c.push.new.self.items ≡ rows ++ row ∷ [] = c.in_ok-push.ensures.items in
    let there : Some (file_of c.in-Some.file.now) ≡ class_at files class = c.in-Some.ensures ∙ ap (λ (f : Program). class_at f class) c.set-set.ensures in
    record {
      count = omega (arith, ap length pushed, length-append rows (row ∷ []), c.loop-class.invariant.count);
      said = subst (λ (l : List (List (Option ℕ))). (k : ℕ) → k < class + 1 → IsRow files k (get_or l k [])) (sym (ap (map vec_items) pushed ∙ map-append vec_items rows (row ∷ [])))
          (each_more [] (IsRow files) (map vec_items rows) class row.items (length-map rows vec_items ∙ c.loop-class.invariant.count) c.loop-class.invariant.said
          (λ file e. (let both : Some (file_of c.in-Some.file.now) ≡ Some file = there ∙ e in let same : file_of c.in-Some.file.now ≡ file = cc in subst (λ (f : FileTree). AreNamedIn files f.pool row.items) same c.in_ok-row_of.ensures)));
    }

pub returns : goal.returns
returns c =
    let files = c.args.hierarchy.now in
    let count : c.count-class-end.result ≡ length (classes_of files) = c.count-class-end.ensures ∙ ap (λ (f : Program). length (classes_of f)) c.set-set.ensures in
    λ class file e. c.loop-class.invariant.said class (omega (arith, slice_get_within (classes_of files) class file e, c.loop-class-test.false, count)) file e
