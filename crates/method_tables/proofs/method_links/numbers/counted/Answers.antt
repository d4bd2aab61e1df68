use Rattle.std.proofs.Common.{rules, arith, ◌≡◌, ◌≤◌, ◌∙◌, ◌++◌, ◌∷◌, [], ℕ, List, length, drop, ap, sym}
use Rattle.std.proofs.lemmas.List.{length-map, append-nil}
use Rattle.std.proofs.lemmas.Option.{slice_get_past}
use Rattle.classfile.specs.View.{file_of, method_of}
use Rattle.model.specs.Classes.{classes_of}
use Rattle.hierarchy.proofs.RowLaws.{drop_past}
use Rattle.method_tables.specs.method_links.Numbers.{places_in, places_from, firsts_from}
use Rattle.method_tables.proofs.method_links.Numbering.{first_pushed, class_placed, table_made}
use Rattle.method_tables.proofs.method_links.numbers.counted.Goals as goal

pub loop-class-preserved : goal.loop-class-preserved
loop-class-preserved c =
    let xs = classes_of c.args.set.now in
    let class = c.loop-class.class in
    let file = file_of c.in-Some.file.now in
    let firsts = c.loop-class.firsts.items in
    let places = c.loop-class.places.items in
    let size : c.len.result ≡ length places = search (rules, c.len.ensures) in
    let pushed : c.push.new.self.items ≡ firsts ++ length places ∷ [] = c.in_ok-push.ensures.items ∙ ap (λ (n : ℕ). firsts ++ n ∷ []) size in
    let items : c.len-in-loop-class.result ≡ length c.in-Some.file.now.methods.items = search (rules, c.len-in-loop-class.ensures) in
    let count : c.len-in-loop-class.result ≡ length file.methods = items ∙ sym (length-map c.in-Some.file.now.methods.items method_of) in
    let added : c.add_places.new.places.items ≡ places ++ places_in class 0 (length file.methods) = c.in_ok-add_places.ensures ∙ ap (λ (n : ℕ). places ++ places_in class 0 n) count in
    record {
      firsts = first_pushed xs class file (sym c.in-Some.ensures) firsts c.push.new.self.items (firsts_from 0 xs) places c.add_places.new.places.items pushed added c.loop-class.invariant.firsts;
      places = class_placed xs class file (sym c.in-Some.ensures) places c.add_places.new.places.items (places_from 0 xs) added c.loop-class.invariant.places;
    }

pub returns : goal.returns
returns c =
    let xs = classes_of c.args.set.now in
    let class = c.loop-class.class in
    let firsts = c.loop-class.firsts.items in
    let places = c.loop-class.places.items in
    let past : length xs ≤ class = omega (arith, c.loop-class-test.false, c.count-class-end.ensures) in
    let none : drop class xs ≡ [] = drop_past xs class (slice_get_past xs class past) in
    table_made c.args.set.now firsts places
    (sym (append-nil firsts) ∙ ap (λ (l : List _). firsts ++ firsts_from (length places) l) (sym none) ∙ c.loop-class.invariant.firsts)
    (sym (append-nil places) ∙ ap (λ (l : List _). places ++ places_from class l) (sym none) ∙ c.loop-class.invariant.places)
