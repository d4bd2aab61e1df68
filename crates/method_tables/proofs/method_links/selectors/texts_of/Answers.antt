use Rattle.std.proofs.Common.{◌≡◌, ◌∙◌, ◌++◌, ◌∷◌, [], ℕ, List, Bor, map, ap}
use Rattle.std.specs.Prelude.{slice_get}
use Rattle.std.proofs.lemmas.List.{map-append}
use Rattle.method_tables.specs.method_links.Methods.{methods_of, member_at}
use Rattle.method_tables.specs.method_links.Selected.{parts_of}
use Rattle.method_tables.proofs.method_links.Lists.{inner}
use Rattle.method_tables.proofs.method_links.Selecting.{text_pushed}
use Rattle.method_tables.proofs.method_links.selectors.texts_of.Goals as goal

abbrev now : Bor (List ℕ) → List ℕ
now t = t.now

pub loop-number-preserved : goal.loop-number-preserved
loop-number-preserved c =
    let files = c.args.set.now in
    let n = c.loop-number.number in
    let texts = c.loop-number.texts.items in
    let text = c.in-Some-text_at.text in
    let at : member_at files c.in-Some.place ≡ slice_get (methods_of files) n = inner (member_at files c.in-Some.place) (slice_get (methods_of files) n) (c.in-Some.ensures.method files c.requires) in
    let pushed : map now c.push.new.self.items ≡ map now texts ++ text.now ∷ [] = ap (map now) c.in_ok-push.ensures.items ∙ map-append now texts (text ∷ []) in
    text_pushed files c.args.part (map now texts) (map now c.push.new.self.items) text.now n (member_at files c.in-Some.place) (parts_of c.args.part files) at c.in-Some-text_at.ensures pushed c.loop-number.invariant
