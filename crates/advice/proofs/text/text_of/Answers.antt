use Rattle.std.proofs.Common.{◌≡◌, ◌++◌, [], List, ℕ, length, map, sym, ap, ◌∙◌}
use Rattle.std.specs.Prelude.{◌==◌, codes}
use Rattle.std.proofs.lemmas.Bool.{false≢true}
use Rattle.model.specs.Report.{line}
use Rattle.listings.specs.printed_names.Printed.{printed}
use Rattle.link_conditions.specs.limits_of_linking.Texts.{with_texts}
use Rattle.advice.specs.declared.told.Told.{Told}
use Rattle.advice.specs.Advice.{head, indented, words_of}
use Rattle.advice.proofs.TextLaws.{text_whole}
use Rattle.advice.proofs.text.text_of.Goals as goal

pub returns : goal.returns
returns c =
    let told = c.args.told.now in
    let begin : c.push_line.new.text.items ≡ line (codes "  " ++ printed head) =
    c.in_ok-push_line.ensures ∙ ap (λ (l : List ℕ). l ++ line (codes "  " ++ printed head)) c.new-text.ensures.items in
    let lines : c.push_lines.new.lines ≡ with_texts [] (map words_of told) =
    c.in_ok-push_lines.ensures.lines ∙ ap (λ (l : List (List ℕ)). with_texts l (map words_of told)) c.new-lines.ensures in
    text_whole told _ _ (with_texts [] (map words_of told)) (λ e. false≢true (sym c.if-is_empty.false ∙ c.is_empty.ensures ∙ ap (λ (l : List Told). length l == 0) e)) begin
    (c.in_ok-push_lines.ensures.text ∙ ap (λ (l : List (List ℕ)). c.push_line.new.text.items ++ indented (codes "    ") l) lines)
