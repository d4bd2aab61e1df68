-- What is told of all files.
use Rattle.std.proofs.Common.{◌≡◌, ℕ, ◌+◌, ◌<◌, List, map, length, get_or, true, Option, Some, None, sym, ap, ◌∙◌, arith}
use Rattle.std.proofs.lemmas.Bool.{false≢true}
use Rattle.model.specs.Tree.{FileTree}
use Rattle.model.specs.Classes.{Program}
use Rattle.model.specs.CodeParts.{count_from}
use Rattle.model.specs.Linkable.{AreSpelled, stands, DuplicateClass}
use Rattle.advice.specs.declared.told.Told.{Told}
use Rattle.advice.specs.Wrong.{is_wrong_at, is_wrong_in}
use Rattle.advice.specs.Telling.{TellsFiles}
use Rattle.advice.specs.Advice.{TellsAll}
use Rattle.advice.proofs.ReadLaws.{counted_at, spelled_length}
use Rattle.advice.proofs.WalkLaws.{within}

-- the classes of files that are class files are theirs, each at the place of its file
abbrev pub AreRead : (files : List (List ℕ)) → (read : Program) → (places : List (Option ℕ)) → (count : ℕ) → Type 0
AreRead files read places count = (trees : Program) → AreSpelled files trees
    → (read ≡ trees) × (places ≡ map (λ k. Some k) (count_from 0 count))

pub tells_all : (files : List (List ℕ)) (read : Program) (places : List (Option ℕ)) (count : ℕ) (told : List Told) → length files ≡ count
    → AreRead files read places count → TellsFiles read places told count → TellsAll files told
tells_all files read places count told same is tells trees spelled distinct number place wrong =
    let r = is trees spelled in
    let there : number < length trees = within (λ (file : FileTree). is_wrong_at trees file place) trees number wrong in
    let here : number < count = omega (arith, there, spelled_length files trees spelled, same) in
    let zero_number : 0 + number ≡ number = omega arith in
    let at : get_or places number None ≡ Some number =
    ap (λ (l : List (Option ℕ)). get_or l number None) r.1 ∙ counted_at 0 count number here ∙ ap (λ k. Some k) zero_number in
    tells number here at place (ap (λ (p : Program). is_wrong_in p number place) r.0 ∙ wrong)

pub none_is_told : (files : List (List ℕ)) (read : Program) (places : List (Option ℕ)) (count : ℕ) (told : List Told)
    → AreRead files read places count → stands read DuplicateClass ≡ true → TellsAll files told
none_is_told files read places count told is again trees spelled distinct number place wrong =
    let r = is trees spelled in
    absurd (false≢true (sym distinct ∙ ap (λ (p : Program). stands p DuplicateClass) (sym r.0) ∙ again))
