-- The file that a page of a trace is written to, by its words.
use Rattle.std.proofs.Common.{◌≡◌, List, codes, Option, Some, unwrap_or, ap, sym, subst, ◌∙◌}
use Rattle.std.specs.Prelude.{All}
use Rattle.clap.specs.Words.{Row, Text, all_of, first_of}
use Rattle.command_line.specs.CommandLine.{IsPageFile}
use Rattle.command_line.specs.Paths.{IsApart}

module _ (rows : List Row) where
  abbrev page : Option Text
  page = first_of (codes "html") rows

  same_of : {A : Type 0} (found : Option A) (one other : A) → found ≡ Some one → found ≡ Some other → one ≡ other
  same_of found one other is also = ap (λ o. unwrap_or o one) (sym is ∙ also)

  -- of the same words
  pub same_page : (one other : Text) (files others : List Text) → first_of (codes "schedule") rows ≡ Some one → first_of (codes "schedule") rows ≡ Some other
      → all_of (codes "files") rows ≡ Some files → all_of (codes "files") rows ≡ Some others
      → (html : Option Text) → IsPageFile rows one files html → IsPageFile rows other others html
  same_page one other files others is also are too html of = record {
    path = of.path;
    other_schedule = subst (IsApart page) (same_of (first_of (codes "schedule") rows) one other is also) of.other_schedule;
    other_files = subst (All (IsApart page)) (same_of (all_of (codes "files") rows) files others are too) of.other_files;
  }
