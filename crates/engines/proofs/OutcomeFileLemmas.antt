-- The files of the outcomes of a sweep, one after another.
use Rattle.std.proofs.Common.{◌≡◌, ◌<◌, ◌≤◌, ◌+◌, ◌++◌, ◌∙◌, ℕ, suc, List, [], ◌∷◌, Option, Some, None, ap, arith, cond, false, get_or, length, map, subst, sym, take, true}
use Rattle.std.specs.List.{take-map}
use Rattle.std.proofs.lemmas.List.{append-nil, length-map, length-take-le, map-append, take_all, take_more}
use Rattle.std.proofs.lemmas.List.Elements.{filter-append}
use Rattle.program_files.specs.Folders.{Held}
use Rattle.program_files.specs.Folders as folders
use Rattle.schedule.specs.Files.{Recording}
use Rattle.schedule.specs.Joined.{RecordedFile}
use Rattle.sweeps.specs.Tallies.{Same, same_in}
use Rattle.sweeps.specs.Texts.{is_outcome}
use Rattle.sweeps.specs.declared.same_runs.SameRuns.{SameRuns}
use Rattle.engines.specs.Files.{AreWith, Path}
use Rattle.engines.specs.OutcomeFiles.{AreFilesOf, files_in, outcome_path, outcomes_of}

-- ---- what they hold

module _ (told : Option Recording) where
  one_more : (same : List Same) (files : List (List ℕ)) (s : Same) (bytes : List ℕ) → AreFilesOf told same files → RecordedFile bytes told s.events
      → AreFilesOf told (same ++ s ∷ []) (files ++ bytes ∷ [])
  one_more [] [] s bytes are is = (is, tt)
  one_more [] (b ∷ files) s bytes are is = absurd are
  one_more (x ∷ same) [] s bytes are is = absurd are
  one_more (x ∷ same) (b ∷ files) s bytes are is = (are.0, one_more same files s bytes are.1 is)

  -- one more outcome has a file
  pub outcome_more : (others : List Same) (files : List (List ℕ)) (s : Same) (bytes : List ℕ) → is_outcome s.shown ≡ true → AreFilesOf told (outcomes_of others) files
      → RecordedFile bytes told s.events → AreFilesOf told (outcomes_of (others ++ s ∷ [])) (files ++ bytes ∷ [])
  outcome_more others files s bytes outcome are is =
      let kept = ap (λ b. outcomes_of others ++ cond b (s ∷ []) []) outcome in
      subst (λ same. AreFilesOf told same (files ++ bytes ∷ [])) (sym (filter-append (λ (x : Same). is_outcome x.shown) others (s ∷ []) ∙ kept))
      (one_more (outcomes_of others) files s bytes are is)

  -- what is no outcome has none
  pub none_more : (others : List Same) (files : List (List ℕ)) (s : Same) → is_outcome s.shown ≡ false → AreFilesOf told (outcomes_of others) files
      → AreFilesOf told (outcomes_of (others ++ s ∷ [])) files
  none_more others files s none are =
      let left = ap (λ b. outcomes_of others ++ cond b (s ∷ []) []) none in
      subst (λ same. AreFilesOf told same files) (sym (filter-append (λ (x : Same). is_outcome x.shown) others (s ∷ []) ∙ left ∙ append-nil (outcomes_of others))) are

-- those up to one, and that one
pub taken_more : (listed : List SameRuns) (i : ℕ) (s : SameRuns) → i < length listed → s ≡ get_or listed i s
    → map same_in (take (i + 1) listed) ≡ map same_in (take i listed) ++ same_in s ∷ []
taken_more listed i s lt is =
    ap (map same_in) (take_more listed i s lt) ∙ map-append same_in (take i listed) (get_or listed i s ∷ [])
    ∙ ap (λ x. map same_in (take i listed) ++ same_in x ∷ []) (sym is)

-- ---- where they are written

-- nothing is written behind them
same_behind : (old between new : Held) (files : List (Path × List ℕ)) → AreWith old between files → folders.IsWith between new None → AreWith old new files
same_behind old between new [] are same = λ path. same path ∙ are path
same_behind old between new ((path, bytes) ∷ []) are same =
    (subst (λ known. folders.Reads known bytes) (sym (same path)) are.0, λ other apart. same other ∙ are.1 other apart)
same_behind old between new (first ∷ next ∷ files) are same = (are.0, are.1, same_behind are.0 between new (next ∷ files) are.2 same)

-- one more is
written_more : (old between new : Held) (files : List (Path × List ℕ)) (path : Path) (bytes : List ℕ) → AreWith old between files → folders.IsWith between new (Some (path, bytes))
    → AreWith old new (files ++ (path, bytes) ∷ [])
written_more old between new [] path bytes are with = (with.0, λ other apart. with.1 other apart ∙ are other)
written_more old between new (first ∷ []) path bytes are with = (between, are, with)
written_more old between new (first ∷ next ∷ files) path bytes are with = (are.0, are.1, written_more are.0 between new (next ∷ files) path bytes are.2 with)

in_more : (folder : Path) (i : ℕ) (files : List (List ℕ)) (bytes : List ℕ)
    → files_in folder i (files ++ bytes ∷ []) ≡ files_in folder i files ++ (outcome_path folder (i + length files), bytes) ∷ []
in_more folder i [] bytes = ap (λ n. (outcome_path folder n, bytes) ∷ []) (omega arith)
in_more folder i (first ∷ files) bytes =
    let next : suc i + length files ≡ i + suc (length files) = omega arith in
    ap (λ l. (outcome_path folder i, first) ∷ l) (in_more folder (suc i) files bytes ∙ ap (λ n. files_in folder (suc i) files ++ (outcome_path folder n, bytes) ∷ []) next)

module _ {V : Type 0} (items : V → List ℕ) (folder : Path) (schedules : List V) (old between new : Held) (i : ℕ) (are : AreWith old between (files_in folder 1 (map items (take i schedules)))) where
  -- those up to one are written, and that one
  pub stored_more : (number : ℕ) (v : V) → i < length schedules → v ≡ get_or schedules i v → number ≡ i + 1
      → folders.IsWith between new (Some (outcome_path folder number, items v)) → AreWith old new (files_in folder 1 (map items (take (i + 1) schedules)))
  stored_more number v lt is counted with =
      let front = map items (take i schedules) in
      let le : i ≤ length schedules = omega (arith, lt) in
      let count : 1 + length front ≡ number = omega (arith, counted, length-map (take i schedules) items, length-take-le i schedules le) in
      let taken : map items (take (i + 1) schedules) ≡ front ++ items v ∷ [] =
      ap (map items) (take_more schedules i v lt) ∙ map-append items (take i schedules) (get_or schedules i v ∷ []) ∙ ap (λ x. front ++ items x ∷ []) (sym is) in
      let whole : files_in folder 1 (map items (take (i + 1) schedules)) ≡ files_in folder 1 front ++ (outcome_path folder number, items v) ∷ [] =
      ap (files_in folder 1) taken ∙ in_more folder 1 front (items v) ∙ ap (λ n. files_in folder 1 front ++ (outcome_path folder n, items v) ∷ []) count in
      subst (AreWith old new) (sym whole) (written_more old between new (files_in folder 1 front) (outcome_path folder number) (items v) are with)

  -- or no more
  pub stored_front : folders.IsWith between new None → AreWith old new (files_in folder 1 (take i (map items schedules)))
  stored_front same =
      subst (λ files. AreWith old new (files_in folder 1 files)) (sym (take-map items i schedules))
      (same_behind old between new (files_in folder 1 (map items (take i schedules))) are same)

  -- which are all
  pub stored_all : length schedules ≤ i → between ≡ new → AreWith old new (files_in folder 1 (map items schedules))
  stored_all le same =
      subst (λ holds. AreWith old holds (files_in folder 1 (map items schedules))) same
      (subst (λ files. AreWith old between (files_in folder 1 (map items files))) (take_all i schedules le) are)
