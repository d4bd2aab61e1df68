-- The words of checksums.
use Rattle.std.proofs.Common.{◌≡◌, ◌<◌, ◌+◌, ◌^◌, ℕ, Bool, true, false, List, [], ◌∷◌, ◌++◌, length, map, sym, ap, ◌∙◌, arith, codes, append_assoc, length-append, Option, Some, None, refl, inl, inr}
use Rattle.std.specs.Prelude.{◌==◌, IfSome, if◌then◌else◌}
use Rattle.std.specs.List.{AllByRecursion}
use Rattle.std.proofs.lemmas.Bool.{eqb-true}
use Rattle.std.proofs.lemmas.List.{append-nil, map-append}
use Rattle.schedule.specs.Files.{CheckedFits, Checksums}
use Rattle.schedule.proofs.schedule_text.EntryLaws.{same_cons}
use Rattle.schedule.proofs.schedule_text.HexLaws.{hex_injective}
use Rattle.schedule.specs.schedule_text.Recordings.{BeginWith, EndLengths, EndRecording}
use Rattle.schedule.specs.schedule_text.Text.{checked_words, hex_word, last_words, library_words}

abbrev Small : ℕ → Type 0
Small n = n < 2 ^ 64

-- ---- checksums one after the other

-- These words begin with those of these checksums, and so do all checksums that spell them, of which there are so many.
pub record AreChecksumsAhead (count : ℕ) (words : List (List ℕ)) (done : List ℕ) (at : ℕ) (left : List (List ℕ)) : Type 0 where
  pub place : length done ≡ at
  pub spelled : words ≡ map hex_word done ++ left
  pub ahead : (ns : List ℕ) (rest : List (List ℕ)) → AllByRecursion Small ns → length ns ≡ count → words ≡ map hex_word ns ++ rest
      → (more : List ℕ) × (ns ≡ done ++ more) × (left ≡ map hex_word more ++ rest) × AllByRecursion Small more

step : (count at : ℕ) (done : List ℕ) (left next : List (List ℕ)) (n : ℕ) → length done ≡ at → at < count → Small n → left ≡ hex_word n ∷ next
    → (ns : List ℕ) (rest : List (List ℕ)) → length ns ≡ count → (more : List ℕ) → ns ≡ done ++ more → left ≡ map hex_word more ++ rest
    → AllByRecursion Small more
    → (others : List ℕ) × (ns ≡ (done ++ n ∷ []) ++ others) × (next ≡ map hex_word others ++ rest) × AllByRecursion Small others
step count at done left next n place lt small l ns rest all [] is spelled fit =
    absurd (omega (arith, place, lt, all, ap length is, length-append done []))
step count at done left next n place lt small l ns rest all (m ∷ ms) is spelled fit =
    let p = same_cons (hex_word n) (hex_word m) next (map hex_word ms ++ rest) (sym l ∙ spelled) in
    let same : n ≡ m = hex_injective n m small fit.0 p.0 in
    (ms, is ∙ ap (λ x. done ++ x ∷ ms) (sym same) ∙ sym (append_assoc done (n ∷ []) ms), p.1, fit.1)

pub one_more : (count at : ℕ) (words : List (List ℕ)) (done : List ℕ) (left next : List (List ℕ)) (n : ℕ)
    → AreChecksumsAhead count words done at left → at < count → Small n → left ≡ hex_word n ∷ next
    → (items : List ℕ) → items ≡ done ++ n ∷ [] → AreChecksumsAhead count words items (at + 1) next
one_more count at words done left next n so_far lt small l items items_are =
    rw items_are (record {
      place = omega (arith, so_far.place, length-append done (n ∷ []));
      spelled = so_far.spelled ∙ ap (λ x. map hex_word done ++ x) l ∙ sym (append_assoc (map hex_word done) (hex_word n ∷ []) next)
          ∙ ap (λ x. x ++ next) (sym (map-append hex_word done (n ∷ [])));
      ahead = λ ns rest fit all spelled. let p = so_far.ahead ns rest fit all spelled in step count at done left next n so_far.place lt small l ns rest all p.0 p.1 p.2 p.3;
    })

nothing_there : (count at : ℕ) (done : List ℕ) (left : List (List ℕ)) → length done ≡ at → at < count
    → ((m : ℕ) (rest : List (List ℕ)) → Small m → left ≡ hex_word m ∷ rest → ⊥)
    → (ns : List ℕ) (rest : List (List ℕ)) → length ns ≡ count → (more : List ℕ) → ns ≡ done ++ more → left ≡ map hex_word more ++ rest
    → AllByRecursion Small more → ⊥
nothing_there count at done left place lt none ns rest all [] is spelled fit = omega (arith, place, lt, all, ap length is, length-append done [])
nothing_there count at done left place lt none ns rest all (m ∷ ms) is spelled fit = none m (map hex_word ms ++ rest) fit.0 spelled

pub no_checksum : (count at : ℕ) (words : List (List ℕ)) (done : List ℕ) (left : List (List ℕ)) → AreChecksumsAhead count words done at left
    → at < count → ((m : ℕ) (rest : List (List ℕ)) → Small m → left ≡ hex_word m ∷ rest → ⊥)
    → (ns : List ℕ) (rest : List (List ℕ)) → AllByRecursion Small ns → length ns ≡ count → words ≡ map hex_word ns ++ rest → ⊥
no_checksum count at words done left so_far lt none ns rest fit all spelled =
    let p = so_far.ahead ns rest fit all spelled in
    nothing_there count at done left so_far.place lt none ns rest all p.0 p.1 p.2 p.3

no_more : (done ns : List ℕ) (left rest : List (List ℕ)) (count : ℕ) → length done ≡ count → length ns ≡ count → (more : List ℕ) → ns ≡ done ++ more
    → left ≡ map hex_word more ++ rest → (done ≡ ns) × (left ≡ rest)
no_more done ns left rest count a b [] is spelled = (sym (is ∙ append-nil done), spelled)
no_more done ns left rest count a b (m ∷ ms) is spelled = absurd (omega (arith, a, b, ap length is, length-append done (m ∷ ms)))

pub all_read : (count at : ℕ) (words : List (List ℕ)) (done : List ℕ) (left : List (List ℕ)) → AreChecksumsAhead count words done at left
    → at ≡ count → (ns : List ℕ) (rest : List (List ℕ)) → AllByRecursion Small ns → length ns ≡ count → words ≡ map hex_word ns ++ rest
    → (done ≡ ns) × (left ≡ rest)
all_read count at words done left so_far end ns rest fit all spelled =
    let p = so_far.ahead ns rest fit all spelled in
    no_more done ns left rest count (so_far.place ∙ end) all p.0 p.1 p.2

-- ---- what a library adds

abbrev library_or : Bool → ℕ → List (List ℕ)
library_or none library = if none then [] else codes "#library" ∷ hex_word library ∷ []

pub no_library : library_words 0 ≡ []
no_library = refl

pub some_library : (library : ℕ) → (library ≡ 0 → ⊥) → library_words library ≡ codes "#library" ∷ hex_word library ∷ []
some_library library some = elim (library == 0) as (λ t. (library == 0) ≡ t → library_or t library ≡ codes "#library" ∷ hex_word library ∷ []) [
  | true ↦ λ h. absurd (some (eqb-true library 0 h))
  | false ↦ λ h. refl
] refl

-- whether words tell of one: those behind it end what is recorded
pub record TellsLibrary (words : List (List ℕ)) (library : ℕ) (rest : List (List ℕ)) : Type 0 where
  pub some : library ≡ 0 → ⊥
  pub told : words ≡ codes "#library" ∷ hex_word library ∷ rest

pub is_told : (words : List (List ℕ)) (library : ℕ) (rest : List (List ℕ)) → BeginWith (codes "#library") words → EndRecording rest
    → words ≡ library_words library ++ rest → TellsLibrary words library rest
is_told words library rest begins end is =
    let some : library ≡ 0 → ⊥ =
    λ none. other (same_cons (codes "#events") (codes "#library") end.0 begins.0 (sym end.1 ∙ sym (is ∙ ap (λ n. library_words n ++ rest) none) ∙ begins.1)).0 in
    record { some = some; told = is ∙ ap (λ ws. ws ++ rest) (some_library library some) }
  where
    other : codes "#events" ≡ codes "#library" → ⊥
    other e = absurd cc

pub is_none : (words : List (List ℕ)) (library : ℕ) (rest : List (List ℕ)) → (BeginWith (codes "#library") words → ⊥)
    → words ≡ library_words library ++ rest → (library ≡ 0) × (words ≡ rest)
is_none words library rest other is = elim (library == 0) as (λ t. (library == 0) ≡ t → words ≡ library_or t library ++ rest → (library ≡ 0) × (words ≡ rest)) [
  | true ↦ λ h k. (eqb-true library 0 h, k)
  | false ↦ λ h k. absurd (other (hex_word library ∷ rest, k))
] refl is

-- ---- whether checksums are told

pub not_told : (words : List (List ℕ)) (c : Option Checksums) (rest : List (List ℕ)) → (BeginWith (codes "#checksums") words → ⊥)
    → words ≡ checked_words c ++ rest → (None ≡ c) × (words ≡ rest)
not_told words None rest other is = (refl, is)
not_told words (Some d) rest other is = absurd (other ((map hex_word d.files ++ library_words d.library) ++ rest, is))

pub record AreTold (words : List (List ℕ)) (c : Option Checksums) (rest : List (List ℕ)) : Type 0 where
  pub checksums : Checksums
  pub same : c ≡ Some checksums
  pub told : words ≡ codes "#checksums" ∷ (map hex_word checksums.files ++ (library_words checksums.library ++ rest))

pub are_told : (words : List (List ℕ)) (c : Option Checksums) (rest : List (List ℕ)) → BeginWith (codes "#checksums") words → EndRecording rest
    → words ≡ checked_words c ++ rest → AreTold words c rest
are_told words None rest begins end is =
    absurd (other (same_cons (codes "#events") (codes "#checksums") end.0 begins.0 (sym end.1 ∙ sym is ∙ begins.1)).0)
  where
    other : codes "#events" ≡ codes "#checksums" → ⊥
    other e = absurd cc
are_told words (Some d) rest begins end is = record {
  checksums = d;
  same = refl;
  told = is ∙ ap (λ ws. codes "#checksums" ∷ ws) (append_assoc (map hex_word d.files) (library_words d.library) rest);
}

-- what stands behind a word that is passed
pub passed : {W : Type 0} (bytes : W → List ℕ) (r : Option W) (old new : List (List ℕ)) (word : List ℕ) (rest : List (List ℕ))
    → IfSome r (λ w. old ≡ bytes w ∷ new) → (r ≡ None → (old ≡ []) × (new ≡ [])) → old ≡ word ∷ rest → new ≡ rest
passed bytes (Some w) old new word rest some none is = (same_cons (bytes w) word new rest (sym some ∙ is)).1
passed bytes None old new word rest some none is = absurd (let e : [] ≡ word ∷ rest = sym (none refl).0 ∙ is in cc)

-- ---- the end of what is recorded

pub ends_lengths : (c : Option Checksums) (rest : List (List ℕ)) → EndLengths (last_words c ++ rest)
ends_lengths None rest = inl (rest, refl)
ends_lengths (Some c) rest = inr (((map hex_word c.files ++ library_words c.library) ++ codes "#events" ∷ []) ++ rest, refl)

-- ---- read in one way

hexes_once : (ms ns : List ℕ) (rest more : List (List ℕ)) → length ms ≡ length ns → AllByRecursion Small ms → AllByRecursion Small ns
    → map hex_word ms ++ rest ≡ map hex_word ns ++ more → (ms ≡ ns) × (rest ≡ more)
hexes_once [] [] rest more len a b is = (refl, is)
hexes_once [] (n ∷ ns) rest more len a b is = absurd cc
hexes_once (m ∷ ms) [] rest more len a b is = absurd cc
hexes_once (m ∷ ms) (n ∷ ns) rest more len a b is =
    let h = same_cons (hex_word m) (hex_word n) (map hex_word ms ++ rest) (map hex_word ns ++ more) is in
    let count : length ms ≡ length ns = omega (arith, len) in
    let others = hexes_once ms ns rest more count a.1 b.1 h.1 in
    (ap (λ x. x ∷ ms) (hex_injective m n a.0 b.0 h.0) ∙ ap (λ x. n ∷ x) others.0, others.1)

library_once : (k l : ℕ) (rest more : List (List ℕ)) → Small k → Small l
    → library_words k ++ codes "#events" ∷ rest ≡ library_words l ++ codes "#events" ∷ more → (k ≡ l) × (rest ≡ more)
library_once k l rest more a b is =
    elim (k == 0) as (λ s. (k == 0) ≡ s → library_or s k ++ codes "#events" ∷ rest ≡ library_words l ++ codes "#events" ∷ more → (k ≡ l) × (rest ≡ more)) [
      | true ↦ λ h. elim (l == 0) as (λ t. (l == 0) ≡ t → codes "#events" ∷ rest ≡ library_or t l ++ codes "#events" ∷ more → (k ≡ l) × (rest ≡ more)) [
        | true ↦ λ g e. (eqb-true k 0 h ∙ sym (eqb-true l 0 g), (same_cons (codes "#events") (codes "#events") rest more e).1)
        | false ↦ λ g e. absurd (other (same_cons (codes "#events") (codes "#library") rest (hex_word l ∷ codes "#events" ∷ more) e).0)
      ] refl
      | false ↦ λ h. elim (l == 0) as (λ t. (l == 0) ≡ t → codes "#library" ∷ hex_word k ∷ codes "#events" ∷ rest ≡ library_or t l ++ codes "#events" ∷ more → (k ≡ l) × (rest ≡ more)) [
        | true ↦ λ g e. absurd (other (sym (same_cons (codes "#library") (codes "#events") (hex_word k ∷ codes "#events" ∷ rest) more e).0))
        | false ↦ λ g e.
            let first = same_cons (codes "#library") (codes "#library") (hex_word k ∷ codes "#events" ∷ rest) (hex_word l ∷ codes "#events" ∷ more) e in
            let second = same_cons (hex_word k) (hex_word l) (codes "#events" ∷ rest) (codes "#events" ∷ more) first.1 in
            (hex_injective k l a b second.0, (same_cons (codes "#events") (codes "#events") rest more second.1).1)
      ] refl
    ] refl is
  where
    other : codes "#events" ≡ codes "#library" → ⊥
    other e = absurd cc

same_checksums : (c d : Checksums) → c.files ≡ d.files → c.library ≡ d.library → c ≡ d
same_checksums c d files library =
    ap (λ (x : List ℕ). record { files = x; library = c.library }) files ∙ ap (λ (x : ℕ). record { files = d.files; library = x }) library

-- the words behind lengths, of as many class files, are read in one way
pub last_once : (count : ℕ) (c d : Option Checksums) (rest more : List (List ℕ)) → CheckedFits count c → CheckedFits count d
    → last_words c ++ rest ≡ last_words d ++ more → (c ≡ d) × (rest ≡ more)
last_once count None None rest more a b is = (refl, (same_cons (codes "#events") (codes "#events") rest more is).1)
last_once count None (Some d) rest more a b is = absurd (let e = (same_cons (codes "#events") (codes "#checksums") rest _ is).0 in cc)
last_once count (Some c) None rest more a b is = absurd (let e = (same_cons (codes "#checksums") (codes "#events") _ more is).0 in cc)
last_once count (Some c) (Some d) rest more a b is =
    let first = same_cons (codes "#checksums") (codes "#checksums") _ _ is in
    let files = hexes_once c.files d.files (library_words c.library ++ codes "#events" ∷ rest) (library_words d.library ++ codes "#events" ∷ more)
    (a.count_is ∙ sym b.count_is) a.files b.files (sym (regroup c rest) ∙ first.1 ∙ regroup d more) in
    let library = library_once c.library d.library rest more a.library b.library files.1 in
    (ap Some (same_checksums c d files.0 library.0), library.1)
  where
    regroup : (c : Checksums) (rest : List (List ℕ))
        → ((map hex_word c.files ++ library_words c.library) ++ codes "#events" ∷ []) ++ rest ≡ map hex_word c.files ++ (library_words c.library ++ codes "#events" ∷ rest)
    regroup c rest =
        append_assoc (map hex_word c.files ++ library_words c.library) (codes "#events" ∷ []) rest
        ∙ append_assoc (map hex_word c.files) (library_words c.library) (codes "#events" ∷ rest)
