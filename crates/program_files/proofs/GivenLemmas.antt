-- Files that are given one after another.
use Rattle.std.proofs.Common.{arith, ◌⊎◌, inl, inr, ◌∙◌, ◌≡◌, ◌<◌, ℕ, zero, suc, ◌-◌, ◌+◌, Bool, true, false, List, [], ◌∷◌, ◌++◌, ap, append_assoc, length, map, refl, subst, subst₂, sym, take}
use Rattle.std.specs.Prelude.{◌||◌, Contains, None, Some, filter, slice_index_or, string_bytes}
use Rattle.std.specs.declared.string.String.{String}
use Rattle.std.specs.Global.{Global}
use Rattle.std.specs.List.{list_any}
use Rattle.std.proofs.lemmas.List.{append-nil, get_or-map, length-map, map-append, take_more}
use Rattle.program_files.specs.Folders.{Found, IsListed, Listed, Path}
use Rattle.program_files.specs.Given.{AreAt, AreBelow, AreFronts, AreGivenBehind, IsGiven, IsTooDeep, IsTooDeepAt, IsTooDeepIn, IsUnable, in_folder, is_class_path}
use Rattle.program_files.specs.declared.files_fault.FilesFault.{FilesFault}
use Rattle.program_files.specs.declared.files_fault.FilesFault.TheVariants.{TooDeep}

-- one more gives a front
pub fronts_on : {A : Type 0} (Gives : A → List Path → Type 0) (ones : List A) (one : A) (files front : List Path) → AreFronts Gives ones files
    → Gives one front → AreFronts Gives (ones ++ one ∷ []) (files ++ front)
fronts_on Gives [] one files front so_far gives = (front, [], gives, refl, ap (λ these. these ++ front) so_far ∙ sym (append-nil front))
fronts_on Gives (first ∷ ones) one files front so_far gives = (
  so_far.0,
  so_far.1 ++ front,
  so_far.2,
  fronts_on Gives ones one so_far.1 front so_far.3 gives,
  ap (λ these. these ++ front) so_far.4 ∙ append_assoc so_far.0 so_far.1 front,
)

-- one more word is given
pub given_on : (listed : Listed) (before words given : List Path) (word : Path) (found : Found) (front : List Path) → AreGivenBehind listed before words given
    → IsListed (listed word) found → IsGiven listed given word found front → AreGivenBehind listed before (words ++ word ∷ []) (given ++ front)
given_on listed before [] given word found front so_far lists gives = (
  found,
  front,
  lists,
  subst (λ these. IsGiven listed these word found front) so_far gives,
  ap (λ these. these ++ front) so_far,
)
given_on listed before (first ∷ words) given word found front so_far lists gives = (
  so_far.0,
  so_far.1,
  so_far.2,
  so_far.3,
  given_on listed (before ++ so_far.1) words given word found front so_far.4 lists gives,
)

-- ---- one more of several

-- what is made of one more
pub map_more : {A B : Type 0} (f : A → B) (xs : List A) (i : ℕ) (x : A) → i < length xs → x ≡ slice_index_or xs i x
    → map f (take (i + 1) xs) ≡ map f (take i xs) ++ f x ∷ []
map_more f xs i x within is =
    ap (map f) (take_more xs i x within) ∙ map-append f (take i xs) _ ∙ ap (λ y. map f (take i xs) ++ f y ∷ []) (sym is)

-- ---- tests

or_true : (b : Bool) → (b || true) ≡ true
or_true true = refl
or_true false = refl

-- a test that one element passes is passed by some
pub any_at : {A B : Type 0} (f : A → B) (test : B → Bool) (xs : List A) (i : ℕ) (x : A) → i < length xs → x ≡ slice_index_or xs i x
    → test (f x) ≡ true → list_any test (map f xs) ≡ true
any_at f test [] i x within is passes = absurd (omega (arith, within))
any_at f test (y ∷ xs) zero x within is passes = ap (λ b. b || list_any test (map f xs)) (subst (λ z. test (f z) ≡ true) is passes)
any_at f test (y ∷ xs) (suc i) x within is passes =
    ap (λ b. test (f y) || b) (any_at f test xs i x (omega (arith, within)) is passes) ∙ or_true (test (f y))

-- ---- folders in a folder

-- where no folder is, the file alone
pub below_none : (listed : Listed) (depth : ℕ) (path : Path) (found : Found) (files : List Path) → found ≡ None
    → files ≡ filter is_class_path (path ∷ []) → AreBelow listed depth path found files
unfolding AreBelow
below_none listed depth path (Some names) files none are = absurd (cc)
below_none listed zero path None files none are = are
below_none listed (suc depth) path None files none are = are

-- one folder more lies above these
below_more : (listed : Listed) (depth : ℕ) (path : Path) (names : List (String Global)) (files : List Path) → 0 < depth
    → AreFronts (AreAt listed (depth - 1) path) names files → AreBelow listed depth path (Some names) files
unfolding AreBelow
below_more listed zero path names files more fronts = absurd (omega (arith, more))
below_more listed (suc depth) path names files more fronts =
    let one : suc depth - 1 ≡ depth = omega arith in
    subst (λ (n : ℕ). AreFronts (AreAt listed n path) names files) one fronts

pub below_found : (listed : Listed) (depth : ℕ) (path : Path) (found : Found) (told names : List (String Global)) (files : List Path) → found ≡ Some names
    → told ≡ names → 0 < depth → AreFronts (AreAt listed (depth - 1) path) told files → AreBelow listed depth path found files
below_found listed depth path found told names files is same more fronts =
    subst (λ found. AreBelow listed depth path found files) (sym is)
    (below_more listed depth path names files more (subst (λ names. AreFronts (AreAt listed (depth - 1) path) names files) same fronts))

deep_more : (listed : Listed) (depth : ℕ) (path : Path) (names : List (String Global)) (deep : Path) → 0 < depth
    → IsTooDeepIn listed (depth - 1) path names deep → IsTooDeep listed depth path (Some names) deep
unfolding IsTooDeep
deep_more listed zero path names deep more is = absurd (omega (arith, more))
deep_more listed (suc depth) path names deep more is =
    let one : suc depth - 1 ≡ depth = omega arith in
    subst (λ (n : ℕ). IsTooDeepIn listed n path names deep) one is

-- no folder may lie in this one
deep_here : (listed : Listed) (depth : ℕ) (path : Path) (names : List (String Global)) → depth ≡ 0 → IsTooDeep listed depth path (Some names) path
unfolding IsTooDeep
deep_here listed zero path names none = refl
deep_here listed (suc depth) path names none = absurd (omega (arith, none))

pub deep_none : (listed : Listed) (depth : ℕ) (path deep : Path) (found : Found) (names : List (String Global)) → found ≡ Some names
    → deep ≡ path → depth ≡ 0 → IsTooDeep listed depth path found deep
deep_none listed depth path deep found names is same none =
    subst₂ (IsTooDeep listed depth path) (sym is) (sym same) (deep_here listed depth path names none)

-- what lies too deep below a path lies so at a name in a folder
pub deep_at : (listed : Listed) (depth : ℕ) (folder path : Path) (name : String Global) (found : Found) (fault : FilesFault)
    → path ≡ in_folder folder (string_bytes name) → IsListed (listed path) found
    → IsUnable fault ⊎ ((deep : String Global) × (fault ≡ TooDeep deep) × IsTooDeep listed depth path found (string_bytes deep))
    → IsUnable fault ⊎ ((deep : String Global) × (fault ≡ TooDeep deep) × IsTooDeepAt listed depth folder name (string_bytes deep))
deep_at listed depth folder path name found fault leads lists (inl unable) = inl unable
deep_at listed depth folder path name found fault leads lists (inr is) = inr (
  is.0,
  is.1,
  (
    found,
    subst (λ path. IsListed (listed path) found) leads lists,
    subst (λ path. IsTooDeep listed depth path found (string_bytes is.0)) leads is.2,
  ),
)

-- and so at one of several
pub deep_in : (listed : Listed) (depth : ℕ) (folder : Path) (names : List (String Global)) (name : String Global) (fault : FilesFault)
    → Contains names name
    → IsUnable fault ⊎ ((deep : String Global) × (fault ≡ TooDeep deep) × IsTooDeepAt listed depth folder name (string_bytes deep))
    → IsUnable fault ⊎ ((deep : String Global) × (fault ≡ TooDeep deep) × IsTooDeepIn listed depth folder names (string_bytes deep))
deep_in listed depth folder names name fault one (inl unable) = inl unable
deep_in listed depth folder names name fault one (inr is) = inr (is.0, is.1, (name, one, is.2))

-- and below the folder itself
pub deep_below : (listed : Listed) (depth : ℕ) (folder : Path) (found : Found) (told names : List (String Global)) (fault : FilesFault)
    → found ≡ Some names → told ≡ names → 0 < depth
    → IsUnable fault ⊎ ((deep : String Global) × (fault ≡ TooDeep deep) × IsTooDeepIn listed (depth - 1) folder told (string_bytes deep))
    → IsUnable fault ⊎ ((deep : String Global) × (fault ≡ TooDeep deep) × IsTooDeep listed depth folder found (string_bytes deep))
deep_below listed depth folder found told names fault found_is same more (inl unable) = inl unable
deep_below listed depth folder found told names fault found_is same more (inr is) = inr (
  is.0,
  is.1,
  subst (λ found. IsTooDeep listed depth folder found (string_bytes is.0)) (sym found_is)
      (deep_more listed depth folder names (string_bytes is.0) more
      (subst (λ names. IsTooDeepIn listed (depth - 1) folder names (string_bytes is.0)) same is.2)),
)

-- ---- the word of a fault

-- an element is one of those that are made of others
pub one_of : {A B : Type 0} (f : A → B) (xs : List A) (i : ℕ) (x : A) → i < length xs → x ≡ slice_index_or xs i x → Contains (map f xs) (f x)
one_of f xs i x within is = (i, rw (length-map xs f) within, get_or-map f xs i x (f x) within ∙ ap f (sym is))
