-- Files that are decoded one after the other.
use Rattle.std.proofs.Common.{◌≡◌, ◌⊎◌, ℕ, zero, suc, ◌+◌, ◌<◌, List, [], ◌∷◌, ◌++◌, length, map, take, get_or, sym, ap, subst, inl, inr, ◌∙◌, Some, Vec, Global, vec_items}
use Rattle.std.specs.Prelude.{slice_get}
use Rattle.std.proofs.lemmas.List.{map_more, map-append, take-map}
use Rattle.std.proofs.lemmas.Option.{slice_get-get_or}
use Rattle.class_tree.specs.declared.tree.ClassFile.{ClassFile}
use Rattle.classfile.specs.View.{file_of}
use Rattle.classfile.specs.Decoding.{StandsAt, IsFaultOf}
use Rattle.constant_pool.specs.declared.reading.fault.Cause.TheVariants as causes
use Rattle.constant_pool.specs.declared.reading.fault.Malformed.{Malformed}
use Rattle.link_conditions.specs.declared.refusal.why.Refusal.{Refusal}
use Rattle.model.specs.Tree.{FileTree}
use Rattle.model.specs.Spells.{Spells}
use Rattle.model.specs.Classes.{Program}
use Rattle.model.specs.Linkable.{AreSpelled}
use Rattle.listings.specs.class_listings.Listings.{IsFirstMalformed, IsMalformed, malformed, no_memory}

spelled_push : (files : List (List ℕ)) (trees : Program) (bytes : List ℕ) (tree : FileTree) → AreSpelled files trees → Spells bytes tree
    → AreSpelled (files ++ bytes ∷ []) (trees ++ tree ∷ [])
spelled_push [] [] bytes tree h s = (s, tt)
spelled_push [] (t ∷ trees) bytes tree h s = absurd h
spelled_push (f ∷ files) [] bytes tree h s = absurd h
spelled_push (f ∷ files) (t ∷ trees) bytes tree h s = (h.0, spelled_push files trees bytes tree h.1 s)

-- one file more is decoded
pub spelled_next : (files : List (Vec ℕ Global)) (i : ℕ) (file : Vec ℕ Global) (bytes : List ℕ) (trees all : List ClassFile)
    (tree : ClassFile) → i < length files → file ≡ get_or files i file → bytes ≡ file.items
    → AreSpelled (map vec_items (take i files)) (map file_of trees) → Spells bytes (file_of tree) → all ≡ trees ++ tree ∷ []
    → AreSpelled (map vec_items (take (i + 1) files)) (map file_of all)
spelled_next files i file bytes trees all tree lt at e so_far spelled pushed =
    let more : map vec_items (take (i + 1) files) ≡ map vec_items (take i files) ++ bytes ∷ [] =
    map_more vec_items files i file lt ∙ ap (λ (v : Vec ℕ Global). map vec_items (take i files) ++ v.items ∷ []) (sym at) ∙ ap (λ (b : List ℕ). map vec_items (take i files) ++ b ∷ []) (sym e) in
    let trees_more : map file_of all ≡ map file_of trees ++ file_of tree ∷ [] = ap (map file_of) pushed ∙ map-append file_of trees (tree ∷ []) in
    rw (more, trees_more) (spelled_push (map vec_items (take i files)) (map file_of trees) bytes (file_of tree) so_far spelled)

get_map : {A B : Type 0} (f : A → B) (xs : List A) (i : ℕ) (x : A) → slice_get xs i ≡ Some x → slice_get (map f xs) i ≡ Some (f x)
get_map f [] i x e = absurd cc
get_map f (y ∷ xs) zero x e = let same : y ≡ x = cc in ap (λ z. Some (f z)) same
get_map f (y ∷ xs) (suc i) x e = get_map f xs i x e

-- the first that isn't decoded is refused so
abbrev Refuses : List (Vec ℕ Global) → Refusal → Type 0
Refuses files refusal = ((number : ℕ) × (number < length files) × (refusal ≡ no_memory number)) ⊎ IsFirstMalformed (map vec_items files) refusal

pub refused_at : (files : List (Vec ℕ Global)) (i : ℕ) (file : Vec ℕ Global) (bytes : List ℕ) (trees : Program) (refusal : Refusal)
    → i < length files → file ≡ get_or files i file → bytes ≡ file.items
    → AreSpelled (map vec_items (take i files)) trees → (refusal ≡ no_memory i) ⊎ IsMalformed bytes i refusal → Refuses files refusal
refused_at files i file bytes trees refusal lt at e so_far (inl memory) = inl (i, lt, memory)
refused_at files i file bytes trees refusal lt at e so_far (inr none) =
    inr (record {
      number = i;
      bytes = bytes;
      there = get_map vec_items files i file (slice_get-get_or files i file lt ∙ ap (λ v. Some v) (sym at)) ∙ ap (λ b. Some b) (sym e);
      malformed = none;
      trees = trees;
      before = subst (λ (l : List (List ℕ)). AreSpelled l trees) (sym (take-map vec_items i files)) so_far;
    })

-- bytes that aren't decoded are refused so
pub refused_so : (bytes : List ℕ) (number : ℕ) (fault : Malformed) (refusal : Refusal)
    → (fault.cause ≡ causes.OutOfMemory → refusal ≡ no_memory number)
    → ((fault.cause ≡ causes.OutOfMemory → ⊥) → refusal ≡ malformed number fault.cause fault.offset)
    → ((tree : FileTree) → Spells bytes tree → fault.cause ≡ causes.OutOfMemory) → IsFaultOf bytes fault
    → (refusal ≡ no_memory number) ⊎ IsMalformed bytes number refusal
refused_so bytes number fault refusal memory named only (inl is) = inl (memory (ap (λ (f : Malformed). f.cause) is))
refused_so bytes number fault refusal memory named only (inr stands) =
    let other : fault.cause ≡ causes.OutOfMemory → ⊥ = λ is. subst (λ cause. StandsAt bytes cause fault.offset) is stands in
    inr (record {
      cause = fault.cause;
      offset = fault.offset;
      told = named other;
      none = λ tree spelled. other (only tree spelled);
      stands = stands;
    })
