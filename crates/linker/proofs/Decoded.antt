-- Files that are decoded one after the other.
use Rattle.std.proofs.Common.{◌≡◌, ◌⊎◌, ℕ, zero, suc, ◌+◌, ◌<◌, List, [], ◌∷◌, ◌++◌, length, map, take, get_or, refl, sym, ap, subst, inl, inr, ◌∙◌, Option, Some, Vec, Global, vec_items}
use Rattle.std.specs.Prelude.{slice_get}
use Rattle.std.proofs.lemmas.List.{map_more, map-append, take-map}
use Rattle.std.proofs.lemmas.Option.{slice_get-get_or}
use Rattle.class_tree.specs.declared.tree.ClassFile.{ClassFile}
use Rattle.classfile.specs.View.{file_of}
use Rattle.classfile.specs.Decoding.{IsFaultOf}
use Rattle.constant_pool.specs.declared.reading.fault.Cause.{Cause}
use Rattle.constant_pool.specs.declared.reading.fault.Cause.TheVariants as causes
use Rattle.constant_pool.specs.declared.reading.fault.Malformed.{Malformed}
use Rattle.hierarchy.specs.Set.{trees_of}
use Rattle.model.specs.Tree.{FileTree}
use Rattle.model.specs.Spells.{Spells}
use Rattle.model.specs.Classes.{Program}
use Rattle.model.specs.Linkable.{AreSpelled}
use Rattle.linker.specs.Linking.{SpellsNothing, IsMalformed, IsUnreadable}
use Rattle.link_conditions.specs.declared.refusal.why.RefusalKind.{RefusalKind}
use Rattle.link_conditions.specs.declared.refusal.why.RefusalKind.TheVariants as kinds
use Rattle.hierarchy.proofs.RowLaws.{get_map}

pub spelled_push : (files : List (List ℕ)) (trees : Program) (bytes : List ℕ) (tree : FileTree) → AreSpelled files trees
    → Spells bytes tree → AreSpelled (files ++ bytes ∷ []) (trees ++ tree ∷ [])
spelled_push [] [] bytes tree h s = (s, tt)
spelled_push [] (t ∷ trees) bytes tree h s = absurd h
spelled_push (f ∷ files) [] bytes tree h s = absurd h
spelled_push (f ∷ files) (t ∷ trees) bytes tree h s = (h.0, spelled_push files trees bytes tree h.1 s)

-- trees of one file more are trees of those before, and one of the last
abbrev Split : List (List ℕ) → List ℕ → Program → Type 0
Split files bytes trees = (before : Program) × (last : FileTree) × (trees ≡ before ++ last ∷ []) × AreSpelled files before × Spells bytes last

spelled_split : (files : List (List ℕ)) (bytes : List ℕ) (trees : Program) → AreSpelled (files ++ bytes ∷ []) trees
    → Split files bytes trees
spelled_split [] bytes [] h = absurd h
spelled_split [] bytes (t ∷ []) h = ([], t, refl, tt, h.0)
spelled_split [] bytes (t ∷ u ∷ trees) h = absurd h.1
spelled_split (f ∷ files) bytes [] h = absurd h
spelled_split (f ∷ files) bytes (t ∷ trees) h =
    let rest = spelled_split files bytes trees h.1 in
    (t ∷ rest.0, rest.1, ap (λ l. t ∷ l) rest.2, (h.0, rest.3), rest.4)

pub only_push : (files : List (List ℕ)) (bytes : List ℕ) (trees : Program) (tree : FileTree)
    → ((others : Program) → AreSpelled files others → trees ≡ others) → ((other : FileTree) → Spells bytes other → tree ≡ other)
    → (others : Program) → AreSpelled (files ++ bytes ∷ []) others → trees ++ tree ∷ [] ≡ others
only_push files bytes trees tree only one others h =
    let s = spelled_split files bytes others h in
    ap (λ (l : Program). l ++ tree ∷ []) (only s.0 s.3) ∙ ap (λ t. s.0 ++ t ∷ []) (one s.1 s.4) ∙ sym s.2

-- a file that spells nothing is in no list that is spelled
pub nothing_spelled : (files : List (List ℕ)) (place : ℕ) (bytes : List ℕ) (trees : Program) → slice_get files place ≡ Some bytes
    → SpellsNothing bytes → AreSpelled files trees → ⊥
nothing_spelled [] place bytes trees e none h = absurd cc
nothing_spelled (f ∷ files) place bytes [] e none h = h
nothing_spelled (f ∷ files) zero bytes (t ∷ trees) e none h = let same : f ≡ bytes = cc in none t (subst (λ b. Spells b t) same h.0)
nothing_spelled (f ∷ files) (suc place) bytes (t ∷ trees) e none h = nothing_spelled files place bytes trees e none h.1

pub unread_memory : (files : List (List ℕ)) (trees : Program) (kind : RefusalKind) (file offset : Option ℕ) (cause : Option Cause)
    → AreSpelled files trees → IsUnreadable files kind file offset cause → kind ≡ kinds.OutOfMemory
unread_memory files trees kind file offset cause h (inl memory) = memory
unread_memory files trees kind file offset cause h (inr unread) = absurd (nothing_spelled files unread.1.place unread.1.bytes trees unread.1.stands unread.1.malformed.none h)

-- ---- bytes that aren't decoded

-- a fault that isn't a want of memory stands in the bytes
pub malformed_so : (bytes : List ℕ) (fault : Malformed) → (fault.cause ≡ causes.OutOfMemory → ⊥) → IsFaultOf bytes fault
    → ((c : FileTree) → Spells bytes c → fault.cause ≡ causes.OutOfMemory) → IsMalformed bytes (Some fault.offset) (Some fault.cause)
malformed_so bytes fault other told only = record {
  fault = fault;
  at = refl;
  named = refl;
  none = λ tree spelled. other (only tree spelled);
  stands = elim told [ inl memory ↦ absurd (other (ap (λ (f : Malformed). f.cause) memory)) | inr stands ↦ stands ];
}

-- ---- files in memory

pub bytes_more : (files : List (Vec ℕ Global)) (i : ℕ) (file : Vec ℕ Global) (bytes : List ℕ) → i < length files
    → file ≡ get_or files i file → bytes ≡ file.items → map vec_items (take (i + 1) files) ≡ map vec_items (take i files) ++ bytes ∷ []
bytes_more files i file bytes lt at e =
    map_more vec_items files i file lt ∙ ap (λ (v : Vec ℕ Global). map vec_items (take i files) ++ v.items ∷ []) (sym at) ∙ ap (λ (b : List ℕ). map vec_items (take i files) ++ b ∷ []) (sym e)

pub bytes_at : (files : List (Vec ℕ Global)) (i : ℕ) (file : Vec ℕ Global) (bytes : List ℕ) → i < length files → file ≡ get_or files i file
    → bytes ≡ file.items → slice_get (map vec_items files) i ≡ Some bytes
bytes_at files i file bytes lt at e = get_map vec_items files i file (slice_get-get_or files i file lt ∙ ap (λ v. Some v) (sym at)) ∙ ap (λ b. Some b) (sym e)

pub trees_more : (classes all : List ClassFile) (class : ClassFile) → all ≡ classes ++ class ∷ []
    → trees_of all ≡ trees_of classes ++ file_of class ∷ []
trees_more classes all class e = ap trees_of e ∙ map-append file_of classes (class ∷ [])

pub unread_at : (files : List (Vec ℕ Global)) (i : ℕ) (file : Vec ℕ Global) (bytes : List ℕ) (trees : Program) (kind : RefusalKind)
    (named offset : Option ℕ) (cause : Option Cause) → i < length files → file ≡ get_or files i file → bytes ≡ file.items
    → AreSpelled (map vec_items (take i files)) trees
    → (kind ≡ kinds.OutOfMemory) ⊎ ((kind ≡ kinds.Malformed) × (named ≡ Some i) × IsMalformed bytes offset cause)
    → IsUnreadable (map vec_items files) kind named offset cause
unread_at files i file bytes trees kind named offset cause lt at e found (inl memory) = inl memory
unread_at files i file bytes trees kind named offset cause lt at e found (inr r) =
    inr (
      r.0,
      record {
        place = i;
        bytes = bytes;
        named = r.1;
        stands = bytes_at files i file bytes lt at e;
        malformed = r.2;
        trees = trees;
        before = subst (λ (l : List (List ℕ)). AreSpelled l trees) (sym (take-map vec_items i files)) found;
      },
    )
