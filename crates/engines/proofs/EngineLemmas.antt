-- Sources that are read one after another.
use Rattle.std.proofs.Common.{arith, ◌≡◌, ℕ, ◌+◌, ◌<◌, List, [], ◌∷◌, ◌++◌, length, take, drop, map, sum_by, get_or, set, Option, sym, ◌∙◌}
use Rattle.std.proofs.lemmas.List.{drop_more, take_more, map-append}
use Rattle.std.proofs.lemmas.List.Sums.{sum_by-set}
use Rattle.model.specs.declared.device.DeviceFault.{DeviceFault}
use Rattle.model.specs.declared.device.DeviceFault.TheVariants as devices
use Rattle.model.specs.Devices.{CountsFault}
use Rattle.engines.specs.Devices.{fault_of}
use Rattle.engines.specs.Engines.{Reads, ReadsEach, CountsWith}
use Rattle.engines.specs.declared.fault.Fault.{Fault}
use Rattle.engines.specs.declared.fault.Fault.TheVariants as faults

-- where the sources from the ith on are the same, the ith is, and those behind it are
pub next_same : {S : Type 0} (xs zs : List S) (i : ℕ) (d : S) → i < length xs → i < length zs → drop i xs ≡ drop i zs
    → (get_or xs i d ≡ get_or zs i d) × (drop (i + 1) xs ≡ drop (i + 1) zs)
next_same xs zs i d in_xs in_zs same =
    let both : get_or xs i d ∷ drop (i + 1) xs ≡ get_or zs i d ∷ drop (i + 1) zs = sym (drop_more xs i d in_xs) ∙ same ∙ drop_more zs i d in_zs in
    (cc, cc)

-- one more source is read
pub reads_on : (lefts : List (Option (List ℕ))) (files : List (List ℕ)) (left : Option (List ℕ)) (bytes : List ℕ) → ReadsEach lefts files
    → Reads left bytes → ReadsEach (lefts ++ left ∷ []) (files ++ bytes ∷ [])
reads_on [] [] left bytes each next = (next, tt)
reads_on (l ∷ lefts) (f ∷ files) left bytes each next = (each.0, reads_on lefts files left bytes each.1 next)
reads_on [] (f ∷ files) left bytes each next = absurd each
reads_on (l ∷ lefts) [] left bytes each next = absurd each

pub reads_next : {S F : Type 0} (remaining : S → Option (List ℕ)) (items : F → List ℕ) (sources : List S) (i : ℕ) (d : S) (files : List F)
    (file : F) → i < length sources → ReadsEach (map remaining (take i sources)) (map items files)
    → Reads (remaining (get_or sources i d)) (items file)
    → ReadsEach (map remaining (take (i + 1) sources)) (map items (files ++ file ∷ []))
reads_next remaining items sources i d files file within each next =
    rw (take_more sources i d within, map-append remaining (take i sources) (get_or sources i d ∷ []), map-append items files (file ∷ []))
    (reads_on (map remaining (take i sources)) (map items files) (remaining (get_or sources i d)) (items file) each next)

-- a source among others failed, or didn't
pub counts_among : {S : Type 0} (failures : S → ℕ) (fault : Fault) (total : ℕ) (sources : List S) (i : ℕ) (y d : S) → i < length sources
    → sum_by failures sources ≡ total → CountsWith fault (failures (get_or sources i d)) (failures y)
    → CountsWith fault total (sum_by failures (set sources i y))
counts_among failures faults.Device total sources i y d within so_far counted = omega (arith, sum_by-set failures sources i y d within, so_far, counted)
counts_among failures faults.Memory total sources i y d within so_far counted = omega (arith, sum_by-set failures sources i y d within, so_far, counted)
counts_among failures (faults.Schedule fault) total sources i y d within so_far counted = omega (arith, sum_by-set failures sources i y d within, so_far, counted)
counts_among failures (faults.Text fault) total sources i y d within so_far counted = omega (arith, sum_by-set failures sources i y d within, so_far, counted)
counts_among failures (faults.Place missing) total sources i y d within so_far counted = omega (arith, sum_by-set failures sources i y d within, so_far, counted)
counts_among failures (faults.Refusal refusal) total sources i y d within so_far counted = omega (arith, sum_by-set failures sources i y d within, so_far, counted)

pub none_failed : {S : Type 0} (failures : S → ℕ) (total : ℕ) (sources : List S) (i : ℕ) (y d : S) → i < length sources
    → sum_by failures sources ≡ total → failures y ≡ failures (get_or sources i d) → sum_by failures (set sources i y) ≡ total
none_failed failures total sources i y d within so_far counted = omega (arith, sum_by-set failures sources i y d within, so_far, counted)

-- where a write failed and nothing before it did, the sum of the counts is what it counted
pub counts_write : (fault : DeviceFault) (a b c d old new : ℕ) → a ≡ c → b ≡ d → CountsFault fault old new
    → CountsWith (fault_of fault) (c + d + old) (a + b + new)
counts_write devices.Device a b c d old new first second counted = omega (arith, first, second, counted)
counts_write devices.Memory a b c d old new first second counted = omega (arith, first, second, counted)

-- the same where another count stands behind it
pub counts_write_before : (fault : DeviceFault) (a b c old new : ℕ) → a ≡ c → CountsFault fault old new → CountsWith (fault_of fault) (c + old + b) (a + new + b)
counts_write_before devices.Device a b c old new same counted = omega (arith, same, counted)
counts_write_before devices.Memory a b c old new same counted = omega (arith, same, counted)

-- the same where one other count stands before it
pub counts_write_after : (fault : DeviceFault) (a c old new : ℕ) → a ≡ c → CountsFault fault old new → CountsWith (fault_of fault) (c + old) (a + new)
counts_write_after devices.Device a c old new same counted = omega (arith, same, counted)
counts_write_after devices.Memory a c old new same counted = omega (arith, same, counted)
