-- What is so of a method that is verified, and of one that is not.
use Rattle.verifier.specs.declared.fault.MethodFault.{MethodFault}
use Rattle.verifier.specs.declared.fault.MethodFault.TheVariants.{Unverified, TooLong, OutOfMemory}

-- what is so where a method is not verified, and what where its search is too long
abbrev pub OnFault : MethodFault → Type 0 → Type 0 → Type 0
OnFault (Unverified offset) P Q = P
OnFault TooLong P Q = Q
OnFault OutOfMemory P Q = Unit {0}

-- what is so where it is not for want of memory; a part of a search is never too long
abbrev pub OnUnverified : MethodFault → Type 0 → Type 0
OnUnverified (Unverified offset) P = P
OnUnverified TooLong P = ⊥
OnUnverified OutOfMemory P = Unit {0}
