mod Counts
mod Escapes
mod MemberTexts
mod MethodPlaces
mod OneLine
mod Pieces
