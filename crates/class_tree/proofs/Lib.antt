mod Both
mod Appended
mod Fronts
mod Stands
mod Differ
mod Indices
