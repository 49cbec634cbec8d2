mod Causes
mod Forests
mod Growth
mod Trees
mod CellPlaces
