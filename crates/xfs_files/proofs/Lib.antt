mod Windows
mod Pieces
