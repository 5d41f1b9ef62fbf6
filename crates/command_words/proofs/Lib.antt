mod Parsed
mod Pieces
mod Taken
