mod Forms
mod Pieces
