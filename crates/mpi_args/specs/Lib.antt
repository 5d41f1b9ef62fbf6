pub mod Folds
pub mod Arguments
pub mod Datatypes
