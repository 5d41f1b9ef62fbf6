pub mod Maps
pub mod Accesses
