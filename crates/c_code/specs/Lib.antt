pub mod FlatCode
pub mod Machine
pub mod Demands
pub mod Following
pub mod Laws
