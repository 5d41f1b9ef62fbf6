pub mod Refusals
pub mod Instances
pub mod Places
pub mod MachineFile
