pub mod SyntaxRows
pub mod ProgramRows
pub mod Fair
pub mod MpiNames
