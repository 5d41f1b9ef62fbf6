pub mod ImageLaws
pub mod OwnerLaws
