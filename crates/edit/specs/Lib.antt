pub mod Edit
pub mod EditLaws
