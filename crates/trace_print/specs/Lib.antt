pub mod CanonicalText
pub mod TextLaws
