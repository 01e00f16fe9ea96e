-- Laws of a rule's lines.
pub mod Sections
