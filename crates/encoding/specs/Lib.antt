-- The bits of a configuration.
pub mod Below
pub mod Encoding
pub mod Parts
