-- What all layers share: the conditional, document 01's limits, the numbers of words, forms, kinds and entries.
pub mod Choice
pub mod Limits
pub mod Ops
pub mod Words
pub mod Forms
pub mod Kinds
pub mod Entries
pub mod Lent
