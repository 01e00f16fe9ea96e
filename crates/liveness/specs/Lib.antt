-- What the liveness split of a rule is, and what the walks that refuse it answer.
pub mod Split
pub mod Judge
pub mod Text
