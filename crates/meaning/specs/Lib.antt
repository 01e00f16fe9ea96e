-- What a report means: alarms and culprits over a record of truths, the monitor's state and step, temporal logic and plain rules.
pub mod Alarm
pub mod Culprit
pub mod State
pub mod Logic
pub mod Plain
pub mod Calls
pub mod Meaning
pub mod Demand
pub mod Trips
