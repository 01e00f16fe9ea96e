-- A monitor that was saved and restored.
pub mod Off
pub mod Promise
pub mod Worked
