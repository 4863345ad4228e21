pub mod Lines
pub mod Walking
