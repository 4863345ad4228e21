-- Laws of the plan: the bounds of a scale and of an axis, what is known of a plan that is ready, and its refusals.
mod Axes
pub mod Ready
pub mod Theorems
