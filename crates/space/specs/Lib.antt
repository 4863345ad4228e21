-- Axes and places, and the levels of an octree as counts.
pub mod Space
pub mod Levels
