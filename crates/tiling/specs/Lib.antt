-- Six times the volume of a cell, and the cells of a grid's tables.
pub mod Volume
pub mod Tables
