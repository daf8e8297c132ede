-- What the laws say of the blocks of an area.
pub mod Area
