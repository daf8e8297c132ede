-- Laws of the longwords before the heap.
pub mod Within
