-- The definitions that the contracts cite.
pub mod Rule
pub mod Sound
pub mod Test
