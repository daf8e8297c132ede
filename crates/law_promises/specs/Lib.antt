-- The statements of the promises: what the request demands, over the definitions that the contracts cite.
pub mod Door
pub mod Equal
pub mod History
pub mod Ending
pub mod Turn
pub mod Asking
