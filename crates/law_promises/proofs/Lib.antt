-- The promises, proved.
pub mod Calls
pub mod Door
pub mod Equal
pub mod History
pub mod Done
pub mod Ending
pub mod CallsQuiet
pub mod TablesQuiet
pub mod Quiet
pub mod Turn
pub mod Asking
