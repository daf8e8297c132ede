-- Pictures that differ only in the current job and in the fields of jobs that calls, picks and ticks change.
pub mod Steady
pub mod Writes
