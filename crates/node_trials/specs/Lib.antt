pub mod Bench
pub mod SeatBench
