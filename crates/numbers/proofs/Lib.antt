-- The laws of digits up to a limit, of signs and of reals.
pub mod Reading
pub mod Decimals
