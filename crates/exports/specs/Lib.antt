-- `Codes` says what a call returns and when it writes a lent number, `Outputs` what it writes there.
pub mod Codes
pub mod Outputs
