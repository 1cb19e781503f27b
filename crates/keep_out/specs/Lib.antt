-- What the keep-out call promises, and what the exchange of wanted and barred codes does.
pub mod KeepOut
pub mod Theorems
