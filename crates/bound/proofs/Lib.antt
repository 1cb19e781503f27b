-- Why prices bound every cover if no row pays too much.
pub mod Pricing
