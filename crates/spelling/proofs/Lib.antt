-- The wrong refusal that Spell's promise shuts out.
pub mod Refuted
