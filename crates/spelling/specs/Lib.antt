-- What Spell refuses and answers.
pub mod Spell
