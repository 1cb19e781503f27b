-- The words of document 01 in reading order, then what the calls share, the cases a to j, the theorems about the words, and document 000's
-- own words with the theorems that they are document 01's.
pub mod Words
pub mod Calls
pub mod Minimum
pub mod Cases
pub mod Theorems
pub mod McCluskey
