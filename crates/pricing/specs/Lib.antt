-- What prices are worth, and the sizes of the linear program for them.
pub mod Prices
pub mod Tableau
