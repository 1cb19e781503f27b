-- What an exchange of columns does to a set of columns, and what the images of rows show.
pub mod Partners
pub mod Growing
