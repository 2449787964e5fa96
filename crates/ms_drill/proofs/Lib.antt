pub mod WrongLines
pub mod EventSpelling
