pub mod Words
pub mod InnerWords
