pub mod KindNames
pub mod NameTexts
pub mod Words
