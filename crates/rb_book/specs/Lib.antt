pub mod Html
pub mod Titles
pub mod Sites
pub mod Pages
pub mod Contents
pub mod Books
