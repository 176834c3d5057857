pub mod BookLaws
