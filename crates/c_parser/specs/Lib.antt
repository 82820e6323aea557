pub mod GivesAll
