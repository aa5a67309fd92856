pub mod Command
