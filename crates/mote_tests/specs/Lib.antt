pub mod Scribble
pub mod ScribbleLaw
