pub mod Agendas
pub mod Clocks
pub mod Closing
pub mod Loading
pub mod MoteLaws
pub mod RowLaws
pub mod SeenLaws
