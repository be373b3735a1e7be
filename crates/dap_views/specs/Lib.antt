pub mod Asked
pub mod Variables
