pub mod Measured
pub mod Puts
pub mod NextAre
pub mod Valid
