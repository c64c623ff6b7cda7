pub mod Served
pub mod Names
pub mod Numbers
pub mod Printed
pub mod Created
mod FirstCauses
