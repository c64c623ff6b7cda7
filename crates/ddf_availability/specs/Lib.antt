pub mod Serving
pub mod GoneBack
