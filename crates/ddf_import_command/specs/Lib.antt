pub mod Import
