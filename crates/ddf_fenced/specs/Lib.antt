pub mod Fences
pub mod FencedBays
