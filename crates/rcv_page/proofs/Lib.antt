pub mod Adding
mod Examples
