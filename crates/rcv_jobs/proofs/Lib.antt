mod Stepping
mod Turning
mod Examples
